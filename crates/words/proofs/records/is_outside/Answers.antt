-- The numbers passed are all in the table, so what is left of the record decides: this is the invariant.
use mathlib.Core.Path.{◌≡◌, refl}
use mathlib.Core.Bool.{true, false, ◌||◌, or-true}
use mathlib.Core.List.{List}
use Prim.Native.Nat.{ℕ, ◌+◌, ◌≤◌, ◌<◌}
use native.Mathlib.Numerals.{add-one}
use lib.Dec.{ltb}
use lib.ListN.{length, drop, get_or, drop_of_length-le}
use lib.Seq.{drop-cons}
use borrow.Author.Tests.{lt-ltb, le-ltb, le-leb, lt-leb}
use Rattle.words.specs.Records.{beyond}
use native.Mathlib.Omega.{arith}
use Rattle.words.proofs.records.is_outside.Goals as goal

too_many : (l : List ℕ) → 64 < length l → true ≡ (ltb 64 (length l) || beyond l)
too_many l h = rw (lt-ltb 64 (length l) h)

module _ (l : List ℕ) (i : ℕ) (left : beyond l ≡ beyond (drop i l)) where
  found : i < length l → 1344 ≤ get_or l i 0 → true ≡ (ltb 64 (length l) || beyond l)
  unfolding beyond
  found h k = rw (left, drop-cons l i 0 h, le-leb 1344 (get_or l i 0) k, or-true)

  none_found : length l ≤ 64 → length l ≤ i → false ≡ (ltb 64 (length l) || beyond l)
  unfolding beyond
  none_found few h = rw (left, drop_of_length-le l h, le-ltb 64 (length l) few)

  passed : i < length l → get_or l i 0 < 1344 → beyond l ≡ beyond (drop (i + 1) l)
  unfolding beyond
  passed h k = rw add-one (rw (drop-cons l i 0 h, lt-leb 1344 (get_or l i 0) k) at left)

pub returns-then-numbers-gt64 : goal.returns-then-numbers-gt64
returns-then-numbers-gt64 c =
    too_many c.args.numbers.now (omega arith)

pub loop-number-init : goal.loop-number-init
loop-number-init c = refl

pub returns-then-number-ge1344 : goal.returns-then-number-ge1344
returns-then-number-ge1344 c = found _ _ c.loop-number.invariant c.loop-number-test.true (omega arith)

pub loop-number-preserved : goal.loop-number-preserved
loop-number-preserved c = passed _ _ c.loop-number.invariant c.loop-number-test.true (omega arith)

pub returns : goal.returns
returns c = none_found _ _ c.loop-number.invariant (omega arith) c.loop-number-test.false
