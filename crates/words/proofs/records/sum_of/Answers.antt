-- The sum so far and that of the parts that are left make the whole: this is the invariant. Where one more part would pass the
-- largest 64-bit number, the whole does too.
use Rattle.std.proofs.Common.{None}
use mathlib.Core.Path.{◌≡◌}
use mathlib.Core.List.{List}
use Prim.Native.Nat.{ℕ, suc, ◌+◌, ◌^◌, ◌<◌}
use native.Mathlib.Numerals.{add-one}
use native.Mathlib.Omega.{arith}
use lib.ListN.{length, get_or, drop_of_length-le}
use lib.Seq.{drop-cons}
use borrow.Author.Tests.{lt-ltb, le-ltb}
use Rattle.chains.specs.Chains.{value, total}
use Rattle.parts.specs.Parts.{limit, part_at, sum_of}
use Rattle.words.specs.Records.{record_parts}
use Rattle.words.specs.RecordLaws.{number_known}
use Rattle.words.proofs.records.sum_of.Invariants.{sum_from, Summed}
use Rattle.words.proofs.records.sum_of.Goals as goal

-- One number more, whose part is v: it passes the limit, or it is added.
module _ (l : List ℕ) (s i v : ℕ) (inv : Summed l s i) (h : i < length l) (e : v ≡ value (part_at (get_or l i 0))) where
  step : s + v + sum_from (i + 1) l ≡ total (record_parts l)
  unfolding total record_parts
  step =
      let w : s + (value (part_at (get_or l i 0)) + sum_from (suc i) l) ≡ total (record_parts l) = rw (drop-cons l i 0) at inv.whole in
      rw add-one (omega arith)

  over : (s + v < 2 ^ 64 → ⊥) → None ≡ sum_of (total (record_parts l))
  unfolding sum_of
  over k = rw (le-ltb (total (record_parts l)) limit (omega (arith, step, k)))

pub value_of-requires : goal.value_of-requires
value_of-requires c = number_known _ _ c.requires c.loop-number-test.true

pub returns-in_err-sum : goal.returns-in_err-sum
returns-in_err-sum c =
    cc (c.from_residual.ensures, over _ _ _ _ c.loop-number.invariant c.loop-number-test.true c.value_of.ensures c.in_err-sum.ensures)

pub loop-number-preserved : goal.loop-number-preserved
loop-number-preserved c =
    record {
      low = omega (arith, c.in_ok-sum.ensures);
      whole = rw (c.in_ok-sum.ensures.1) (step _ _ _ _ c.loop-number.invariant c.loop-number-test.true c.value_of.ensures);
    }

pub returns : goal.returns
unfolding sum_of total record_parts
returns c =
    let all : total (record_parts c.args.numbers.now) ≡ c.loop-number.sum =
    omega (arith, rw (drop_of_length-le c.args.numbers.now c.loop-number-test.false) at c.loop-number.invariant.whole) in
    rw (all, lt-ltb c.loop-number.sum limit c.loop-number.invariant.low)
