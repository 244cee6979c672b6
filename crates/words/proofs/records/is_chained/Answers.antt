-- The pairs passed are all proper multiples, so what is left of the record, from the last number passed on, decides: this is the
-- invariant. A part is a proper multiple of another exactly if it stands above it.
use mathlib.Core.Path.{◌≡◌, refl, sym, ap, ap₂, ◌∙◌}
use mathlib.Core.Logic.Iff
use mathlib.Core.Logic.{◌↔◌}
use mathlib.Core.Bool.{Bool, true, false, ◌&&◌, false≢true}
use mathlib.Core.List.{List, [], ◌∷◌}
use Prim.Native.Nat.{ℕ, suc, ◌+◌, ◌-◌, ◌%◌, ◌≤◌, ◌<◌}
use native.Mathlib.Omega.{arith}
use lib.Dec.{T, ltb, eqb}
use lib.ListN.{length, drop, get_or, length-drop}
use lib.Seq.{drop-cons}
use Rattle.chains.specs.Chains.{Part, value}
use Rattle.chains.specs.Divides.{Above}
use Rattle.chains.proofs.Divides.{value_pos, multiple_above}
use Rattle.parts.specs.Parts.{part_at}
use Rattle.words.specs.Records.{record_parts, chained_test}
use Rattle.words.specs.RecordLaws.{number_known, test_multiple}
use Rattle.words.proofs.records.is_chained.Goals as goal

-- The answer for a pair is the test's own.
pair : (p q : Part) (r : Bool) → (r ≡ true) ↔ Above p q → r ≡ (ltb (value q) (value p) && eqb (value p % value q) 0)
pair p q r told =
    same r (ltb (value q) (value p) && eqb (value p % value q) 0)
    (Iff.trans told (Iff.symm (Iff.trans (test_multiple (value p) (value q) (value_pos q)) (multiple_above p q))))
  where
    same : (a b : Bool) → (a ≡ true) ↔ T b → a ≡ b
    same true true e = refl
    same true false e = absurd (e.0 refl)
    same false true e = absurd (false≢true (e.1 tt))
    same false false e = refl

-- One pair more: r is the answer for the parts before i and at i.
module _ (l : List ℕ) (i : ℕ) (h : 0 < i) (k : i < length l)
    (left : chained_test (record_parts l) ≡ chained_test (record_parts (drop (i - 1) l)))
    (p q : Part) (ep : p ≡ part_at (get_or l (i - 1) 0)) (eq : q ≡ part_at (get_or l i 0)) (r : Bool) (told : (r ≡ true) ↔ Above p q) where
  next : chained_test (record_parts l) ≡ (r && chained_test (record_parts (drop i l)))
  unfolding chained_test record_parts
  next =
      let at : suc (i - 1) ≡ i = omega arith in
      let here = drop-cons l i 0 k in
      let two : drop (i - 1) l ≡ get_or l (i - 1) 0 ∷ get_or l i 0 ∷ drop (suc i) l =
      rw (drop-cons l (i - 1) 0 (omega arith), at, here) refl in
      let Told-here = rw (ep, eq) at (pair p q r told) in
      left
      ∙ ap (λ w. chained_test (record_parts w)) two
      ∙ ap₂ (λ b w. b && chained_test (record_parts w)) (sym Told-here) (sym here)

  failed : r ≡ false → false ≡ chained_test (record_parts l)
  failed f = rw (next, f)

  passed : r ≡ true → chained_test (record_parts l) ≡ chained_test (record_parts (drop (i + 1 - 1) l))
  passed f = let at : i + 1 - 1 ≡ i = omega arith in rw (next, f, at)

-- At most one number is left.
all_passed : (w : List ℕ) → length w ≤ 1 → chained_test (record_parts w) ≡ true
unfolding chained_test record_parts
all_passed [] h = refl
all_passed (x ∷ []) h = refl
all_passed (x ∷ y ∷ w) h = absurd (omega arith)

pub loop-i-init : goal.loop-i-init
loop-i-init c =
    refl

pub part_of-p-requires : goal.part_of-p-requires
part_of-p-requires c =
    number_known _ _ c.requires (omega (arith, c.loop-i-test.true, c.loop-i.auto.i))

pub part_of-q-requires : goal.part_of-q-requires
part_of-q-requires c =
    number_known _ _ c.requires c.loop-i-test.true

pub returns-then-not-is_above : goal.returns-then-not-is_above
returns-then-not-is_above c =
    failed _ _ c.loop-i.auto.i c.loop-i-test.true c.loop-i.invariant _ _ c.part_of-p.ensures
    c.part_of-q.ensures _ c.is_above.ensures c.if-not-is_above.true

pub loop-i-preserved : goal.loop-i-preserved
loop-i-preserved c =
    passed _ _ c.loop-i.auto.i c.loop-i-test.true c.loop-i.invariant _ _ c.part_of-p.ensures
    c.part_of-q.ensures _ c.is_above.ensures c.if-not-is_above.false

pub returns : goal.returns
returns c =
    sym (c.loop-i.invariant ∙ all_passed _ (simp length-drop (omega arith)))
