-- What is left of the word goes on from the way: this is the invariant.
use mathlib.Core.Path.{◌≡◌, refl, sym, ◌∙◌}
use mathlib.Core.Bool.{true, false}
use mathlib.Core.List.{[], ◌∷◌}
use Prim.Native.Nat.{ℕ, suc, ◌+◌, ◌≤◌, ◌<◌}
use native.Mathlib.Numerals.{add-one}
use lib.Dec.{eqb}
use lib.ListN.{length, drop, get_or, drop_of_length-le}
use lib.Seq.{drop-cons}
use Rattle.std.specs.Prelude.{Option, Some, None}
use Rattle.std.specs.Option.{is_some}
use Rattle.chains.specs.Words.{Word}
use Rattle.trees.specs.declared.producing.Way.{Way}
use Rattle.trees.specs.Trees.{produced}
use Rattle.trees.specs.Walk.{goes_on_from, goes_on}
use Rattle.trees.proofs.producing.is_produced.Goals as goal

module _ (l : Word) (k n : ℕ) (o : Option ℕ) (i : ℕ) (inv : produced l k ≡ goes_on_from n o (drop i l)) where
  -- One letter more leads to r.
  next : i < length l → (r : Option Way) → ((w : Word) → goes_on r w ≡ goes_on_from n o (get_or l i 0 ∷ w))
      → produced l k ≡ goes_on r (drop (i + 1) l)
  next h r f = inv ∙ rw (drop-cons l i 0 h, add-one) (sym (f (drop (suc i) l)))

  -- No letter is left.
  at_end : length l ≤ i → goes_on_from n o [] ≡ produced l k
  at_end h = sym (rw (drop_of_length-le l h) at inv)

-- No letter is to come, or one is.
whole : (n : ℕ) (o : Option ℕ) → is_some o ≡ false → eqb n 1 ≡ goes_on_from n o []
unfolding goes_on_from produced
whole n None e = refl
whole n (Some x) e = cc

cut : (n : ℕ) (o : Option ℕ) → is_some o ≡ true → false ≡ goes_on_from n o []
unfolding goes_on_from produced
cut n None e = cc
cut n (Some x) e = refl

pub returns-in_default : goal.returns-in_default
unfolding goes_on
returns-in_default c =
    sym (next _ _ _ _ _ c.loop-letter.invariant c.loop-letter-test.true None c.in_default.ensures)

pub loop-letter-preserved : goal.loop-letter-preserved
unfolding goes_on
loop-letter-preserved c =
    next _ _ _ _ _ c.loop-letter.invariant c.loop-letter-test.true (Some c.in-Some.further) c.in-Some.ensures

pub returns-then-is_none : goal.returns-then-is_none
returns-then-is_none c =
    whole _ _ c.if-is_none.ensures ∙ at_end _ _ _ _ _ c.loop-letter.invariant c.loop-letter-test.false

pub returns-else-is_none : goal.returns-else-is_none
returns-else-is_none c =
    c.if-is_none.false ∙ cut _ _ c.if-is_none.ensures ∙ at_end _ _ _ _ _ c.loop-letter.invariant c.loop-letter-test.false
