-- Behind equal letters the order of two words is that of what is left of them: this is the invariant. Where one of them ends, the
-- lengths decide.
use mathlib.Core.Path.{◌≡◌, sym, ap, ap₂, ◌∙◌}
use mathlib.Core.List.{[], ◌∷◌}
use Prim.Native.Nat.{ℕ, ◌+◌, ◌<◌}
use native.Mathlib.Numerals.{add-one}
use native.Mathlib.Omega.{arith}
use lib.ListN.{length, drop, get_or, length-drop}
use lib.Seq.{drop-cons}
use Rattle.std.specs.declared.cmp.Ordering.TheVariants.{Less, Equal, Greater}
use Rattle.std.specs.Ordering.{nat_cmp, ordering_then}
use Rattle.std.specs.Cmp.{nat_cmp_is}
use Rattle.chains.specs.Words.{Word}
use Rattle.chains.specs.Listing.{before}
use Rattle.comparing.specs.Answers.{order_of}
use Rattle.comparing.proofs.FirstLetters.{order_first, decided, passed}
use Rattle.comparing.proofs.order.singly.Goals as goal

step : (u v : Word) (i : ℕ) → i < length u → i < length v
    → order_of (drop i u) (drop i v) ≡ ordering_then (nat_cmp (get_or u i 0) (get_or v i 0)) (order_of (drop (i + 1) u) (drop (i + 1) v))
step u v i h k =
    rw add-one (ap₂ order_of (drop-cons u i 0 h) (drop-cons v i 0 k) ∙ order_first _ _ _ _)

-- What is left, s and t, and one of them is empty; m and n are the lengths of the words.
ended : (s t : Word) (i m n : ℕ) → m ≡ i + length s → n ≡ i + length t → (0 < length s → 0 < length t → ⊥) → nat_cmp m n ≡ order_of s t
unfolding order_of before
ended [] [] i m n e f h = sym (nat_cmp_is m n Equal (omega arith))
ended [] (y ∷ t) i m n e f h = sym (nat_cmp_is m n Less (omega arith))
ended (x ∷ s) [] i m n e f h = sym (nat_cmp_is m n Greater (omega arith))
ended (x ∷ s) (y ∷ t) i m n e f h = absurd (h (omega arith) (omega arith))

pub loop-i-preserved : goal.loop-i-preserved
loop-i-preserved c =
    c.loop-i.invariant
    ∙ step _ _ c.loop-i.i (omega arith) (omega arith)
    ∙ ap (λ o. ordering_then o (order_of (drop (c.loop-i.i + 1) c.args.u.now) (drop (c.loop-i.i + 1) c.args.v.now))) (sym c.cmp-order.ensures)
    ∙ passed c.cmp-order.result _ (sym c.ne.ensures ∙ c.if-ne.false)

pub returns-then-ne : goal.returns-then-ne
returns-then-ne c =
    decided c.cmp-order.result _ (sym c.ne.ensures ∙ c.if-ne.true)
    ∙ ap (λ o. ordering_then o (order_of (drop (c.loop-i.i + 1) c.args.u.now) (drop (c.loop-i.i + 1) c.args.v.now))) c.cmp-order.ensures
    ∙ sym (c.loop-i.invariant ∙ step _ _ c.loop-i.i (omega arith) (omega arith))

pub returns : goal.returns
returns c =
    let i = c.loop-i.i in
    c.cmp.ensures
    ∙ ended (drop i c.args.u.now) (drop i c.args.v.now) i (length c.args.u.now) (length c.args.v.now) (omega (arith, length-drop i c.args.u.now)) (omega (arith, length-drop i c.args.v.now))
    (λ h k. omega (arith, length-drop i c.args.u.now, length-drop i c.args.v.now))
    ∙ sym c.loop-i.invariant
