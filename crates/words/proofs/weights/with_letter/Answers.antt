-- A letter of 0 to 3 does what its two digits in base two say, and a byte above 3 changes nothing.
use Rattle.std.proofs.Common.{Option, Some}
use mathlib.Core.Path.{◌≡◌, refl, sym, ◌∙◌}
use mathlib.Core.List.{◌∷◌}
use Prim.Native.Nat.{ℕ, zero, suc, ◌+◌, ◌*◌, ◌/◌, ◌%◌, ◌^◌, ◌≤◌, ◌<◌}
use native.Mathlib.Omega.{arith}
use borrow.Author.Rules.{rules}
use Rattle.chains.specs.Chains.{total}
use Rattle.chains.specs.Words.{Word, chain_of}
use Rattle.chains.proofs.Weight.{weight, total_chain_of}
use Rattle.words.specs.Answers.{sized, weighed_of}
use Rattle.words.proofs.Sized.{sized_number}
use Rattle.words.proofs.weights.with_letter.Goals as goal

weight_letter : (l : ℕ) (w : Word) → l ≤ 3 → weight (l ∷ w) ≡ l % 2 + (2 + l / 2) * weight w
unfolding weight
weight_letter zero w h = omega arith
weight_letter (suc zero) w h = omega arith
weight_letter (suc (suc zero)) w h = omega arith
weight_letter (suc (suc (suc zero))) w h = omega arith
weight_letter (suc (suc (suc (suc x)))) w h = absurd (omega arith)

by_letter : (l n : ℕ) (x : Option ℕ) → l ≤ 3 → x ≡ sized (l % 2 + (2 + l / 2) * n) → (w : Word) → total (chain_of w) ≡ n
    → x ≡ weighed_of (l ∷ w)
unfolding weighed_of
by_letter l n x h d w e =
    let m : weight w ≡ n = sym (total_chain_of w) ∙ e in
    rw (total_chain_of, weight_letter l w h, m) d

above : (l : ℕ) (w : Word) → 3 < l → weight (l ∷ w) ≡ weight w
unfolding weight
above zero w h = absurd (omega arith)
above (suc zero) w h = absurd (omega arith)
above (suc (suc zero)) w h = absurd (omega arith)
above (suc (suc (suc zero))) w h = absurd (omega arith)
above (suc (suc (suc (suc x)))) w h = refl

by_other : (l n : ℕ) → 3 < l → n < 2 ^ 64 → (w : Word) → total (chain_of w) ≡ n → Some n ≡ weighed_of (l ∷ w)
unfolding weighed_of
by_other l n h f w e =
    let m : weight w ≡ n = sym (total_chain_of w) ∙ e in
    rw (total_chain_of, above l w h, m) (sym (sized_number n f))

pub returns-then-letter-gt3 : goal.returns-then-letter-gt3
returns-then-letter-gt3 c =
    by_other _ _ c.if-letter-gt3.true (search rules)

pub scaled-requires : goal.scaled-requires
scaled-requires c =
    (omega arith, omega arith)

pub returns : goal.returns
returns c =
    by_letter _ _ _ c.if-letter-gt3.false (rw (c.from.ensures, c.from-2.ensures) at c.scaled.ensures)
