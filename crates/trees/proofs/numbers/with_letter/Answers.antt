-- Each arm is the definition's own line for that letter.
use Rattle.std.proofs.Common.{Option, Some, None}
use mathlib.Core.Path.{◌≡◌, refl, sym, ap, ◌∙◌}
use mathlib.Core.List.{◌∷◌}
use Prim.Native.Nat.{ℕ, zero, suc, ◌+◌, ◌*◌, ◌^◌, ◌<◌}
use native.Mathlib.Omega.{arith}
use Rattle.std.specs.Option.{SomeIff}
use Rattle.chains.specs.Words.{Word}
use Rattle.words.specs.Answers.{sized}
use Rattle.words.proofs.Sized.{sized_number, sized_over}
use Rattle.trees.specs.Trees.{number}
use Rattle.trees.proofs.numbers.with_letter.Goals as goal

-- A checked sum or product.
checked : (o : Option ℕ) (m : ℕ) → SomeIff o (m < 2 ^ 64) m → o ≡ sized m
checked None m h = sym (sized_over m (omega arith))
checked (Some x) m h = ap Some h.1 ∙ sym (sized_number m h.0)

-- A letter k of 1 to 3 before a word of the number n, and another one.
by_letter : (k : ℕ) (f : ℕ → ℕ) → ((v : Word) → number (k ∷ v) ≡ f (number v)) → (l n : ℕ) (o : Option ℕ) → l ≡ k
    → SomeIff o (f n < 2 ^ 64) (f n)
    → (w : Word) → number w ≡ n → o ≡ sized (number (l ∷ w))
by_letter k f s l n o h d w e = rw (h, s w, e) (checked o (f n) d)

other : (l : ℕ) (w : Word) → (l ≡ 1 → ⊥) → (l ≡ 2 → ⊥) → (l ≡ 3 → ⊥) → number (l ∷ w) ≡ number w
unfolding number
other zero w h i j = refl
other (suc zero) w h i j = absurd (h refl)
other (suc (suc zero)) w h i j = absurd (i refl)
other (suc (suc (suc zero))) w h i j = absurd (j refl)
other (suc (suc (suc (suc x)))) w h i j = refl

by_other : (l n : ℕ) → (l ≡ 1 → ⊥) → (l ≡ 2 → ⊥) → (l ≡ 3 → ⊥) → n < 2 ^ 64 → (w : Word) → number w ≡ n
    → Some n ≡ sized (number (l ∷ w))
by_other l n h i j f w e = rw (other l w h i j, e) (sym (sized_number n f))

pub returns-in-1 : goal.returns-in-1
unfolding number
returns-in-1 c =
    by_letter 1 (λ m. m + 1) (λ v. refl) _ _ _ c.in-1.is c.checked_add.ensures

pub returns-in-2 : goal.returns-in-2
unfolding number
returns-in-2 c =
    by_letter 2 (λ m. m * 2) (λ v. omega arith) _ _ _ c.in-2.is c.checked_mul.ensures

pub returns-in-3 : goal.returns-in-3
unfolding number
returns-in-3 c =
    by_letter 3 (λ m. m * 3) (λ v. omega arith) _ _ _ c.in-3.is c.checked_mul-in-3.ensures

pub returns-in_default : goal.returns-in_default
unfolding number
returns-in_default c =
    by_other _ _ (λ e. omega arith) (λ e. omega arith) (λ e. omega arith) c.ranges.n.fits
