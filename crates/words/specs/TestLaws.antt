-- What an answer that a test chooses between x and y says of the test. In order: the answer is x, or y, where they differ; the
-- answer is z, which one of them is not; the answer is z, whichever of them that is; two tests; a test that fails exactly if
-- something holds. Several tests in a row are read one after the other: reading a word and reading a record are such answers
-- (Refusals).
use Rattle.std.specs.Prelude.{◌≡◌, refl, ◌↔◌, ◌⊎◌, Bool, true, false, cond, ◌&&◌, T}
use Rattle.std.proofs.Common.{subst, inl, inr}
use Rattle.std.specs.Float.Ieee.Fits.{and_i, and_l, and_r}

module _ {X : Type 0} where
  pub is_first : (a : Bool) (x y : X) → ¬ (y ≡ x) → (cond a x y ≡ x) ↔ T a
  is_first true x y n = (λ _. tt, λ _. refl)
  is_first false x y n = (n, absurd)

  pub is_second : (a : Bool) (x y : X) → ¬ (x ≡ y) → (cond a x y ≡ y) ↔ (¬ T a)
  is_second true x y n = (λ e. absurd (n e), λ h. absurd (h tt))
  is_second false x y n = (λ _ t. t, λ _. refl)

  pub in_first : (a : Bool) (x y z : X) → ¬ (y ≡ z) → (cond a x y ≡ z) ↔ (T a × (x ≡ z))
  in_first true x y z n = (λ e. (tt, e), λ h. h.1)
  in_first false x y z n = (λ e. absurd (n e), λ h. absurd h.0)

  pub in_second : (a : Bool) (x y z : X) → ¬ (x ≡ z) → (cond a x y ≡ z) ↔ ((¬ T a) × (y ≡ z))
  in_second true x y z n = (λ e. absurd (n e), λ h. absurd (h.0 tt))
  in_second false x y z n = (λ e. (λ t. t, e), λ h. h.1)

  pub one_of_both : (a : Bool) (x y z : X) → cond a x y ≡ z → (x ≡ z) ⊎ (y ≡ z)
  one_of_both true x y z e = inl e
  one_of_both false x y z e = inr e

-- Two tests of which both hold.
pub both_tests : (a b : Bool) → T (a && b) ↔ (T a × T b)
both_tests a b = (λ t. (and_l a b t, and_r a b t), λ t. and_i a b t.0 t.1)

pub both_first : (a b : Bool) → (a && b) ≡ true → a ≡ true
both_first true b t = refl
both_first false b t = t

pub both_second : (a b : Bool) → (a && b) ≡ true → b ≡ true
both_second true b t = t
both_second false true t = refl
both_second false false t = t

-- A test that fails exactly if P holds.
module _ {P : Type 0} where
  pub test_true : (b : Bool) → (P → b ≡ false) → (b ≡ false → P) → T b ↔ (¬ P)
  test_true true f g = (λ _ p. subst T (f p) tt, λ _. tt)
  test_true false f g = (absurd, λ h. h (g refl))

  pub test_false : (b : Bool) → (P → b ≡ false) → (b ≡ false → P) → (¬ T b) ↔ P
  test_false true f g = (λ h. absurd (h tt), λ p. absurd (subst T (f p) tt))
  test_false false f g = (λ _. g refl, λ _ t. t)
