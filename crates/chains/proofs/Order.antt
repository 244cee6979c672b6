-- The dictionary order of Listing is a strict order in which any two words stand one before the other.
-- In order: two words by their first letters (`before_cons`, `before_same`, from which all else follows); no word stands before
-- itself; what stands before a word stands before all that the word stands before; two words are equal or one is before the other.
use Rattle.std.specs.Prelude.{◌≡◌, refl, ◌↔◌, ◌⊎◌, Bool, true, false, ◌&&◌, ◌||◌, [], ◌∷◌, ℕ, ◌<◌, T, ltb, eqb}
use Rattle.std.proofs.Common.{◌∙◌, inl, inr, ⊎_elim, le_refl, arith, le-ltb, eq-eqb, ltb→lt, lt→ltb, eqb→eq}
use Rattle.std.proofs.Math.Decide.{dec_lt}
use Rattle.std.specs.Float.Ieee.Fits.{eq→eqb}
use Rattle.chains.specs.Words.{Word}
use Rattle.chains.specs.Listing.{before}

-- The test that `before` makes at two letters, read as facts.
by_tests : {P Q : Type 0} (a b c : Bool) → T a ↔ P → T b ↔ Q → T (a || (b && c)) ↔ (P ⊎ (Q × T c))
by_tests true b c p q = (λ _. inl (p.0 tt), λ _. tt)
by_tests {P} {Q} false true c p q = (λ t. inr (q.0 tt, t), ⊎_elim (λ (h : P). absurd (p.1 h)) (λ (h : Q × T c). h.1))
by_tests {P} {Q} false false c p q = (absurd, ⊎_elim p.1 (λ (h : Q × T c). q.1 h.0))

-- Two words by their first letters: the lower one decides, and where they are the same the letters after them.
pub before_cons : (x y : ℕ) (u v : Word) → T (before (x ∷ u) (y ∷ v)) ↔ ((x < y) ⊎ ((x ≡ y) × T (before u v)))
unfolding before
before_cons x y u v =
    by_tests (ltb x y) (eqb x y) (before u v)
    (ltb→lt x y, lt→ltb x y)
    (eqb→eq x y, eq→eqb)

-- The same first letter before both words makes no difference.
pub before_same : (l : ℕ) (u v : Word) → before (l ∷ u) (l ∷ v) ≡ before u v
unfolding before
before_same l u v = rw (le-ltb l l (le_refl l), eq-eqb l l refl)

pub before_irrefl : (w : Word) → T (before w w) → ⊥
unfolding before
before_irrefl [] t = t
before_irrefl (x ∷ w) t = before_irrefl w (rw (before_same x w w) at t)

pub before_trans : (u v w : Word) → T (before u v) → T (before v w) → T (before u w)
unfolding before
before_trans u v [] s t = t
before_trans u [] (z ∷ w) s t = absurd s
before_trans [] (y ∷ v) (z ∷ w) s t = tt
before_trans (x ∷ u) (y ∷ v) (z ∷ w) s t =
    (before_cons x z u w).1 (both (before_trans u v w) ((before_cons x y u v).0 s) ((before_cons y z v w).0 t))
  where
    both :
        (T (before u v) → T (before v w) → T (before u w))
        → (x < y) ⊎ ((x ≡ y) × T (before u v))
        → (y < z) ⊎ ((y ≡ z) × T (before v w))
        → (x < z) ⊎ ((x ≡ z) × T (before u w))
    both after (inl h) (inl g) = inl (omega arith)
    both after (inl h) (inr g) = inl (omega arith)
    both after (inr h) (inl g) = inl (omega arith)
    both after (inr h) (inr g) = inr (h.0 ∙ g.0, after h.1 g.1)

pub before_cases : (u v : Word) → T (before u v) ⊎ ((u ≡ v) ⊎ T (before v u))
unfolding before
before_cases [] [] = inr (inl refl)
before_cases [] (y ∷ v) = inl tt
before_cases (x ∷ u) [] = inr (inr tt)
before_cases (x ∷ u) (y ∷ v) = by_letters (dec_lt x y) (dec_lt y x) (before_cases u v)
  where
    by_letters :
        Dec (x < y)
        → Dec (y < x)
        → T (before u v) ⊎ ((u ≡ v) ⊎ T (before v u))
        → T (before (x ∷ u) (y ∷ v)) ⊎ ((x ∷ u ≡ y ∷ v) ⊎ T (before (y ∷ v) (x ∷ u)))
    by_letters (yes h) g o = inl ((before_cons x y u v).1 (inl h))
    by_letters (no h) (yes g) o = inr (inr ((before_cons y x v u).1 (inl g)))
    by_letters (no h) (no g) (inl o) = inl ((before_cons x y u v).1 (inr (omega arith, o)))
    by_letters (no h) (no g) (inr (inl o)) = let e : x ≡ y = omega arith in inr (inl (cc))
    by_letters (no h) (no g) (inr (inr o)) = inr (inr ((before_cons y x v u).1 (inr (omega arith, o))))
