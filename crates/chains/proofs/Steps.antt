-- The two laws that the theory rests on: the step law of the list, with no count of steps in it, and induction from m / 2 and m / 3
-- to m. Nothing after them looks at how `words_at` counts its steps.
use Rattle.std.specs.Prelude.{◌≡◌, refl, Bool, true, false, List, ℕ, zero, suc, ◌/◌, ◌≤◌, ◌<◌}
use Rattle.std.proofs.Common.{ap₂, le_refl, arith}
use Rattle.chains.specs.Words.{Word}
use Rattle.chains.specs.Listing.{at_rest, words_in, words_at}

-- Induction from the half and the third.
pub by_rest {ℓ} : (P : ℕ → Type ℓ) → P 0 → ((m : ℕ) → 0 < m → P (m / 2) → P (m / 3) → P m) → (m : ℕ) → P m
by_rest P none more m = go m m (le_refl m)
  where
    at : (i : ℕ) → (0 < i → P (i / 2)) → (0 < i → P (i / 3)) → P i
    at zero h t = none
    at (suc i) h t = more (suc i) (omega arith) (h (omega arith)) (t (omega arith))

    go : (k i : ℕ) → i ≤ k → P i
    go zero i h = at i (λ (z : 0 < i). absurd (omega arith)) (λ (z : 0 < i). absurd (omega arith))
    go (suc k) i h = at i (λ (z : 0 < i). go k (i / 2) (omega arith)) (λ (z : 0 < i). go k (i / 3) (omega arith))

-- The number of steps allowed makes no difference once it is enough.
enough : (k j : ℕ) (f : Bool) (m : ℕ) → m ≤ k → m ≤ j → words_in k f m ≡ words_in j f m
unfolding words_in at_rest
enough zero zero f m hk hj = refl
enough zero (suc j) true zero hk hj = refl
enough zero (suc j) false zero hk hj = refl
enough zero (suc j) f (suc m) hk hj = absurd (omega arith)
enough (suc k) zero true zero hk hj = refl
enough (suc k) zero false zero hk hj = refl
enough (suc k) zero f (suc m) hk hj = absurd (omega arith)
enough (suc k) (suc j) f m hk hj =
    ap₂ (λ (h t : List Word). at_rest f m h t)
    (enough k j false (m / 2) (omega arith) (omega arith))
    (enough k j true (m / 3) (omega arith) (omega arith))

-- The step law.
pub words_at_step : (f : Bool) (m : ℕ) → words_at f m ≡ at_rest f m (words_at false (m / 2)) (words_at true (m / 3))
unfolding words_at words_in at_rest
words_at_step true zero = refl
words_at_step false zero = refl
words_at_step f (suc m) =
    ap₂ (λ (h t : List Word). at_rest f (suc m) h t)
    (enough m (suc m / 2) false (suc m / 2) (omega arith) (le_refl (suc m / 2)))
    (enough m (suc m / 3) true (suc m / 3) (omega arith) (le_refl (suc m / 3)))
