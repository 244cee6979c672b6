-- The run of a chain of n is n × x modulo m, for every chain of n.
-- In order: the run along a word; the theorem of record (`run_is_product`); what follows from it. The definitions are in Run.
use Rattle.std.specs.Prelude.{◌≡◌, ℕ, zero, suc, ◌+◌, ◌*◌, ◌%◌, ◌≤◌, List, [], ◌∷◌, refl}
use Rattle.std.proofs.Common.{sym, ap, ◌∙◌, zero-mul}
use Rattle.std.proofs.Math.Nat.{zero-mod, mod-add-mod, add-mod-mod}
use native.Mathlib.Omega.{arith}
use Rattle.chains.specs.Chains.{Part, ChainOf}
use Rattle.chains.specs.Words.{Word, word_of}
use Rattle.chains.proofs.Weight.{weight, total_chain_of}
use Rattle.chains.proofs.RoundTrip.{chain_word_chain}
use Rattle.running.specs.Run.{doubled, tripled, added, run, chain_run}

-- ---- the run along a word

module _ (m : ℕ) where
  -- Twice and three times the residue of z, and x added to it.
  twice_mod : (z : ℕ) → doubled m (z % m) ≡ 2 * z % m
  unfolding doubled
  twice_mod z =
      let two : (k : ℕ) → 2 * k ≡ k + k = λ k. omega arith in
      rw (two (z % m), two z, mod-add-mod z m (z % m), add-mod-mod z z m)

  thrice_mod : (z : ℕ) → tripled m (z % m) ≡ 3 * z % m
  unfolding tripled doubled
  thrice_mod z =
      let three : (k : ℕ) → 3 * k ≡ k + 2 * k = λ k. omega arith in
      rw (three (z % m), three z, mod-add-mod z m (2 * (z % m)), ← add-mod-mod z (2 * (z % m)) m, twice_mod z)
      (add-mod-mod z (2 * z) m)

  added_mod : (x z : ℕ) → added m x (z % m) ≡ (z + x) % m
  unfolding added
  added_mod x z = mod-add-mod z m x

-- It is the number that the word stands for, times x, modulo m.
pub run_weight : (m x : ℕ) (w : Word) → run m x w ≡ weight w * x % m
unfolding run weight
run_weight m x [] = rw (zero-mul, zero-mod)
run_weight m x (zero ∷ w) = ap (doubled m) (run_weight m x w) ∙ twice_mod m (weight w * x) ∙ ap (λ z. z % m) (omega arith)
run_weight m x (suc zero ∷ w) =
    ap (λ r. added m x (doubled m r)) (run_weight m x w) ∙ rw (twice_mod m (weight w * x), added_mod m x (2 * (weight w * x)))
    (ap (λ z. z % m) (omega arith))
run_weight m x (suc (suc zero) ∷ w) =
    ap (tripled m) (run_weight m x w) ∙ thrice_mod m (weight w * x) ∙ ap (λ z. z % m) (omega arith)
run_weight m x (suc (suc (suc zero)) ∷ w) =
    ap (λ r. added m x (tripled m r)) (run_weight m x w) ∙ rw (thrice_mod m (weight w * x), added_mod m x (3 * (weight w * x)))
    (ap (λ z. z % m) (omega arith))
run_weight m x (suc (suc (suc (suc l))) ∷ w) = run_weight m x w

-- A letter by its two bits: 2 × up + part. The run triples where up is 1, else it doubles, and it adds x where part is 1.
pub run_letter : (m x up part : ℕ) (w : Word) → up ≤ 1 → part ≤ 1
    → run m x ((2 * up + part) ∷ w) ≡ ((2 + up) * run m x w + part * x) % m
unfolding run doubled tripled added
run_letter m x zero zero w h k = ap (λ z. z % m) (omega arith)
run_letter m x zero (suc zero) w h k = mod-add-mod (2 * run m x w) m x ∙ ap (λ z. z % m) (omega arith)
run_letter m x (suc zero) zero w h k = ap (λ z. z % m) (omega arith)
run_letter m x (suc zero) (suc zero) w h k = mod-add-mod (3 * run m x w) m x ∙ ap (λ z. z % m) (omega arith)
run_letter m x zero (suc (suc k)) w h g = absurd (omega arith)
run_letter m x (suc zero) (suc (suc k)) w h g = absurd (omega arith)
run_letter m x (suc (suc u)) k w h g = absurd (omega arith)

-- ---- the run of a chain

-- For every chain of n, every modulus and every x: so for m from 1 to 2^63 and x below m too.
pub run_is_product : (n : ℕ) (c : List Part) → ChainOf n c → (m x : ℕ) → chain_run m x c ≡ n * x % m
unfolding chain_run
run_is_product n c h m x =
    run_weight m x (word_of c) ∙ rw (← total_chain_of (word_of c), chain_word_chain c h.chained, h.sums)

-- The same for what follows, so that an edit of `run_is_product` fails at its own proof.
is_product : (n : ℕ) (c : List Part) → ChainOf n c → (m x : ℕ) → chain_run m x c ≡ n * x % m
unfolding chain_run
is_product n c h m x =
    run_weight m x (word_of c) ∙ rw (← total_chain_of (word_of c), chain_word_chain c h.chained, h.sums)

-- So any two chains of n run alike.
pub chains_run_alike : (n : ℕ) (c d : List Part) → ChainOf n c → ChainOf n d → (m x : ℕ) → chain_run m x c ≡ chain_run m x d
chains_run_alike n c d h g m x = is_product n c h m x ∙ sym (is_product n d g m x)

-- The empty chain gives 0.
pub run_empty : (m x : ℕ) → chain_run m x [] ≡ 0
unfolding chain_run run word_of
run_empty m x = refl
