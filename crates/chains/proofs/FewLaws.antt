-- Proposition 5 of 003, for all natural n: document 02, T-11.
--
-- In this order: families c × 2^a − 1 whose c is a multiple of 3; from the number to the count; from the count to the number; the
-- theorems of record, `one_chain`, `two_chains` and `three_or_more`.
--
-- A number with a remainder of 2 by three has as many chains as its half (`count_half`). So the count is the same along a family, and
-- induction over the half leads from the count back to the family. Any other number from 2 on has words that begin with a rise of a and
-- words that begin with a rise of b. It has two chains only if it has one word of each, and 3, 4, 6 and 7 are all such numbers.
use Rattle.std.specs.Prelude.{◌≡◌, refl, ◌↔◌, ◌≢◌, ◌⊎◌, false, ℕ, zero, suc, ◌+◌, ◌*◌, ◌-◌, ◌/◌, ◌%◌, ◌^◌, ◌≤◌, ◌<◌}
use Rattle.std.proofs.Common.{sym, ◌∙◌, inl, inr, ⊎_elim, pow-suc, mul_assoc, mul-pos, arith, pow_pos}
use Rattle.std.proofs.Math.Path.{ap}
use Rattle.std.proofs.Math.Decide.{ℕ_discrete}
use Rattle.chains.specs.Listing.{by_third, at_rest, words_in, words_at, ways, list_of, count}
use Rattle.chains.proofs.Steps.{by_rest}
use Rattle.chains.proofs.Divides.{no_three}
use Rattle.chains.proofs.Counts.{count_ways, ways_pos, count_pos, count_0, count_1, free_third, agree}
use Rattle.chains.proofs.Counts.{half_rem, count_half}
use Rattle.chains.specs.Few.{OneBelow, NamedForOne, NamedForTwo}

-- ---- families c × 2^a − 1 whose c is a multiple of 3

module _ (k : ℕ) (pos : 1 ≤ k) where
  abbrev c : ℕ
  c = 3 * k

  -- c × 2^a is a multiple of 3 and not 0, and it is doubled where a rises.
  terms : (a : ℕ) → (c * 2 ^ a ≡ 3 * (k * 2 ^ a)) × (1 ≤ k * 2 ^ a) × (c * 2 ^ suc a ≡ 2 * (c * 2 ^ a))
  terms a = (
    mul_assoc 3 k (2 ^ a),
    mul-pos pos (pow_pos a),
    omega (arith, ap (λ (x : ℕ). c * x) (pow-suc 2 a), mul_assoc c (2 ^ a) 2),
  )

  -- All numbers of the family have the count of the first, c − 1.
  family_count : (n : ℕ) → OneBelow c n → count n ≡ count (c - 1)
  unfolding OneBelow
  family_count n (zero, e) = ap count (omega arith)
  family_count n (suc a, e) =
      let half : n / 2 ≡ c * 2 ^ a - 1 = omega (arith, terms a) in
      count_half n (omega (arith, terms a)) ∙ ap count half ∙ family_count (c * 2 ^ a - 1) (a, refl)

  -- Where the half is in the family, so is the number.
  family_half : (n : ℕ) → n % 3 ≡ 2 → OneBelow c (n / 2) → OneBelow c n
  unfolding OneBelow
  family_half n r (a, e) = (suc a, omega (arith, terms a))

-- ---- from the number to the count

one_to : (n : ℕ) → NamedForOne n → count n ≡ 1
unfolding NamedForOne count list_of words_at words_in at_rest by_third
one_to n (inl e) = ap count e
one_to n (inr (inl e)) = ap count e
one_to n (inr (inr b)) = family_count 1 (omega arith) n b

two_to : (n : ℕ) → NamedForTwo n → count n ≡ 2
unfolding NamedForTwo count list_of words_at words_in at_rest by_third
two_to n (inl e) = ap count e
two_to n (inr (inl e)) = ap count e
two_to n (inr (inr (inl e))) = ap count e
two_to n (inr (inr (inr (inl e)))) = ap count e
two_to n (inr (inr (inr (inr (inl b))))) = family_count 3 (omega arith) n b
two_to n (inr (inr (inr (inr (inr b))))) = family_count 5 (omega arith) n b

-- ---- from the count to the number

-- With a remainder of 2 by three, from the half.
one_half : (n : ℕ) → n % 3 ≡ 2 → NamedForOne (n / 2) → NamedForOne n
unfolding NamedForOne OneBelow
one_half n r (inl e) = absurd (omega arith)
one_half n r (inr (inl e)) = inr (inr (0, omega arith))
one_half n r (inr (inr b)) = inr (inr (family_half 1 (omega arith) n r b))

two_half : (n : ℕ) → n % 3 ≡ 2 → NamedForTwo (n / 2) → NamedForTwo n
unfolding NamedForTwo OneBelow
two_half n r (inl e) = absurd (half_rem n r (ap (λ (m : ℕ). m % 3) e))
two_half n r (inr (inl e)) = inr (inr (inr (inr (inl (0, omega arith)))))
two_half n r (inr (inr (inl e))) = absurd (half_rem n r (ap (λ (m : ℕ). m % 3) e))
two_half n r (inr (inr (inr (inl e)))) = inr (inr (inr (inr (inr (0, omega arith)))))
two_half n r (inr (inr (inr (inr (inl b))))) = inr (inr (inr (inr (inl (family_half 3 (omega arith) n r b)))))
two_half n r (inr (inr (inr (inr (inr b))))) = inr (inr (inr (inr (inr (family_half 5 (omega arith) n r b)))))

-- With another remainder: the words that begin with a rise of a, and as many with a rise of b as the third has chains. There are some
-- of each.
both : (n : ℕ) → 2 ≤ n → n % 3 ≢ 2
    → (count n ≡ ways false (n / 2) + count (n / 3)) × (1 ≤ ways false (n / 2)) × (1 ≤ count (n / 3))
both n h ne = (
  omega (arith, count_ways n, count_ways (n / 3), free_third n (omega arith) (omega arith)),
  ways_pos false (n / 2) (omega arith),
  count_pos (n / 3),
)

one_from : (n : ℕ) → count n ≡ 1 → NamedForOne n
unfolding NamedForOne
one_from = by_rest P (λ e. inl refl) (λ n h half third e. at n half e (ℕ_discrete (n % 3) 2))
  where
    P : ℕ → Type 0
    P n = count n ≡ 1 → NamedForOne n

    at : (n : ℕ) → P (n / 2) → count n ≡ 1 → Dec (n % 3 ≡ 2) → NamedForOne n
    at n half e (yes r) = one_half n r (half (sym (count_half n r) ∙ e))
    at zero half e (no r) = inl refl
    at (suc zero) half e (no r) = inr (inl refl)
    at (suc (suc i)) half e (no r) = let s = both (suc (suc i)) (omega arith) r in absurd (omega arith)

-- The half of a number whose third is 3 × 2^(a + 1) − 1 is 9 × 2^a − 2 or 9 × 2^a − 1. It is not named for one chain, because no power
-- of 2 is a multiple of 3. So it has more than one word after a rise of a.
many_after_a : (a h : ℕ) → (h < 9 * 2 ^ a) × (9 * 2 ^ a ≤ h + 2) → ways false h ≢ 1
unfolding NamedForOne OneBelow
many_after_a a h near w = unnamed (one_from h (count_ways h ∙ agree h (λ z. omega arith) ∙ w))
  where
    unnamed : NamedForOne h → ⊥
    unnamed (inl z) = omega (arith, pow_pos a)
    unnamed (inr (inl z)) = omega (arith, pow_pos a)
    unnamed (inr (inr (b, z))) = no_three b (2 ^ a) (omega (arith, pow_pos b))

-- The number by its third t.
by_third_lem : (n t : ℕ) → n % 3 ≢ 2 → n / 3 ≡ t → (n ≡ 3 * t) ⊎ (n ≡ 3 * t + 1)
by_third_lem n t ne e = at (ℕ_discrete n (3 * t))
  where
    at : Dec (n ≡ 3 * t) → (n ≡ 3 * t) ⊎ (n ≡ 3 * t + 1)
    at (yes z) = inl z
    at (no z) = inr (omega arith)

two_third : (n : ℕ) → 2 ≤ n → n % 3 ≢ 2 → ways false (n / 2) ≡ 1 → NamedForOne (n / 3) → NamedForTwo n
unfolding NamedForOne NamedForTwo OneBelow
two_third n h ne w (inl e) = absurd (omega arith)
two_third n h ne w (inr (inl e)) = ⊎_elim (λ (z : n ≡ 3). inl z) (λ (z : n ≡ 4). inr (inl z)) (by_third_lem n 1 ne e)
two_third n h ne w (inr (inr (zero, e))) =
    ⊎_elim (λ (z : n ≡ 6). inr (inr (inl z))) (λ (z : n ≡ 7). inr (inr (inr (inl z)))) (by_third_lem n 2 ne e)
two_third n h ne w (inr (inr (suc a, e))) = absurd (many_after_a a (n / 2) (omega (arith, pow-suc 2 a, pow_pos a)) w)

two_from : (n : ℕ) → count n ≡ 2 → NamedForTwo n
two_from = by_rest P (λ e. absurd (omega (arith, count_0))) (λ n h half third e. at n half e (ℕ_discrete (n % 3) 2))
  where
    P : ℕ → Type 0
    P n = count n ≡ 2 → NamedForTwo n

    at : (n : ℕ) → P (n / 2) → count n ≡ 2 → Dec (n % 3 ≡ 2) → NamedForTwo n
    at n half e (yes r) = two_half n r (half (sym (count_half n r) ∙ e))
    at zero half e (no r) = absurd (omega (arith, count_0))
    at (suc zero) half e (no r) = absurd (omega (arith, count_1))
    at (suc (suc i)) half e (no r) =
        let n = suc (suc i) in
        let s = both n (omega arith) r in
        two_third n (omega arith) r (omega arith) (one_from (n / 3) (omega arith))

-- ---- the theorems of record

-- The count is 1 exactly for 0, 1 and 3 × 2^a − 1.
pub one_chain : (n : ℕ) → (count n ≡ 1) ↔ NamedForOne n
one_chain n = (one_from n, one_to n)

-- It is 2 exactly for 3, 4, 6, 7, 9 × 2^a − 1 and 15 × 2^a − 1.
pub two_chains : (n : ℕ) → (count n ≡ 2) ↔ NamedForTwo n
two_chains n = (two_from n, two_to n)

-- All other numbers have three chains or more.
pub three_or_more : (n : ℕ) → (3 ≤ count n) ↔ ((¬ NamedForOne n) × (¬ NamedForTwo n))
three_or_more n = (
  λ h. (λ o. omega (arith, one_to n o), λ t. omega (arith, two_to n t)),
  λ h.
      let not_1 : count n ≢ 1 = λ e. h.0 (one_from n e) in
      let not_2 : count n ≢ 2 = λ e. h.1 (two_from n e) in
      omega (arith, count_pos n),
)
