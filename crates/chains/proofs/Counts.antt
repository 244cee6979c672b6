-- The count of n by its remainders: document 01, 'Counting by the remainder'; 003, relations 6 and 7 and proposition 4, with p = 2
-- and q = 3.
--
-- In this order: the step laws of `ways`, how many words a reader can go on with at a rest, with no list in them, one for each
-- remainder by three; the bounds; the six relations of the count, the theorems of record.
-- What the list of n holds is said in Members. The count itself is defined in Listing.
use Rattle.std.specs.Prelude.{◌≡◌, refl, ◌≢◌, Bool, true, false, List, ◌∷◌, ℕ, zero, suc, ◌+◌, ◌*◌, ◌-◌, ◌/◌, ◌%◌, ◌^◌, ◌≤◌, ◌<◌, max, length}
use Rattle.std.proofs.Common.{◌∙◌, length-append, arith}
use Rattle.std.proofs.lemmas.List.{length-map}
use Rattle.chains.specs.Words.{Word}
use Rattle.chains.specs.Listing.{by_third, at_rest, words_in, words_at, ways, list_of, count, one_if}
use Rattle.chains.proofs.Steps.{by_rest, words_at_step}

-- The count of n is what the reader at the start can go on with.
pub count_ways : (n : ℕ) → count n ≡ ways true n
unfolding count list_of ways
count_ways n = refl

-- ---- step laws

-- At a rest of 0 the word ends, which the reader after a has risen does not allow.
pub ways_at_0_free : ways true 0 ≡ 1
unfolding ways words_at words_in at_rest
ways_at_0_free = refl

pub ways_at_0_after_a : ways false 0 ≡ 0
unfolding ways words_at words_in at_rest
ways_at_0_after_a = refl

-- At least 1, the words begin with a rise of a, or with a rise of b as the remainder allows.
step : (f : Bool) (m r : ℕ) → 1 ≤ m → m % 3 ≡ r → ways f m ≡ ways false (m / 2) + length (by_third f r (words_at true (m / 3)))
unfolding ways at_rest
step f zero r h e = absurd (omega arith)
step f (suc m) r h e = rw (words_at_step f (suc m), e, length-append, length-map)

pub ways_rem_0_free : (m : ℕ) → 1 ≤ m → m % 3 ≡ 0 → ways true m ≡ ways false (m / 2) + ways true (m / 3)
unfolding by_third ways
ways_rem_0_free m h e = step true m 0 h e ∙ simp length-map

pub ways_rem_0_after_a : (m : ℕ) → 1 ≤ m → m % 3 ≡ 0 → ways false m ≡ ways false (m / 2)
unfolding by_third
ways_rem_0_after_a m h e = omega (arith, step false m 0 h e)

pub ways_rem_1 : (f : Bool) (m : ℕ) → m % 3 ≡ 1 → ways f m ≡ ways false (m / 2) + ways true (m / 3)
unfolding by_third ways
ways_rem_1 f m e = step f m 1 (omega arith) e ∙ simp length-map

pub ways_rem_2 : (f : Bool) (m : ℕ) → m % 3 ≡ 2 → ways f m ≡ ways false (m / 2)
unfolding by_third
ways_rem_2 f m e = omega (arith, step f m 2 (omega arith) e)

-- ---- bounds

third_at_most : (f : Bool) (r : ℕ) (t : List Word) → length (by_third f r t) ≤ length t
unfolding by_third
third_at_most true zero t = omega (arith, length-map t (λ (w : Word). 2 ∷ w))
third_at_most false zero t = omega arith
third_at_most f (suc zero) t = omega (arith, length-map t (λ (w : Word). 3 ∷ w))
third_at_most f (suc (suc r)) t = omega arith

-- For every remainder: at least as many as at the half, and at most as many as at the half and the third together.
between : (f : Bool) (m : ℕ) → 1 ≤ m → (ways false (m / 2) ≤ ways f m) × (ways f m ≤ ways false (m / 2) + ways true (m / 3))
unfolding ways
between f m h =
    let s = step f m (m % 3) h refl in
    let t = third_at_most f (m % 3) (words_at true (m / 3)) in
    (omega arith, omega arith)

-- 003, proposition 4, weakened. At a rest of 0 the free reader still has one word.
at_most : (m : ℕ) (f : Bool) → ways f m ≤ max (one_if f) m
unfolding one_if
at_most =
    by_rest (λ m. (f : Bool) → ways f m ≤ max (one_if f) m)
    (elim [ true ↦ omega (arith, ways_at_0_free) | false ↦ omega (arith, ways_at_0_after_a) ])
    (λ m h half third f. omega (arith, between f m h, half false, third true))

pub ways_at_most : (f : Bool) (m : ℕ) → 1 ≤ m → ways f m ≤ m
unfolding one_if
ways_at_most true m h = omega (arith, at_most m true)
ways_at_most false m h = omega (arith, at_most m false)

-- Each rest of at least 1 has a word, that of its binary digits.
pub ways_pos : (f : Bool) (m : ℕ) → 1 ≤ m → 1 ≤ ways f m
ways_pos f m = by_rest P (λ g h. absurd (omega arith)) more m f
  where
    P : ℕ → Type 0
    P i = (g : Bool) → 1 ≤ i → 1 ≤ ways g i

    more : (i : ℕ) → 0 < i → P (i / 2) → P (i / 3) → P i
    more zero p half third g h = absurd (omega arith)
    more (suc zero) p half third g h = omega (arith, ways_rem_1 g 1 refl, ways_at_0_free)
    more (suc (suc i)) p half third g h = omega (arith, between g (suc (suc i)) h, half false (omega arith))

pub count_at_most : (n : ℕ) → 1 ≤ n → count n ≤ n
count_at_most n h = rw count_ways (ways_at_most true n h)

-- The same for what follows in this file, so that an edit of `count_at_most` fails at its own proof.
at_most_n : (n : ℕ) → 1 ≤ n → count n ≤ n
at_most_n n h = rw count_ways (ways_at_most true n h)

pub count_pos : (n : ℕ) → 1 ≤ count n
count_pos zero = omega (arith, count_ways 0, ways_at_0_free)
count_pos (suc n) = rw count_ways (ways_pos true (suc n) (omega arith))

-- ---- the six relations

-- The free reader allows a rise of b for a remainder of 0 or 1.
pub free_third : (m : ℕ) → 1 ≤ m → m % 3 ≤ 1 → ways true m ≡ ways false (m / 2) + ways true (m / 3)
free_third m h l = go (m % 3) refl
  where
    go : (r : ℕ) → m % 3 ≡ r → ways true m ≡ ways false (m / 2) + ways true (m / 3)
    go zero e = ways_rem_0_free m h e
    go (suc zero) e = ways_rem_1 true m e
    go (suc (suc r)) e = absurd (omega arith)

-- The two readers differ at a remainder of 0 only.
pub agree : (m : ℕ) → m % 3 ≢ 0 → ways true m ≡ ways false m
agree m ne = go (m % 3) refl
  where
    go : (r : ℕ) → m % 3 ≡ r → ways true m ≡ ways false m
    go zero e = absurd (ne e)
    go (suc zero) e = omega (arith, ways_rem_1 true m e, ways_rem_1 false m e)
    go (suc (suc zero)) e = omega (arith, ways_rem_2 true m e, ways_rem_2 false m e)
    go (suc (suc (suc r))) e = absurd (omega arith)

-- The count of n by its half h, its third t and its sixth u. The remainder of n by three says whether the third adds to it; that
-- of h, whether the count of h holds words that begin with letter 2, one for each of the sixth, which n does not have.
by_half : (n h : ℕ) → (n % 3 ≡ 2) × (n / 2 ≡ h) × (h % 3 ≢ 0) → count n ≡ count h
by_half n h c = cc (count_ways n, count_ways h, ways_rem_2 true n c.0, agree h c.2)

by_half_and_third : (n h t : ℕ) → (1 ≤ n) × (n % 3 ≤ 1) × (n / 2 ≡ h) × (n / 3 ≡ t) × (h % 3 ≢ 0) → count n ≡ count h + count t
by_half_and_third n h t c =
    cc (count_ways n, count_ways h, count_ways t, free_third n c.0 c.1, agree h c.4)

by_all : (n h t u : ℕ) → (1 ≤ n) × (n % 3 ≤ 1) × (n / 2 ≡ h) × (n / 3 ≡ t) × (1 ≤ h) × (h % 3 ≡ 0) × (h / 3 ≡ u)
    → count n + count u ≡ count t + count h
by_all n h t u c =
    let en : count n ≡ ways false h + count t = cc (count_ways n, count_ways t, free_third n c.0 c.1) in
    let eh : count h ≡ ways false (h / 2) + count u = cc (count_ways h, count_ways u, ways_rem_0_free h c.4 c.5) in
    omega (arith, ways_rem_0_after_a h c.4 c.5)

-- The theorems of record, line by line as document 01 has them.
pub count_0 : count 0 ≡ 1
count_0 = count_ways 0 ∙ ways_at_0_free

pub count_1 : count 1 ≡ 1
count_1 = omega (arith, count_pos 1, at_most_n 1 (omega arith))

-- The count fits in 64 bits where n does.
pub count_fits : (n : ℕ) → n < 2 ^ 64 → count n < 2 ^ 64
count_fits zero f = omega (arith, count_0)
count_fits (suc n) f = omega (arith, at_most_n (suc n) (omega arith))

-- The first line, which remainders 0 and 1 share, without the difference.
pub count_first_line : (U r : ℕ) → 1 ≤ U → r ≤ 1 → count (6 * U + r) + count U ≡ count (2 * U) + count (3 * U)
count_first_line U r h l = by_all (6 * U + r) (3 * U) (2 * U) U (omega arith)

pub count_6U : (U : ℕ) → 1 ≤ U → count (6 * U) ≡ count (2 * U) + count (3 * U) - count U
count_6U U h = omega (arith, by_all (6 * U) (3 * U) (2 * U) U (omega arith))

pub count_6U+1 : (U : ℕ) → 1 ≤ U → count (6 * U + 1) ≡ count (6 * U)
count_6U+1 U h = omega (arith, count_first_line U 1 h (omega arith), by_all (6 * U) (3 * U) (2 * U) U (omega arith))

pub count_6U+2 : (U : ℕ) → count (6 * U + 2) ≡ count (3 * U + 1)
count_6U+2 U = by_half (6 * U + 2) (3 * U + 1) (omega arith)

pub count_6U+3 : (U : ℕ) → count (6 * U + 3) ≡ count (3 * U + 1) + count (2 * U + 1)
count_6U+3 U = by_half_and_third (6 * U + 3) (3 * U + 1) (2 * U + 1) (omega arith)

pub count_6U+4 : (U : ℕ) → count (6 * U + 4) ≡ count (3 * U + 2) + count (2 * U + 1)
count_6U+4 U = by_half_and_third (6 * U + 4) (3 * U + 2) (2 * U + 1) (omega arith)

pub count_6U+5 : (U : ℕ) → count (6 * U + 5) ≡ count (3 * U + 2)
count_6U+5 U = by_half (6 * U + 5) (3 * U + 2) (omega arith)

-- The second line and the sixth as one: with a remainder of 2 by three n has the count of its half, which is no multiple of 3.
pub half_rem : (n : ℕ) → n % 3 ≡ 2 → n / 2 % 3 ≢ 0
half_rem n e z = apart (n % 2) (n / 2 / 3) (omega arith)
  where
    apart : (r q : ℕ) → (n ≡ 6 * q + r) × (r < 2) → ⊥
    apart zero q h = omega arith
    apart (suc zero) q h = omega arith
    apart (suc (suc r)) q h = omega arith

pub count_half : (n : ℕ) → n % 3 ≡ 2 → count n ≡ count (n / 2)
count_half n e = by_half n (n / 2) (e, refl, half_rem n e)
