-- How large a chain, its word and the points of its walk can be: document 01, 'Parts and chains'. In order: the letters of a word
-- that a reader takes; the parts of a word and of a chain; the exponents of a part; the letters of a chain's word; the points of
-- the walk. A bound on letters or parts takes any power of two: with 2^64 a chain has at most 64 parts, and its word 64 letters.
use Rattle.std.specs.Prelude.{◌≡◌, refl, ◌↔◌, Bool, true, false, ◌&&◌, ℕ, zero, suc, ◌+◌, ◌-◌, ◌*◌, ◌^◌, ◌≤◌, ◌<◌, T, length}
use Rattle.std.proofs.Common.{sym, ap, ◌∙◌, ⊎_elim, le-mul_of_pos_right, le_trans, lt_of_not-le, mul-le-mul_left, pow-suc, arith, length-append, pow-add, pow_mono, pow_pos}
use mathlib.Core.List.Memᴰ
use mathlib.Core.List.{List, [], ◌∷◌, ◌++◌, Memᴰ}
use Rattle.std.proofs.Math.Nat.{pow-le-pow_left, pow-le-pow_right}
use Rattle.std.specs.Float.Ieee.Fits.{and_l, and_r}
use Rattle.std.proofs.lemmas.List.{length-replicate}
use Rattle.chains.specs.Chains.{Part, value, Chained, total, ChainOf}
use Rattle.chains.specs.Words.{Word, origin, path, marked, walk, word_of, right, up, chain_from, chain_of, Good, some_left}
use Rattle.chains.specs.Words.{reads}
use Rattle.chains.specs.Listing.{one_if}
use Rattle.chains.specs.Divides.{Above}
use Rattle.chains.proofs.Divides.{value_pos, multiple_above}
use Rattle.chains.proofs.RoundTrip.{chain_word_chain, word_reads}
use Rattle.chains.proofs.Readers.{readers_good}
use Rattle.chains.proofs.Weight.{weight, total_chain_of}
use Rattle.chains.proofs.Rest.{point_after, weight_append}

-- ---- the letters of a word

-- 2^L is at least 2 where a word of L letters is not empty.
two_le_pow : (w : Word) → T (some_left w) → 2 ≤ 2 ^ length w
unfolding some_left
two_le_pow [] h = absurd h
two_le_pow (l ∷ w) h = omega (arith, pow-suc 2 (length w), pow_pos (length w))

-- A word of L letters stands for at least 2^(L - 1). The empty one, which only the first reader takes, stands for 0.
letters_weight : (w : Word) (f : Bool) → T (reads f w) → 2 ^ length w ≤ 2 * weight w + one_if f
unfolding reads weight one_if
letters_weight [] true h = omega arith
letters_weight [] false h = absurd h
letters_weight (zero ∷ w) f h = omega (arith, pow-suc 2 (length w), letters_weight w false h)
letters_weight (suc zero ∷ w) f h = omega (arith, pow-suc 2 (length w), letters_weight w false h)
letters_weight (suc (suc zero) ∷ w) f h =
    let r : T (some_left w && reads true w) = and_r f (some_left w && reads true w) h in
    omega (
      arith,
      pow-suc 2 (length w),
      two_le_pow w (and_l (some_left w) (reads true w) r),
      letters_weight w true (and_r (some_left w) (reads true w) r),
    )
letters_weight (suc (suc (suc zero)) ∷ w) f h = omega (arith, pow-suc 2 (length w), letters_weight w true h)
letters_weight (suc (suc (suc (suc x))) ∷ w) f h = absurd h

-- A word that stands for less than 2^k has at most k letters.
pub letters_bound : (k : ℕ) (w : Word) → T (reads true w) → weight w < 2 ^ k → length w ≤ k
unfolding one_if
letters_bound k w h l =
    let g : ¬ (k < length w) = λ g. omega (arith, letters_weight w true h, pow_mono g, pow-suc 2 k) in
    omega arith

-- ---- the parts of a word and of a chain

-- A letter adds one part at most to those met.
parts_from : (p : Part) (met : List Part) (w : Word) → length (chain_from p met w) ≤ length met + length w
unfolding chain_from
parts_from p met [] = omega arith
parts_from p met (zero ∷ w) = omega (arith, parts_from (right p) met w)
parts_from p met (suc zero ∷ w) = omega (arith, parts_from (right p) (p ∷ met) w)
parts_from p met (suc (suc zero) ∷ w) = omega (arith, parts_from (up p) met w)
parts_from p met (suc (suc (suc zero)) ∷ w) = omega (arith, parts_from (up p) (p ∷ met) w)
parts_from p met (suc (suc (suc (suc x))) ∷ w) = omega (arith, parts_from p met w)

-- A word has no more parts than letters.
pub parts_letters : (w : Word) → length (chain_of w) ≤ length w
unfolding chain_of
parts_letters w = omega (arith, parts_from origin [] w)

-- A part is at most the sum of the parts.
part_total : (c : List Part) (p : Part) → Memᴰ p c → value p ≤ total c
unfolding total
part_total [] p m = absurd (Memᴰ.not-nil m)
part_total (q ∷ c) p m =
    ⊎_elim (λ (e : p ≡ q). omega (arith, ap value e)) (λ (t : Memᴰ p c). omega (arith, part_total c p t))
    (Memᴰ.cases_cons m)

-- So it is at most the number that the chain stands for.
pub part_at_most : (n : ℕ) (c : List Part) (p : Part) → ChainOf n c → Memᴰ p c → value p ≤ n
part_at_most n c p h m = omega (arith, part_total c p m)

-- The number 0 has one chain, the empty one.
pub chain_of_0 : (c : List Part) → ChainOf 0 c ↔ (c ≡ [])
unfolding total
chain_of_0 [] = (λ _. refl, λ _. record { chained = tt; sums = refl })
chain_of_0 (p ∷ c) = (λ h. absurd (omega (arith, h.sums, value_pos p)), λ e. absurd (omega (arith, ap length e)))

-- ---- exponents

-- The exponents of a part below 2^64.
pub part_bounds : (p : Part) → value p < 2 ^ 64 → (p.a + p.b < 64) × (p.b < 41)
unfolding value
part_bounds p h =
    let two : 2 ^ (p.a + p.b) ≤ value p = rw pow-add (mul-le-mul_left (2 ^ p.a) (pow-le-pow_left (omega arith) p.b)) in
    let three : 3 ^ p.b ≤ value p = le_trans (le-mul_of_pos_right (3 ^ p.b) (pow_pos p.a)) (omega arith) in
    (lt_of_not-le (λ g. omega (arith, pow_mono g)), lt_of_not-le (λ g. omega (arith, pow-le-pow_right {n = 3} (omega arith) g)))

-- The same for what follows in this file, so that an edit of `part_bounds` fails at its own proof.
bounded : (p : Part) → value p < 2 ^ 64 → (p.a + p.b < 64) × (p.b < 41)
unfolding value
bounded p h =
    let two : 2 ^ (p.a + p.b) ≤ value p = rw pow-add (mul-le-mul_left (2 ^ p.a) (pow-le-pow_left (omega arith) p.b)) in
    let three : 3 ^ p.b ≤ value p = le_trans (le-mul_of_pos_right (3 ^ p.b) (pow_pos p.a)) (omega arith) in
    (lt_of_not-le (λ g. omega (arith, pow_mono g)), lt_of_not-le (λ g. omega (arith, pow-le-pow_right {n = 3} (omega arith) g)))

-- ---- the letters of a chain's word

-- A chain's word stands for the chain's sum.
pub weight_word_of : (c : List Part) → Chained c → weight (word_of c) ≡ total c
weight_word_of c h = sym (total_chain_of (word_of c)) ∙ ap total (chain_word_chain c h)

-- Where n is below 2^k, the word of a chain of n has at most k letters, and the chain at most k parts.
pub word_bound : (n k : ℕ) (c : List Part) → ChainOf n c → n < 2 ^ k → length (word_of c) ≤ k
word_bound n k c h l = letters_bound k (word_of c) (word_reads c) (omega (arith, weight_word_of c h.chained))

pub parts_bound : (n k : ℕ) (c : List Part) → ChainOf n c → n < 2 ^ k → length c ≤ k
parts_bound n k c h l =
    omega (arith, parts_letters (word_of c), ap length (chain_word_chain c h.chained), word_bound n k c h l)

-- The same for what follows in this file, so that an edit of `parts_bound` fails at its own proof.
at_most : (n k : ℕ) (c : List Part) → ChainOf n c → n < 2 ^ k → length c ≤ k
at_most n k c h l =
    omega (arith, parts_letters (word_of c), ap length (chain_word_chain c h.chained), word_bound n k c h l)

-- A chain of a number below 2^64: how many parts it has, and the exponents of its largest part.
pub chain_bounds : (n : ℕ) (p : Part) (c : List Part) → n < 2 ^ 64 → ChainOf n (p ∷ c)
    → (length (p ∷ c) ≤ 64) × (p.a ≤ 63) × (p.b ≤ 40)
chain_bounds n p c f h =
    let low = bounded p (omega (arith, part_at_most n (p ∷ c) p h (Memᴰ.head refl))) in
    (at_most n 64 (p ∷ c) h f, omega arith, omega arith)

-- The letters of a path, and of the walk through the parts c to p.
length_marked : (u : Word) → length (marked u) ≡ length u
unfolding marked
length_marked [] = refl
length_marked (l ∷ u) = refl

length_path : (q p : Part) → length (path q p) ≡ (p.b - q.b) + (p.a - q.a)
unfolding path
length_path q p = simp (length-append, length-replicate)

length_walk : (p : Part) (c : List Part) (w : Word) → Chained (p ∷ c) → length (walk p c w) ≡ p.a + p.b + length w
unfolding walk
length_walk p [] w h = simp (length-append, length_path) (omega arith)
length_walk p (q ∷ c) w h =
    let s : Above p q = (multiple_above p q).0 h.0 in
    length_walk q c (marked (path q p) ++ w) h.1 ∙ simp (length-append, length_marked, length_path) (omega arith)

-- One letter for each point from (0, 0) to the largest part.
pub word_length : (p : Part) (c : List Part) → Chained (p ∷ c) → length (word_of (p ∷ c)) ≡ p.a + p.b + 1
unfolding word_of
word_length p c h = length_walk p c (3 ∷ []) h

-- ---- the points of the walk

-- The letters after a point are read there by one of the two readers.
reads_rest : (u v : Word) (f : Bool) → T (reads f (u ++ v)) → (g : Bool) × T (reads g v)
unfolding reads
reads_rest [] v f h = (f, h)
reads_rest (zero ∷ u) v f h = reads_rest u v false h
reads_rest (suc zero ∷ u) v f h = reads_rest u v false h
reads_rest (suc (suc zero) ∷ u) v f h =
    reads_rest u v true
    (and_r (some_left (u ++ v)) (reads true (u ++ v)) (and_r f (some_left (u ++ v) && reads true (u ++ v)) h))
reads_rest (suc (suc (suc zero)) ∷ u) v f h = reads_rest u v true h
reads_rest (suc (suc (suc (suc x))) ∷ u) v f h = absurd h

-- What is left at a point where a letter stands is not nothing.
weight_pos : (f : Bool) (l : ℕ) (v : Word) → T (reads f (l ∷ v)) → 0 < weight (l ∷ v)
unfolding one_if some_left
weight_pos true l v h = omega (arith, letters_weight (l ∷ v) true h, two_le_pow (l ∷ v) tt)
weight_pos false l v h = omega (arith, letters_weight (l ∷ v) false h, two_le_pow (l ∷ v) tt)

-- A point where a letter of a good word stands has a value of at most the sum of the word's parts. So the parts of a word with one
-- 2^a × 3^b of 2^64 or more sum to 2^64 or more: document 01, refusal 10.
pub point_at_most : (u : Word) (l : ℕ) (v : Word)
    → Good (u ++ (l ∷ v)) → value (point_after origin u) ≤ total (chain_of (u ++ (l ∷ v)))
point_at_most u l v g =
    let r : (f : Bool) × T (reads f (l ∷ v)) = reads_rest u (l ∷ v) true ((readers_good (u ++ (l ∷ v))).1 g) in
    rw (total_chain_of (u ++ (l ∷ v)), weight_append)
    (omega (arith, le-mul_of_pos_right (value (point_after origin u)) (weight_pos r.0 l v r.1)))
