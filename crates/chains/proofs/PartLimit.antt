-- The limit on parts: what Carried says of any test, at the test of at most k parts (`few_parts`) and at all limits together
-- (`limited_by`). The count of chains with at most K parts: document 02, T-10.
--
-- In this order: the parts of a word, letter by letter; the two tests; the words with at most k parts from those of the half and the
-- third (`ways_up_to_step`), at a rest of 1 and where no part is allowed. Last the theorems of record on the count: which chains it counts
-- (`list_up_to_lem`), that a table finds it (`count_up_to_ways`), that it is the count where K is 64 or more (`count_up_to_all`), that it is 1
-- for the number 0, and that it is 0 exactly where no chain has so few parts (`count_up_to_none`).
use Rattle.std.specs.Prelude.{◌≡◌, refl, ◌↔◌, Bool, true, false, cond, ℕ, zero, suc, ◌+◌, ◌-◌, ◌/◌, ◌%◌, ◌^◌, ◌≤◌, ◌<◌, min, T, leb, length}
use Rattle.std.proofs.Common.{sym, ap, ap₂, subst, ◌∙◌, ⊎_elim, arith, leb→le, le→leb, le-leb}
use mathlib.Core.List.{List, [], ◌∷◌, Memᴰ}
use Rattle.std.proofs.Math.Decide.{dec_le}
use Rattle.std.proofs.Math.Facts.{and_yes}
use Rattle.std.proofs.lemmas.Bool.{lt-leb}
use Rattle.chains.specs.Chains.{Part, ChainOf}
use Rattle.chains.specs.Words.{Word, word_of, chain_from, chain_of, some_left, reads, Good}
use Rattle.chains.specs.Listing.{by_third, at_rest, words_in, words_at, keep, list_of, count, ways}
use Rattle.chains.specs.Best.{list_up_to, count_up_to}
use Rattle.chains.proofs.Weight.{total_chain_of}
use Rattle.chains.proofs.Marks.{taken, marks, marks_chain}
use Rattle.chains.proofs.Members.{rises, member_words}
use Rattle.chains.proofs.Listed.{list_of_chains, chain_listed}
use Rattle.chains.proofs.RoundTrip.{chain_word_chain, word_chained}
use Rattle.chains.proofs.Bounds.{parts_bound}
use Rattle.chains.proofs.Counts.{ways_at_most}
use Rattle.chains.specs.Keys.{key, Carried, marking, parts, few_parts, limited_by, passing, ways_up_to}
use Rattle.chains.proofs.Carried.{both_carried, full_words, key_letter, keep_member, how_many_step, rises_low}
use Rattle.chains.proofs.Bests.{cut_carried}

-- ---- the parts of a word

parts_marks : (f : Bool) (w : Word) → T (reads f w) → parts w ≡ marks w
unfolding key marks reads some_left
parts_marks f [] h = refl
parts_marks f (zero ∷ []) h = absurd h
parts_marks f (suc zero ∷ []) h = absurd h
parts_marks f (suc (suc zero) ∷ []) h = absurd (and_yes f false h).1
parts_marks f (suc (suc (suc zero)) ∷ []) h = refl
parts_marks f (suc (suc (suc (suc l))) ∷ []) h = absurd h
parts_marks f (l ∷ x ∷ w) h =
    let (low, g, r) = taken f l (x ∷ w) h in ap (λ (k : ℕ). l % 2 + k) (parts_marks g (x ∷ w) r)

-- They are as many as its chain has.
pub parts_chain : (w : Word) → T (reads true w) → parts w ≡ length (chain_of w)
parts_chain w h = parts_marks true w h ∙ sym (marks_chain w h)

-- A word that is not empty has a part.
pub parts_pos : (w : Word) → T (some_left w) → 1 ≤ parts w
unfolding key some_left
parts_pos [] h = absurd h
parts_pos (l ∷ []) h = omega arith
parts_pos (l ∷ x ∷ w) h = omega (arith, parts_pos (x ∷ w) tt)

-- ---- the tests

-- A part at a letter leaves one part less to allow. Where none was allowed, none is left to allow: the word that follows has a part, so it
-- does not pass either.
pub few_carried : Carried few_parts
few_carried = record { by_letter = by_letter }
  where
    one_less : (c x k : ℕ) → 1 ≤ x → Dec (c + x ≤ k) → leb (c + x) k ≡ leb x (k - c)
    one_less c x k h (yes l) = le-leb (c + x) k l ∙ sym (le-leb x (k - c) (omega arith))
    one_less c x k h (no l) = lt-leb (c + x) k (omega arith) ∙ sym (lt-leb x (k - c) (omega arith))

    by_letter : (k l : ℕ) (w : Word) → T (some_left w) → leb (parts (l ∷ w)) k ≡ leb (parts w) (k - l % 2)
    by_letter k l w h =
        ap (λ (x : ℕ). leb x k) (key_letter marking l w h) ∙ one_less (l % 2) (parts w) k (parts_pos w h) (dec_le (l % 2 + parts w) k)

-- All limits together.
pub limited_carried : (A B : ℕ) → Carried (limited_by A B)
limited_carried A B = both_carried (cut_carried A B) few_carried

-- What the letters take from the parts that are still allowed: the remainder by two where a rises, that by three where b rises.
pub allowed_a : (k m : ℕ) → k - m % 2 % 2 ≡ k - m % 2
allowed_a k m = omega arith

pub allowed_b : (k m : ℕ) → m % 3 ≤ 1 → k - (2 + m % 3) % 2 ≡ k - m % 3
allowed_b k m h = omega arith

-- ---- how many words have at most k parts

-- From those of the half and the third.
pub ways_up_to_step : (k : ℕ) (f : Bool) (m : ℕ) → 2 ≤ m
    → ways_up_to k f m ≡ ways_up_to (k - m % 2) false (m / 2) + cond (rises f (m % 3)) (ways_up_to (k - m % 3) true (m / 3)) 0
unfolding ways_up_to
ways_up_to_step k f m h =
    how_many_step few_carried k f m h
    ∙ ap₂ (λ (x y : ℕ). x + y) (ap (λ (i : ℕ). length (passing few_parts i false (m / 2))) (allowed_a k m))
    (go (rises f (m % 3)) (rises_low f (m % 3)))
  where
    go : (b : Bool) → (T b → m % 3 ≤ 1)
        → cond b (length (passing few_parts (k - (2 + m % 3) % 2) true (m / 3))) 0
        ≡ cond b (length (passing few_parts (k - m % 3) true (m / 3))) 0
    go true t = ap (λ (i : ℕ). length (passing few_parts i true (m / 3))) (allowed_b k m (t tt))
    go false t = refl

-- At a rest of 1 there is one word, of one part.
pub ways_up_to_one : (k : ℕ) (f : Bool) → 1 ≤ k → ways_up_to k f 1 ≡ 1
unfolding ways_up_to passing words_at words_in at_rest by_third keep key
ways_up_to_one k f h = rw (le-leb 1 k h)

-- With no part allowed there is no word where something is left.
pub ways_up_to_none : (f : Bool) (m : ℕ) → 1 ≤ m → ways_up_to 0 f m ≡ 0
unfolding ways_up_to passing keep
ways_up_to_none f m h = ap length (none_kept (words_at f m) (full_words f m h))
  where
    none_kept : (ws : List Word) → ((w : Word) → Memᴰ w ws → T (some_left w)) → keep (λ (w : Word). leb (parts w) 0) ws ≡ []
    none_kept [] h = refl
    none_kept (w ∷ ws) h =
        rw (lt-leb (parts w) 0 (omega (arith, parts_pos w (h w (mathlib.Core.List.Memᴰ.head refl)))))
        (none_kept ws (λ (v : Word) (i : Memᴰ v ws). h v (mathlib.Core.List.Memᴰ.tail i)))

-- They are no more than all words.
keep_shorter : (t : Word → Bool) (ws : List Word) → length (keep t ws) ≤ length ws
unfolding keep
keep_shorter t [] = omega arith
keep_shorter t (w ∷ ws) = go (t w) (keep_shorter t ws)
  where
    go : (b : Bool) → length (keep t ws) ≤ length ws → length (cond b (w ∷ keep t ws) (keep t ws)) ≤ suc (length ws)
    go true h = omega arith
    go false h = omega arith

pub ways_up_to_at_most : (k : ℕ) (f : Bool) (m : ℕ) → 1 ≤ m → ways_up_to k f m ≤ m
unfolding ways_up_to passing ways
ways_up_to_at_most k f m h = omega (arith, keep_shorter (λ (w : Word). leb (parts w) k) (words_at f m), ways_at_most f m h)

-- ---- the count of chains with at most K parts

-- Tests that agree on the words of a list keep the same.
pub keep_same : (t t' : Word → Bool) (ws : List Word) → ((w : Word) → Memᴰ w ws → t w ≡ t' w) → keep t ws ≡ keep t' ws
unfolding keep
keep_same t t' [] h = refl
keep_same t t' (x ∷ ws) h =
    rw (h x (mathlib.Core.List.Memᴰ.head refl), keep_same t t' ws (λ (w : Word) (k : Memᴰ w ws). h w (mathlib.Core.List.Memᴰ.tail k)))

keep_all : (ws : List Word) → keep (λ w. true) ws ≡ ws
unfolding keep
keep_all [] = refl
keep_all (x ∷ ws) = rw (keep_all ws)

-- What passes is kept.
kept_member : (t : Word → Bool) (ws : List Word) (w : Word) → Memᴰ w ws → T (t w) → Memᴰ w (keep t ws)
unfolding keep
kept_member t [] w m p = m
kept_member t (x ∷ ws) w m p =
    ⊎_elim
    (λ (e : w ≡ x). head (t x) (rw e at p) e)
    (λ (k : Memᴰ w ws). tail (t x) (kept_member t ws w k p))
    (mathlib.Core.List.Memᴰ.cases_cons m)
  where
    head : (b : Bool) → T b → w ≡ x → Memᴰ w (cond b (x ∷ keep t ws) (keep t ws))
    head true p e = mathlib.Core.List.Memᴰ.head e
    head false p e = absurd p

    tail : (b : Bool) → Memᴰ w (keep t ws) → Memᴰ w (cond b (x ∷ keep t ws) (keep t ws))
    tail true k = mathlib.Core.List.Memᴰ.tail k
    tail false k = k

keep_passes : (t : Word → Bool) (ws : List Word) (w : Word) → Memᴰ w (keep t ws) → T (t w)
unfolding keep
keep_passes t [] w k = absurd (mathlib.Core.List.Memᴰ.not-nil k)
keep_passes t (x ∷ ws) w k = go (t x) refl k (keep_passes t ws w)
  where
    go : (b : Bool) → t x ≡ b → Memᴰ w (cond b (x ∷ keep t ws) (keep t ws)) → (Memᴰ w (keep t ws) → T (t w)) → T (t w)
    go true e k h = ⊎_elim (λ (q : w ≡ x). rw q (subst T (sym e) tt)) h (mathlib.Core.List.Memᴰ.cases_cons k)
    go false e k h = h k

-- Which words it counts: those of the list of n whose chain has at most K parts, in the order of the list.
pub list_up_to_lem : (K n : ℕ) (w : Word) → Memᴰ w (list_up_to K n) ↔ (Good w × ChainOf n (chain_of w) × (length (chain_of w) ≤ K))
unfolding list_up_to
list_up_to_lem K n w = (
  λ m.
      let l = (list_of_chains n w).0 (keep_member few (list_of n) w m) in
      (l.0, l.1, leb→le (length (chain_of w)) K (keep_passes few (list_of n) w m)),
  λ h. kept_member few (list_of n) w ((list_of_chains n w).1 (h.0, h.1)) (le→leb (length (chain_of w)) K h.2),
)
  where
    few : Word → Bool
    few v = leb (length (chain_of v)) K

-- The number of a table's first cell.
pub count_up_to_ways : (K n : ℕ) → count_up_to K n ≡ ways_up_to K true n
unfolding count_up_to list_up_to list_of ways_up_to passing
count_up_to_ways K n =
    ap length
    (keep_same (λ (w : Word). leb (length (chain_of w)) K) (λ (w : Word). leb (parts w) K) (words_at true n)
    (λ w k. ap (λ (x : ℕ). leb x K) (sym (parts_chain w ((member_words true n w).0 k).0))))

-- With K of 64 or more it is the count.
pub count_up_to_all : (K n : ℕ) → n < 2 ^ 64 → 64 ≤ K → count_up_to K n ≡ count n
unfolding count_up_to list_up_to count list_of
count_up_to_all K n h k =
    ap length
    (keep_same (λ (w : Word). leb (length (chain_of w)) K) (λ w. true) (words_at true n)
    (λ w i.
    let c : ChainOf n (chain_of w) = record { chained = word_chained w; sums = total_chain_of w ∙ ((member_words true n w).0 i).1 } in
    le-leb (length (chain_of w)) K (omega (arith, parts_bound n 64 (chain_of w) c h)))
    ∙ keep_all (words_at true n))

-- So a limit above 64 is as good as 64.
pub count_up_to_64 : (K n : ℕ) → n < 2 ^ 64 → count_up_to (min K 64) n ≡ count_up_to K n
count_up_to_64 K n h = go (dec_le 64 K)
  where
    go : Dec (64 ≤ K) → count_up_to (min K 64) n ≡ count_up_to K n
    go (yes l) = count_up_to_all (min K 64) n h (omega arith) ∙ sym (count_up_to_all K n h l)
    go (no l) = ap (λ (k : ℕ). count_up_to k n) (omega arith)

-- The number 0 has the empty chain, which has no part.
pub count_up_to_zero : (K : ℕ) → count_up_to K 0 ≡ 1
unfolding count_up_to list_up_to list_of words_at words_in at_rest keep chain_of chain_from
count_up_to_zero K = rw (le-leb 0 K (omega arith))

-- It is 0 exactly where no chain of n has at most K parts.
pub count_up_to_none : (K n : ℕ) → (count_up_to K n ≡ 0) ↔ ((c : List Part) → ChainOf n c → length c ≤ K → ⊥)
unfolding count_up_to
count_up_to_none K n = (
  λ e c h k.
      let m : Memᴰ (word_of c) (list_up_to K n) =
      (list_up_to_lem K n (word_of c)).1 (
        ((list_of_chains n (word_of c)).0 (chain_listed n c h)).0,
        rw (chain_word_chain c h.chained) h,
        rw (chain_word_chain c h.chained) k,
      ) in
      empty (list_up_to K n) (word_of c) e m,
  λ none. go (list_up_to K n) (λ w m. let l = (list_up_to_lem K n w).0 m in none (chain_of w) l.1 l.2),
)
  where
    empty : (ws : List Word) (w : Word) → length ws ≡ 0 → Memᴰ w ws → ⊥
    empty [] w e m = mathlib.Core.List.Memᴰ.not-nil m
    empty (x ∷ ws) w e m = omega arith

    go : (ws : List Word) → ((w : Word) → Memᴰ w ws → ⊥) → length ws ≡ 0
    go [] h = refl
    go (x ∷ ws) h = absurd (h x (mathlib.Core.List.Memᴰ.head refl))
