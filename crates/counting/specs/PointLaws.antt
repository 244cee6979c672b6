-- Laws of the points of a walk along a word of the list of n: the lists at a rest of 0 and of 1, where a walk ends; one letter more;
-- the letters of a word, and the bits that they make. The rest at a point is in grid, the lists at a rest in chains.
use Rattle.std.specs.Prelude.{◌≡◌, ℕ, zero, suc, ◌+◌, ◌-◌, ◌*◌, ◌%◌, ◌^◌, ◌<◌, ◌≤◌, Bool, true, false, T, [], ◌∷◌, ◌++◌, length, take, drop, slice_index, refl}
use Rattle.std.proofs.Common.{ap, inl, inr, pow-suc, arith, drop-drop, take-add, take-suc, length-take-le}
use mathlib.Core.List.Memᴰ
use mathlib.Core.List.{Memᴰ}
use Rattle.std.specs.Float.Ieee.Fits.{and_r}
use Rattle.chains.specs.Words.{Word, Good, some_left, reads}
use Rattle.chains.specs.Listing.{words_in, at_rest, by_third, words_at, list_of, count_before, ways}
use Rattle.chains.proofs.Weight.{weight}
use Rattle.chains.proofs.Counts.{ways_at_0_free, ways_at_0_after_a, ways_at_most}
use Rattle.chains.proofs.Members.{member_words, list_holds}
use Rattle.chains.proofs.Positions.{words_at_position}
use Rattle.words.specs.Packed.{bits}
use Rattle.words.specs.PackedLaws.{bits_append}

-- ---- the lists at a rest of 0 and of 1

pub at_one : (f : Bool) → words_at f 1 ≡ (3 ∷ []) ∷ []
unfolding words_at words_in at_rest by_third
at_one true = refl
at_one false = refl

pub ways_few : (f : Bool) (m : ℕ) → m ≤ 1 → ways f m ≤ 1
ways_few true zero h = omega (arith, ways_at_0_free)
ways_few false zero h = omega (arith, ways_at_0_after_a)
ways_few f (suc m) h = omega (arith, ways_at_most f (suc m) (omega arith))

-- Where two letters are left, or more, the rest is at least 2; where one is, it is at least 1.
pub two_left : (f : Bool) (m : ℕ) (w : Word) → Memᴰ w (words_at f m) → 2 ≤ length w → 2 ≤ m
unfolding words_at words_in at_rest
two_left true zero w i h = omega (arith, ap length (Memᴰ.eq_of_singleton i))
two_left false zero w i h = absurd (Memᴰ.not-nil i)
two_left f (suc zero) w i h = omega (arith, ap length (Memᴰ.eq_of_singleton (rw at_one at i)))
two_left f (suc (suc m)) w i h = omega arith

pub one_there : (f : Bool) (m : ℕ) (w : Word) → Memᴰ w (words_at f m) → 1 ≤ length w → 1 ≤ m
unfolding words_at words_in at_rest
one_there true zero w i h = omega (arith, ap length (Memᴰ.eq_of_singleton i))
one_there false zero w i h = absurd (Memᴰ.not-nil i)
one_there f (suc m) w i h = omega arith

-- Where one is left, or none, it is at most 1, and no word stands before that one.
one_left : (f : Bool) (w : Word) → T (reads f w) → length w ≤ 1 → weight w ≤ 1
unfolding reads weight some_left
one_left f [] t h = omega arith
one_left f (zero ∷ []) t h = absurd t
one_left f (suc zero ∷ []) t h = absurd t
one_left f (suc (suc zero) ∷ []) t h = absurd (and_r f false t)
one_left f (suc (suc (suc zero)) ∷ []) t h = omega arith
one_left f (suc (suc (suc (suc x))) ∷ []) t h = absurd t
one_left f (x ∷ y ∷ w) t h = absurd (omega arith)

pub none_before : (f : Bool) (m : ℕ) (w : Word) → Memᴰ w (words_at f m) → length w ≤ 1 → count_before w (words_at f m) ≡ 0
unfolding ways
none_before f m w i h =
    let s = (member_words f m w).0 i in
    omega (arith, (words_at_position f m w i).0, ways_few f m (omega (arith, one_left f w s.0 h)))

-- Where b rises the remainder by three is 0 or 1.
pub can_rise : (f : Bool) (m l : ℕ) (w : Word) → Memᴰ (l ∷ w) (words_at f m) → 2 ≤ l → m % 3 ≤ 1
unfolding reads weight
can_rise f m l w i h = go l h ((member_words f m (l ∷ w)).0 i)
  where
    go : (x : ℕ) → 2 ≤ x → T (reads f (x ∷ w)) × (weight (x ∷ w) ≡ m) → m % 3 ≤ 1
    go zero g s = absurd (omega arith)
    go (suc zero) g s = absurd (omega arith)
    go (suc (suc zero)) g s = omega (arith, s.1)
    go (suc (suc (suc zero))) g s = omega (arith, s.1)
    go (suc (suc (suc (suc x)))) g s = absurd s.0

-- ---- letters

-- One more letter is passed.
pub drop_more : (w v : Word) (k x : ℕ) → drop k w ≡ x ∷ v → drop (k + 1) w ≡ v
drop_more w v k x e = rw (← drop-drop 1 k w, e)

pub take_more : (w v : Word) (k x : ℕ) → drop k w ≡ x ∷ v → take (k + 1) w ≡ take k w ++ (x ∷ [])
take_more w v k x e = rw (take-add k 1 w, e)

-- The letters of a word of the list are 0 to 3, and the last one is 3.
pub letters_low : (n : ℕ) (w : Word) → Memᴰ w (list_of n) → (i : ℕ) → i < length w → slice_index w i ≤ 3
unfolding Good
letters_low n w m i h = go ((list_holds n w).0 m).0
  where
    go : Good w → slice_index w i ≤ 3
    go (inl e) = absurd (omega (arith, ap length e))
    go (inr s) = s.letters i h

pub ends_in_3 : (n : ℕ) (w : Word) → Memᴰ w (list_of n) → (i : ℕ) → length w ≡ suc i → slice_index w i ≡ 3
unfolding Good
ends_in_3 n w m i h = go ((list_holds n w).0 m).0
  where
    go : Good w → slice_index w i ≡ 3
    go (inl e) = absurd (omega (arith, ap length e))
    go (inr s) =
        let e : length w - 1 ≡ i = omega arith in
        rw e at s.ends

-- ---- bits

-- One letter more makes one bit more.
pub bits_more : (f : ℕ → ℕ) (w : Word) (i : ℕ) → i < length w → bits f (take (suc i) w) ≡ bits f (take i w) + 2 ^ i * f (slice_index w i)
unfolding bits
bits_more f w i h =
    rw (take-suc w i 0 h, bits_append f (take i w) (slice_index w i ∷ []), length-take-le i w (omega arith)) (omega arith)

one_more : (x p y : ℕ) → y ≤ 1 → x < p → x + p * y < p * 2
one_more x p zero h l = omega arith
one_more x p (suc zero) h l = omega arith
one_more x p (suc (suc y)) h l = absurd (omega arith)

pub bits_low : (f : ℕ → ℕ) (w : Word) → ((i : ℕ) → i < length w → f (slice_index w i) ≤ 1) → (i : ℕ) → i ≤ length w
    → bits f (take i w) < 2 ^ i
unfolding bits
bits_low f w low zero h = omega arith
bits_low f w low (suc i) h =
    rw (bits_more f w i h, pow-suc 2 i) (one_more _ _ (f (slice_index w i)) (low i h) (bits_low f w low i (omega arith)))
