-- The walk along the turns of the rows of keys finds the best word, letter by letter: by the letter that the smaller key follows,
-- the first where both keys are equal. It passes the letters of a row at once.
--
-- In this order: a letter before a word; the laws by which the walk starts and passes a letter; the bits of the letters that it
-- passes; the laws by which it passes a row at once; its start and its end, by columns. Where a row turns is in TurnLaws.
use Rattle.std.specs.Prelude.{◌≡◌, ℕ, zero, suc, ◌+◌, ◌-◌, ◌*◌, ◌/◌, ◌%◌, ◌^◌, ◌<◌, ◌≤◌, min, Bool, true, false, cond, T, List, [], ◌∷◌, drop, ◌==◌, ◌≢◌, bit_and, nat_eq, slice_index, slice_index_or}
use Rattle.std.proofs.Math.Path.{refl}
use Rattle.std.proofs.Common.{sym, ap, subst, ◌∙◌, add-zero, le-div_iff_mul-le, mod-eq_of_lt, mul_assoc, pow-suc, one-add, pow-add, pow_mono, pow_pos, shr-shr, drop-drop}
use Rattle.std.proofs.Math.Option.{none, some}
use Rattle.std.proofs.Math.Nat.{lt_of_not-le}
use Rattle.std.proofs.Math.Numerals.{add-one}
use native.Mathlib.Omega.{arith}
use Rattle.std.proofs.lemmas.Nat.Bits.{and_high}
use Rattle.std.proofs.lemmas.Nat.{mod-pow-add}
use borrow.Author.Tests.{eqb-true, eqb-false, ne_eqb}
use Rattle.chains.specs.Chains.{Part}
use Rattle.chains.specs.Words.{Word, origin, right, up}
use Rattle.chains.proofs.Members.{rises}
use Rattle.chains.specs.Keys.{inside}
use Rattle.chains.proofs.Carried.{lead, lead_word, cond_word, rises_low, third_left}
use Rattle.chains.proofs.Bests.{key_a, best_one, take_a, take_b, least_told}
use Rattle.grid.specs.Grid.{rest_at, rests_place}
use Rattle.grid.specs.Masks.{ones_of}
use Rattle.grid.specs.MaskLaws.{ones_bit}
use Rattle.grid.specs.Rests.{row_above, rest_origin, rest_right, rest_up, point_bounds}
use Rattle.words.specs.Packed.{bits, rise, mark}
use Rattle.best.specs.declared.keys.Row.{Row}
use Rattle.best.specs.KeyRows.{row_of}
use Rattle.best.specs.KeyTable.{no_key, letter_by, costs_by, key_cell, third_key, half_key, less}
use Rattle.best.specs.KeyTableLaws.{less_one, less_zero, half_key_lem, cell_step}
use Rattle.best.specs.Walk.{Turned, rises_by, best_from, word_in, best_word, KeyWalked, KeyRisen, KeyStep, KeyStart}
use Rattle.best.specs.Walk.{FirstBits, KeyTelling, ColumnAsked, TurnFrom, ColumnFound, WalkedTo, RowWalk}

-- ---- a letter before a word

drop_more : (w v : Word) (k x : ℕ) → drop k w ≡ x ∷ v → drop (k + 1) w ≡ v
drop_more w v k x e = rw (← drop-drop 1 k w, e)

-- ---- the start

-- The best word, where there is one.
pub best_chosen : (costs : List ℕ) (A B n : ℕ) → key_cell costs A B 0 0 true n < no_key
    → best_from costs A B true 0 0 n ≡ some (best_word costs A B n)
unfolding best_word word_in
best_chosen costs A B n low = rw (least_told no_key (costs_by costs) A B true origin n low).1

walk_start : {costs : List ℕ} {A B n : ℕ} {scratch : List ℕ} → KeyStart costs A B n scratch
    → KeyTelling costs A B n 0 0 true n 0 0
walk_start {costs} {A} {B} {n} s =
    record {
      walked = record {
        here = sym (rest_origin n);
        some_left = s.some_left;
        low = s.found;
        follows = best_chosen costs A B n s.found;
      };
      low = omega arith;
      rising = record { joined = omega arith; few = omega arith };
      marking = record { joined = omega arith; few = omega arith };
    }

-- ---- a step

-- What a step asks holds where a letter after the next is left.
step_asked : {costs : List ℕ} {A B n a b : ℕ} {free : Bool} {rest : ℕ} {scratch : List ℕ} → Turned costs A B n scratch
    → KeyWalked costs A B n a b free rest → 2 ≤ rest → n < 2 ^ 64 → KeyStep costs A B n scratch a b free rest
step_asked {n = n} {a = a} {b = b} t w more fits =
    let l = point_bounds n a b fits (rw w.here at w.some_left) in
    record { turned = t; walked = w; more = more; low_a = omega arith; low_b = l.1 }

module _
    {costs : List ℕ} {A B n a b : ℕ} {free : Bool} {rest : ℕ} {scratch : List ℕ} (s : KeyStep costs A B n scratch a b free rest)
  where
    abbrev p : Part
    p = record { a = a; b = b }

    abbrev turns : ℕ
    turns = slice_index scratch (128 + b) / 2 ^ a

    abbrev half : ℕ
    half = half_key costs A B a b rest

    abbrev u : ℕ
    u = key_cell costs A B a (suc b) true (rest / 3)

    step_is : (f : Bool) → key_cell costs A B a b f rest ≡ min no_key (min half (third_key costs f (rest % 3) u))
    step_is f = cell_step costs A B a b rest s.more f

    half_is : key_a no_key (costs_by costs) A B p rest ≡ half
    half_is = half_key_lem costs A B a b rest s.more

    -- The bit, where the free reader has a word.
    bit_is : key_cell costs A B a b true rest < no_key → turns % 2 ≡ less (key_cell costs A B a b true rest) half
    bit_is low =
        let e = s.walked.here in
        rw e ((s.turned.turns b s.low_b).turn a s.low_a (rw e at s.more) (rw e at low))

    -- Where the reader is the free one, or the remainder is 1, both readers have the same key.
    module _ (same : key_cell costs A B a b true rest ≡ key_cell costs A B a b free rest) where
      low : key_cell costs A B a b true rest < no_key
      low = omega (arith, same, s.walked.low)

      told_b : turns % 2 ≡ 1 → key_cell costs A B a b free rest < half
      told_b e = omega (arith, same, less_one (key_cell costs A B a b true rest) half (sym (bit_is low) ∙ e))

      told_a : turns % 2 ≡ 0 → half ≡ key_cell costs A B a b free rest
      told_a e = omega (arith, same, low, step_is free, less_zero (key_cell costs A B a b true rest) half (sym (bit_is low) ∙ e))

    same_free : free ≡ true → key_cell costs A B a b true rest ≡ key_cell costs A B a b free rest
    same_free e = rw e

    same_one : rest % 3 ≡ 1 → key_cell costs A B a b true rest ≡ key_cell costs A B a b free rest
    unfolding rises
    same_one e = rw (step_is true, step_is free, e)

    -- After a has risen b does not rise at another remainder.
    shut : free ≡ false → (rest % 3 ≢ 1) → half ≡ key_cell costs A B a b free rest
    unfolding rises
    shut e ne = go (rest % 3) refl
      where
        go : (r : ℕ) → rest % 3 ≡ r → half ≡ key_cell costs A B a b free rest
        go zero d = let k = rw (e, d) at (step_is free) in rw e (omega (arith, rw e at s.walked.low, k))
        go (suc zero) d = absurd (ne d)
        go (suc (suc r)) d = let k = rw d at (step_is free) in omega (arith, s.walked.low, k)

    not_taken : rises_by free (rest % 3) turns ≡ false → half ≡ key_cell costs A B a b free rest
    unfolding rises_by
    not_taken h = go (turns % 2 == 0) refl (rest % 3 == 1) refl free refl
      where
        go : (x : Bool) → (turns % 2 == 0) ≡ x → (y : Bool) → (rest % 3 == 1) ≡ y → (f : Bool) → free ≡ f
            → half ≡ key_cell costs A B a b free rest
        go true ex y ey true ef = told_a (same_free ef) (eqb-true (turns % 2) 0 ex)
        go true ex true ey false ef = told_a (same_one (eqb-true (rest % 3) 1 ey)) (eqb-true (turns % 2) 0 ex)
        go true ex false ey false ef = shut ef (eqb-false (rest % 3) 1 ey)
        go false ex true ey f ef = absurd (subst T (rw (ex, ey) at h) tt)
        go false ex false ey f ef = shut (rw (ex, ey) at h) (eqb-false (rest % 3) 1 ey)

    taken : rises_by free (rest % 3) turns ≡ true → key_cell costs A B a b free rest < half
    unfolding rises_by
    taken h = go (turns % 2 == 0) refl (rest % 3 == 1) refl
      where
        one : nat_eq (turns % 2) 0 ≡ false → turns % 2 ≡ 1
        one e = let k : 0 < turns % 2 = lt_of_not-le (λ z. eqb-false (turns % 2) 0 e (omega arith)) in omega arith

        go : (x : Bool) → (turns % 2 == 0) ≡ x → (y : Bool) → (rest % 3 == 1) ≡ y → key_cell costs A B a b free rest < half
        go true ex y ey = absurd (subst T (sym (rw ex at h)) tt)
        go false ex true ey = told_b (same_one (eqb-true (rest % 3) 1 ey)) (one ex)
        go false ex false ey = told_b (same_free (rw (ex, ey) at h)) (one ex)

    -- The letter l leads to the point (a', b').
    risen : (l : ℕ) (g : Bool) (a' b' m : ℕ)
        → lead l (best_from costs A B g a' b' m) ≡ some (drop (a + b) (best_word costs A B n))
        → (a' + b' ≡ a + b + 1) × (l ≤ 3)
        → m ≡ rest_at n a' b'
        → 1 ≤ m
        → key_cell costs A B a' b' g m < no_key
        → KeyRisen costs A B n a b l a' b' g m
    risen l g a' b' m e d here h low =
        let v = lead_word l (best_from costs A B g a' b' m) (drop (a + b) (best_word costs A B n)) e in
        let later = drop_more (best_word costs A B n) v.0 (a + b) l v.2 in
        record {
          walked = record { here = here; some_left = h; low = low; follows = rw (d.0, later) v.1 };
          passed = d.0;
          small = d.1;
          next = rw later v.2;
        }

    -- a rises where b does not.
    step_a : rises_by free (rest % 3) turns ≡ false → KeyRisen costs A B n a b (rest % 2) (a + 1) b false (rest / 2)
    unfolding right
    step_a h =
        let w = s.walked in
        let e = not_taken h in
        let word = take_a no_key (costs_by costs) A B free p rest s.more w.low (half_is ∙ e) in
        risen (rest % 2) false (a + 1) b (rest / 2) (rw add-one (sym word ∙ w.follows)) (omega arith, omega arith)
        (rw (rest_right, w.here))
        (omega (arith, s.more))
        (rw add-one (omega (arith, e, w.low)))

    module _ (h : rises_by free (rest % 3) turns ≡ true) where
      raised : T (rises free (rest % 3))
          × (lead (2 + rest % 3) (best_from costs A B true a (suc b) (rest / 3)) ≡ some (drop (a + b) (best_word costs A B n)))
      unfolding up
      raised =
          let w = s.walked in
          let word = take_b no_key (costs_by costs) A B free p rest s.more w.low (λ e. omega (arith, half_is, taken h)) in
          cond_word (rises free (rest % 3)) (lead (2 + rest % 3) (best_from costs A B true a (suc b) (rest / 3)))
          (drop (a + b) (best_word costs A B n))
          (sym word ∙ w.follows)

      third_low : u < no_key
      third_low = go (rises free (rest % 3)) raised.0 (omega (arith, step_is free, taken h, s.walked.low))
        where
          go : (i : Bool) → T i → cond i (letter_by costs (2 + rest % 3) + u) no_key < no_key → u < no_key
          go true t q = omega arith
          go false t q = absurd t

      step_b : KeyRisen costs A B n a b (2 + rest % 3) a (b + 1) true (rest / 3)
      step_b =
          risen (2 + rest % 3) true a (b + 1) (rest / 3) (rw add-one raised.1)
          (omega arith, omega (arith, rises_low free (rest % 3) raised.0))
          (rw (rest_up, s.walked.here))
          (third_left free rest s.more raised.0)
          (rw add-one third_low)

-- ---- the bits of the letters

-- A bit is added at its index: neither the shift nor the sum wraps.
bit_fits : (k x bit : ℕ) → k < 64 → x < 2 ^ k → bit ≤ 1
    → (bit * 2 ^ k % 2 ^ 64 ≡ bit * 2 ^ k) × (x + bit * 2 ^ k < 2 ^ suc k) × (x + bit * 2 ^ k % 2 ^ 64 < 2 ^ 64)
bit_fits k x bit h l b =
    let p : 2 ^ suc k ≤ 2 ^ 64 = pow_mono {j = 64} h in
    go bit b p
  where
    go : (bit : ℕ) → bit ≤ 1 → 2 ^ suc k ≤ 2 ^ 64
        → (bit * 2 ^ k % 2 ^ 64 ≡ bit * 2 ^ k) × (x + bit * 2 ^ k < 2 ^ suc k) × (x + bit * 2 ^ k % 2 ^ 64 < 2 ^ 64)
    go zero b p = (omega arith, omega (arith, pow-suc 2 k), omega (arith, pow-suc 2 k))
    go (suc zero) b p = (omega (arith, pow-suc 2 k), omega (arith, pow-suc 2 k), omega (arith, pow-suc 2 k))
    go (suc (suc bit)) b p = absurd (omega arith)

bits_more : {f : ℕ → ℕ} {w : Word} {k x l : ℕ} → FirstBits f w k x → drop k w ≡ l ∷ drop (k + 1) w → k < 64 → f l ≤ 1
    → FirstBits f w (k + 1) (x + f l * 2 ^ k)
unfolding bits
bits_more {f} {w} {k} {x} {l} t e h low =
    let two : 2 ^ (k + 1) ≡ 2 ^ k * 2 = rw add-one (pow-suc 2 k) in
    let all : x + 2 ^ k * (f l + 2 * bits f (drop (k + 1) w)) ≡ bits f w = rw e at t.joined in
    record { joined = rw two (omega arith); few = rw add-one (bit_fits k x (f l) h t.few low).1 }

-- The last letter is 3.
bits_last : {f : ℕ → ℕ} {w : Word} {k x : ℕ} → FirstBits f w k x → drop k w ≡ 3 ∷ [] → f 3 ≡ 1 → x + 2 ^ k ≡ bits f w
unfolding bits
bits_last {f} {w} {k} {x} t e one =
    let all : x + 2 ^ k * (f 3 + 2 * 0) ≡ bits f w = rw e at t.joined in
    let all' : x + 2 ^ k * 1 ≡ bits f w = rw one at all in
    omega arith

module _
    {costs : List ℕ} {A B n a b : ℕ} {free : Bool} {rest rises marks : ℕ} (t : KeyTelling costs A B n a b free rest rises marks)
  where
    -- A letter more,
    module _ {l a' b' : ℕ} {free' : Bool} {rest' : ℕ} (r : KeyRisen costs A B n a b l a' b' free' rest') where
      rise_fits : (l / 2 * 2 ^ (a + b) % 2 ^ 64 ≡ l / 2 * 2 ^ (a + b)) × (rises + l / 2 * 2 ^ (a + b) < 2 ^ suc (a + b))
          × (rises + l / 2 * 2 ^ (a + b) % 2 ^ 64 < 2 ^ 64)
      rise_fits = bit_fits (a + b) rises (l / 2) t.low t.rising.few (omega (arith, r.small))

      mark_fits : (l % 2 * 2 ^ (a + b) % 2 ^ 64 ≡ l % 2 * 2 ^ (a + b)) × (marks + l % 2 * 2 ^ (a + b) < 2 ^ suc (a + b))
          × (marks + l % 2 * 2 ^ (a + b) % 2 ^ 64 < 2 ^ 64)
      mark_fits = bit_fits (a + b) marks (l % 2) t.low t.marking.few (omega arith)

      more_fits : (rises + l / 2 * 2 ^ (a + b) % 2 ^ 64 < 2 ^ 64) × (marks + l % 2 * 2 ^ (a + b) % 2 ^ 64 < 2 ^ 64)
      more_fits = (rise_fits.2, mark_fits.2)

      telling_more : n < 2 ^ 64
          → KeyTelling costs A B n a' b' free' rest' (rises + l / 2 * 2 ^ (a + b) % 2 ^ 64) (marks + l % 2 * 2 ^ (a + b) % 2 ^ 64)
      telling_more fits =
          rw (rise_fits.0, mark_fits.0)
          (record {
            walked = r.walked;
            low = (point_bounds n a' b' fits (rw r.walked.here at r.walked.some_left)).0;
            rising = rw r.passed (bits_more t.rising r.next t.low (omega (arith, r.small)));
            marking = rw r.passed (bits_more t.marking r.next t.low (omega arith));
          })

    -- and the last one.
    last_fits : (rises + 1 * 2 ^ (a + b) % 2 ^ 64 < 2 ^ 64) × (marks + 1 * 2 ^ (a + b) % 2 ^ 64 < 2 ^ 64)
    last_fits = (
      (bit_fits (a + b) rises 1 t.low t.rising.few (omega arith)).2,
      (bit_fits (a + b) marks 1 t.low t.marking.few (omega arith)).2,
    )

    module _ (h : rest ≤ 1) where
      end : (i : Bool) (v : Word) → cond i (some (3 ∷ [])) none ≡ some v → v ≡ 3 ∷ []
      end i v e = let c = cond_word i (some (3 ∷ [])) v e in cc

      last : drop (a + b) (best_word costs A B n) ≡ 3 ∷ []
      last =
          let one : rest ≡ 1 = omega (arith, t.walked.some_left) in
          end (inside A B (record { a = a; b = b })) (drop (a + b) (best_word costs A B n))
          (sym (best_one (costs_by costs) A B free (record { a = a; b = b })) ∙ rw one at t.walked.follows)

      telling_end : (rises + 1 * 2 ^ (a + b) % 2 ^ 64 ≡ bits rise (best_word costs A B n))
          × (marks + 1 * 2 ^ (a + b) % 2 ^ 64 ≡ bits mark (best_word costs A B n))
      telling_end =
          let e : 1 * 2 ^ (a + b) % 2 ^ 64 ≡ 2 ^ (a + b) =
          omega (arith, (bit_fits (a + b) rises 1 t.low t.rising.few (omega arith)).0) in
          rw e (bits_last t.rising last refl, bits_last t.marking last refl)

-- ---- a row at once

-- The same point, told by other numbers.
telling_same : {costs : List ℕ} {A B n a b a' : ℕ} {free free' : Bool} {rest rest' x x' y y' : ℕ}
    → KeyTelling costs A B n a b free rest x y → a ≡ a' → free ≡ free' → rest ≡ rest' → x ≡ x' → y ≡ y'
    → KeyTelling costs A B n a' b free' rest' x' y'
telling_same t ea ef er ex ey = rw (← ea, ← ef, ← er, ← ex, ← ey) t

-- No bit of a rest, and one more.
no_bits : (r : ℕ) → r % 2 ^ 0 ≡ 0
no_bits r = let e : r % 1 ≡ 0 = omega arith in e

rest_bits : (r j k : ℕ) → r % 2 ^ j * 2 ^ k + r / 2 ^ j % 2 * 2 ^ (j + k) ≡ r % 2 ^ suc j * 2 ^ k
rest_bits r j k =
    let e : r % 2 ^ suc j ≡ r / 2 ^ j % 2 * 2 ^ j + r % 2 ^ j = rw one-add at (mod-pow-add r 1 j) in
    rw (e, pow-add 2 j k) (omega arith)

-- Where b rises in none of j columns, they are passed at once.
module _ {costs : List ℕ} {A B n a b rises marks : ℕ} {scratch : List ℕ} (turned : Turned costs A B n scratch) (fits : n < 2 ^ 64)
    (t : KeyTelling costs A B n a b true (rest_at n a b) rises marks)
  where
    pass_columns : (j : ℕ)
        → ((i : ℕ) → i < j → (2 ≤ rest_at n (a + i) b)
        × (rises_by (i == 0) (rest_at n (a + i) b % 3) (slice_index scratch (128 + b) / 2 ^ (a + i)) ≡ false))
        → KeyTelling costs A B n (a + j) b (j == 0) (rest_at n (a + j) b) rises (marks + rest_at n a b % 2 ^ j * 2 ^ (a + b))
    pass_columns zero h = telling_same t (omega arith) refl (rw add-zero) refl (rw no_bits (omega arith))
    pass_columns (suc j) h =
        let before = pass_columns j (λ i u. h i (omega arith)) in
        let k = h j (omega arith) in
        let r = step_a (step_asked turned before.walked k.0 fits) k.1 in
        let none : rest_at n (a + j) b % 2 / 2 ≡ 0 = omega arith in
        let once : rest_at n (a + j) b % 2 % 2 ≡ rest_at n a b / 2 ^ j % 2 = rw (← shr-shr (n / 3 ^ b) a j) (omega arith) in
        let at : a + j + b ≡ j + (a + b) = omega arith in
        let next : a + j + 1 ≡ a + suc j = omega arith in
        telling_same (telling_more before r fits) next (sym (ne_eqb (suc j) 0 (λ e. omega arith)))
        (sym (rest_right n (a + j) b) ∙ rw next)
        (rw none (omega arith))
        (rw ((mark_fits before r).0, once, at) (omega (arith, rest_bits (rest_at n a b) j (a + b))))

-- Bits at the index of a letter.
shifted : (x a b : ℕ) → x * 2 ^ a * 2 ^ b ≡ x * 2 ^ (a + b)
shifted x a b = mul_assoc x (2 ^ a) (2 ^ b) ∙ rw (pow-add 2 a b)

-- The letters of the columns from a up to but without a + j are the bits of m there. The letter by which b rises is odd where the
-- remainder by three is 1.
column_letters : (m a j b to column : ℕ) → to ≡ 2 ^ (a + j) → column ≡ 2 ^ a
    → bit_and m (to - column) * 2 ^ b ≡ m / 2 ^ a % 2 ^ j * 2 ^ (a + b)
column_letters m a j b to column e d =
    let f : a + j ≡ j + a = omega arith in
    rw (e, d, f, and_high m j a) (shifted (m / 2 ^ a % 2 ^ j) a b)

turn_letter : (m k b to : ℕ) → to ≡ 2 ^ k → bit_and (ones_of m (m / 3)) to * 2 ^ b ≡ m / 2 ^ k % 3 % 2 * 2 ^ (k + b)
turn_letter m k b to e =
    let ones = ones_of m (m / 3) in
    let p : 2 ^ k ≡ 2 ^ (1 + k) - 2 ^ k = rw one-add (omega (arith, pow-suc 2 k)) in
    let bit : bit_and ones (2 ^ k) ≡ ones / 2 ^ k % 2 * 2 ^ k = ap (λ x. bit_and ones x) p ∙ and_high ones 1 k in
    rw (e, bit, ones_bit m k) (shifted (m / 2 ^ k % 3 % 2) k b)

turn_rise : (k b to : ℕ) → to ≡ 2 ^ k → to * 2 ^ b ≡ 1 * 2 ^ (k + b)
turn_rise k b to e = rw (e, pow-add 2 k b) (omega arith)

-- The rest in column k is 2 or more where 2^k is at most half of m.
two_or_more : (m k column : ℕ) → column ≡ 2 ^ k → column ≤ m / 2 → 2 ≤ m / 2 ^ k
two_or_more m k column e h = (le-div_iff_mul-le (pow_pos k)).1 (omega arith)

at_most_one : (m k column : ℕ) → column ≡ 2 ^ k → m / 2 < column → 2 ≤ m / 2 ^ k → ⊥
at_most_one m k column e h two = omega (arith, (le-div_iff_mul-le {x = 2} {y = m} (pow_pos k)).0 two)

-- Row b turns in the column `to`.
module _ {costs : List ℕ} {A B n column b rises marks : ℕ} {scratch : List ℕ} (s : RowWalk costs A B n scratch column b rises marks)
    (fits : n < 2 ^ 64)
  where
    abbrev w : WalkedTo costs A B n column b rises marks
    w = s.walked

    two_here : 2 ≤ rest_at n w.a b
    two_here = two_or_more (n / 3 ^ b) w.a column w.is s.more

    pub row_low : b < 41
    row_low = (point_bounds n w.a b fits (omega (arith, two_here))).1

    -- The rest that the code reads.
    pub rest_here : slice_index_or scratch (448 + b) 0 ≡ n / 3 ^ b
    rest_here = s.turned.rests b (omega (arith, row_low))

    rest_above : slice_index_or scratch (449 + b) 0 ≡ n / 3 ^ (b + 1)
    rest_above =
        let e : rests_place + (b + 1) ≡ 449 + b = omega arith in
        rw e at (s.turned.rests (b + 1) (omega (arith, row_low)))

    telling_free : KeyTelling costs A B n w.a b true (rest_at n w.a b) rises marks
    telling_free = telling_same w.telling refl (w.fresh two_here) refl refl refl

    module _ {to : ℕ} (turn : TurnFrom (n / 3 ^ b) (slice_index scratch (128 + b)) w.a to) where
      abbrev k : ℕ
      k = w.a + turn.j

      -- The bits of the letters that are passed.
      abbrev letters : ℕ
      letters = bit_and (n / 3 ^ b) (to - column) * 2 ^ b

      passed : KeyTelling costs A B n k b (turn.j == 0) (rest_at n k b) rises (marks + letters)
      passed =
          telling_same (pass_columns s.turned fits telling_free turn.j turn.passed) refl refl refl refl
          (ap (λ (x : ℕ). marks + x) (sym (column_letters (n / 3 ^ b) w.a turn.j b to column turn.is w.is)))

      letters_fit : (letters % 2 ^ 64 ≡ letters) × (marks + letters < 2 ^ 64)
      letters_fit =
          let p : 2 ^ (k + b) ≤ 2 ^ 64 = pow_mono {j = 64} (omega (arith, passed.low)) in
          let x : letters < 2 ^ 64 = omega (arith, passed.marking.few) in
          (mod-eq_of_lt x, omega (arith, passed.marking.few))

      ended : n / 3 ^ b / 2 < to → WalkedTo costs A B n to b rises (marks + letters)
      ended h =
          record {
            a = k;
            free = (turn.j == 0);
            is = turn.is;
            telling = passed;
            fresh = λ two. absurd (at_most_one (n / 3 ^ b) k to turn.is h two);
          }

      -- The bit of the letter by which b rises.
      abbrev odd : ℕ
      odd = bit_and (ones_of (n / 3 ^ b) (n / 3 ^ b / 3)) to * 2 ^ b

      module _ (h : to ≤ n / 3 ^ b / 2) where
        two : 2 ≤ rest_at n k b
        two = two_or_more (n / 3 ^ b) k to turn.is h

        raised_to : KeyRisen costs A B n k b (2 + rest_at n k b % 3) k (b + 1) true (rest_at n k b / 3)
        raised_to = step_b (step_asked s.turned passed.walked two fits) (turn.turned two)

        rise_is : (2 + rest_at n k b % 3) / 2 * 2 ^ (k + b) ≡ to * 2 ^ b
        rise_is =
            let e : (2 + rest_at n k b % 3) / 2 ≡ 1 = omega (arith, raised_to.small) in
            rw e (sym (turn_rise k b to turn.is))

        mark_is : (2 + rest_at n k b % 3) % 2 * 2 ^ (k + b) ≡ odd
        mark_is =
            let e : (2 + rest_at n k b % 3) % 2 ≡ rest_at n k b % 3 % 2 = omega arith in
            rw e (sym (turn_letter (n / 3 ^ b) k b to turn.is))

        up_fits : (rises + to * 2 ^ b % 2 ^ 64 < 2 ^ 64) × (marks + letters + odd % 2 ^ 64 < 2 ^ 64)
        up_fits = rw (rise_is, mark_is) at (more_fits passed raised_to)

        up_to_lem : WalkedTo costs A B n to (b + 1) (rises + to * 2 ^ b % 2 ^ 64) (marks + letters + odd % 2 ^ 64)
        up_to_lem =
            record {
              a = k;
              free = true;
              is = turn.is;
              telling =
                  telling_same (telling_more passed raised_to fits) refl refl (sym (rest_up n k b))
                  (ap (λ (x : ℕ). rises + x % 2 ^ 64) rise_is)
                  (ap (λ (x : ℕ). marks + letters + x % 2 ^ 64) mark_is);
              fresh = λ t. refl;
            }

    -- As the code tells it, which reads the row in the scratch.
    module _ {row : Row} (read : row ≡ row_of scratch b) where
      own_is : row.m ≡ n / 3 ^ b
      own_is = rw read rest_here

      third_is : row.q ≡ n / 3 ^ b / 3
      third_is = rw read (rw (rest_above, add-one) (sym (row_above n b)))

      pub column_asked : ColumnAsked row.m row.q column
      column_asked =
          record {
            third = rw (own_is, third_is) refl;
            a = w.a;
            is = w.is;
            left = rw own_is (omega (arith, s.more));
          }

      module _ {to : ℕ} (f : ColumnFound row.m (slice_index scratch (128 + b)) column to) where
        turned_at : TurnFrom (n / 3 ^ b) (slice_index scratch (128 + b)) w.a to
        turned_at = rw own_is at (f w.a w.is)

        pub not_back : column ≤ to
        not_back = rw (w.is, turned_at.is) (pow_mono (omega arith))

        pub marks_fit : marks + bit_and row.m (to - column) * 2 ^ b % 2 ^ 64 < 2 ^ 64
        marks_fit = rw (own_is, (letters_fit turned_at).0) (letters_fit turned_at).1

        pub row_ended : row.m / 2 < to → WalkedTo costs A B n to b rises (marks + bit_and row.m (to - column) * 2 ^ b % 2 ^ 64)
            × (column + b < to + b)
        row_ended h =
            let h' = rw own_is at h in
            (rw (own_is, (letters_fit turned_at).0) (ended turned_at h'), omega (arith, s.more))

        pub row_fits : to ≤ row.m / 2 → (rises + to * 2 ^ b % 2 ^ 64 < 2 ^ 64)
            × (marks + bit_and row.m (to - column) * 2 ^ b % 2 ^ 64 + bit_and (ones_of row.m row.q) to * 2 ^ b % 2 ^ 64 < 2 ^ 64)
        row_fits h = let h' = rw own_is at h in rw (own_is, third_is, (letters_fit turned_at).0) (up_fits turned_at h')

        pub row_risen : to ≤ row.m / 2
            → WalkedTo costs A B n to (b + 1) (rises + to * 2 ^ b % 2 ^ 64)
            (marks + bit_and row.m (to - column) * 2 ^ b % 2 ^ 64 + bit_and (ones_of row.m row.q) to * 2 ^ b % 2 ^ 64)
        row_risen h = let h' = rw own_is at h in rw (own_is, third_is, (letters_fit turned_at).0) (up_to_lem turned_at h')

-- ---- the start and the end, by columns

pub walk_begun : {costs : List ℕ} {A B n : ℕ} {scratch : List ℕ} → KeyStart costs A B n scratch → WalkedTo costs A B n 1 0 0 0
walk_begun {n = n} s =
    record {
      a = 0;
      free = true;
      is = refl;
      telling = telling_same (walk_start s) refl refl (sym (rest_origin n)) refl refl;
      fresh = λ t. refl;
    }

module _ {costs : List ℕ} {A B n column b rises marks : ℕ} (w : WalkedTo costs A B n column b rises marks) (fits : n < 2 ^ 64) where
  pub walk_low : b < 41
  walk_low = (point_bounds n w.a b fits w.telling.walked.some_left).1

  last_is : column * 2 ^ b ≡ 1 * 2 ^ (w.a + b)
  last_is = turn_rise w.a b column w.is

  pub ends_fit : (rises + column * 2 ^ b % 2 ^ 64 < 2 ^ 64) × (marks + column * 2 ^ b % 2 ^ 64 < 2 ^ 64)
  ends_fit = rw last_is (last_fits w.telling)

  pub walk_ended : n / 3 ^ b / 2 < column
      → (rises + column * 2 ^ b % 2 ^ 64 ≡ bits rise (best_word costs A B n))
      × (marks + column * 2 ^ b % 2 ^ 64 ≡ bits mark (best_word costs A B n))
  walk_ended h =
      let one : rest_at n w.a b < 2 = lt_of_not-le (at_most_one (n / 3 ^ b) w.a column w.is h) in
      rw last_is (telling_end w.telling (omega arith))
