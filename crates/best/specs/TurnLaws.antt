-- Where a row of the walk turns: the first column from a column on in which b rises, found by the bits of three numbers.
--
-- In this order: bits of numbers, and the lowest one bit from a bit on; the column where a row turns; the same as the code finds it.
use Rattle.std.specs.Prelude.{◌≡◌, ℕ, zero, suc, ◌+◌, ◌-◌, ◌*◌, ◌/◌, ◌%◌, ◌^◌, ◌<◌, ◌≤◌, min, max, Bool, true, false, cond, ◌==◌, ◌≢◌, bit_and, bit_or, nat_lt, refl}
use Rattle.std.proofs.Common.{sym, ap, ◌∙◌, add-zero, le-div_iff_mul-le, lt_of_not-le, mod-eq_of_lt, pow-suc, one-add, arith, pow-add, pow_mono, pow_pos, shr_lt, shr-shr, ltb-true, ltb-false, ne_eqb}
use Rattle.std.proofs.lemmas.Nat.Bits.{and_high}
use Rattle.std.proofs.lemmas.Nat.{and_le_l, and_shr, or_lt, or_shr, shl-shr}
use Rattle.std.specs.Int.Bits.{and_step, or_add_and, or_step, shifted_even, shifted_half}
use Rattle.std.specs.Int.Count.{count_leading_zeros, count_trailing_zeros, under}
use Rattle.std.proofs.Math.Pow.{pow-lt}
use Rattle.std.proofs.lemmas.Bool.{eqb-false}
use Rattle.grid.specs.Masks.{ones_of}
use Rattle.grid.specs.MaskLaws.{ones_bit}
use Rattle.grid.specs.Rests.{rest_at_top, rest_dead}
use Rattle.best.specs.KeyRowsLaws.{top_of_lem}
use Rattle.best.specs.Walk.{rises_by, ColumnAsked, TurnFrom, ColumnFound, LowFrom}

-- ---- bits

and_bit : (x y i : ℕ) → bit_and x y / 2 ^ i % 2 ≡ min (x / 2 ^ i % 2) (y / 2 ^ i % 2)
and_bit x y i = rw (and_shr x y i) (omega (arith, and_step (x / 2 ^ i) (y / 2 ^ i)))

or_bit : (x y i : ℕ) → bit_or x y / 2 ^ i % 2 ≡ max (x / 2 ^ i % 2) (y / 2 ^ i % 2)
or_bit x y i = rw (or_shr x y i) (omega (arith, or_step (x / 2 ^ i) (y / 2 ^ i)))

-- The bits of a power of two.
power_bit : (a : ℕ) → 2 ^ a / 2 ^ a % 2 ≡ 1
power_bit a = let e : 2 ^ a / 2 ^ a ≡ 1 = rest_at_top (2 ^ a) a (omega arith) (omega (arith, pow-suc 2 a, pow_pos a)) in rw e

no_power_bit : (a i : ℕ) → (a ≢ i) → 2 ^ a / 2 ^ i % 2 ≡ 0
no_power_bit a i ne = go (nat_lt a i) refl
  where
    go : (x : Bool) → nat_lt a i ≡ x → 2 ^ a / 2 ^ i % 2 ≡ 0
    go true e = rw (rest_dead (2 ^ a) i i (pow-lt (ltb-true a i e)) (omega arith))
    go false e =
        let l : i ≤ a = ltb-false a i e in
        let d : a ≡ suc (a - suc i) + i = omega arith in
        rw (d, pow-add 2 (suc (a - suc i)) i, shl-shr (2 ^ suc (a - suc i)) i, pow-suc 2 (a - suc i)) (omega arith)

-- The bits of the half.
half_first : (w i : ℕ) → w / 2 / 2 ^ i ≡ w / 2 ^ suc i
half_first w i = shr-shr w 1 i ∙ rw one-add

-- In its trailing zeros a number has no one bit, and then one.
trail_zero : (k w i : ℕ) → i < count_trailing_zeros k w → w / 2 ^ i % 2 ≡ 0
unfolding count_trailing_zeros
trail_zero zero w i h = absurd (omega arith)
trail_zero (suc k) w i h = go (λ (j : ℕ) (l : j < count_trailing_zeros k (w / 2)). trail_zero k (w / 2) j l) (w % 2) refl i h
  where
    go : ((j : ℕ) → j < count_trailing_zeros k (w / 2) → w / 2 / 2 ^ j % 2 ≡ 0) → (d : ℕ) → w % 2 ≡ d → (i : ℕ)
        → i < under d (count_trailing_zeros k (w / 2)) → w / 2 ^ i % 2 ≡ 0
    go later zero e zero l = omega arith
    go later zero e (suc i) l = rw (← half_first w i) (later i (omega arith))
    go later (suc d) e i l = absurd (omega arith)

trail_one : (k w : ℕ) → 0 < w → w < 2 ^ k → (count_trailing_zeros k w < k) × (w / 2 ^ count_trailing_zeros k w % 2 ≡ 1)
unfolding count_trailing_zeros
trail_one zero w p h = absurd (omega arith)
trail_one (suc k) w p h =
    go (λ (q : 0 < w / 2). trail_one k (w / 2) q (omega (arith, pow-suc 2 k))) (w % 2) refl
  where
    go : (0 < w / 2 → (count_trailing_zeros k (w / 2) < k) × (w / 2 / 2 ^ count_trailing_zeros k (w / 2) % 2 ≡ 1)) → (d : ℕ) → w % 2 ≡ d
        → (under d (count_trailing_zeros k (w / 2)) < suc k) × (w / 2 ^ under d (count_trailing_zeros k (w / 2)) % 2 ≡ 1)
    go later zero e =
        let r = later (omega arith) in
        (omega (arith, r.0), rw (← half_first w (count_trailing_zeros k (w / 2))) r.1)
    go later (suc d) e = (omega arith, omega arith)

-- With a zeros put below it, a number has a more.
trail_shift : (a k w : ℕ) → count_trailing_zeros (a + k) (w * 2 ^ a) ≡ a + count_trailing_zeros k w
unfolding count_trailing_zeros
trail_shift zero k w =
    let e : 0 + k ≡ k = omega arith in
    let d : w * 2 ^ 0 ≡ w = omega arith in
    rw (e, d) (omega arith)
trail_shift (suc a) k w =
    let e : suc a + k ≡ suc (a + k) = omega arith in
    rw (e, shifted_even w a, shifted_half w a, trail_shift a k w) (omega arith)

-- The lowest one bit from bit a on, by the trailing zeros of a number whose bits below a are cut off.
below_64 : (a z : ℕ) → 2 ^ a ≤ z → z < 2 ^ 64 → a < 64
below_64 a z h f = lt_of_not-le (λ (k : 64 ≤ a). absurd (omega (arith, pow_mono k)))

low_found : (z a : ℕ) → z < 2 ^ 64 → 2 ^ a ≤ z → LowFrom z a (count_trailing_zeros 64 (bit_and z (2 ^ 64 - 1 - (2 ^ a - 1))))
low_found z a fits h =
    let l = below_64 a z h fits in
    let s : 64 - a + a ≡ 64 = omega arith in
    let high : 2 ^ 64 - 1 - (2 ^ a - 1) ≡ 2 ^ (64 - a + a) - 2 ^ a = rw s (omega (arith, pow_pos a)) in
    let few : z / 2 ^ a < 2 ^ (64 - a) = shr_lt (64 - a) a (rw s fits) in
    let y : bit_and z (2 ^ 64 - 1 - (2 ^ a - 1)) ≡ z / 2 ^ a * 2 ^ a = rw (high, and_high z (64 - a) a, mod-eq_of_lt few) in
    let some : 0 < z / 2 ^ a = (le-div_iff_mul-le (pow_pos a)).1 (omega arith) in
    let w = trail_one (64 - a) (z / 2 ^ a) some few in
    let s' : 64 ≡ a + (64 - a) = omega arith in
    let t : count_trailing_zeros 64 (z / 2 ^ a * 2 ^ a) ≡ a + count_trailing_zeros (64 - a) (z / 2 ^ a) =
    ap (λ (k : ℕ). count_trailing_zeros k (z / 2 ^ a * 2 ^ a)) s' ∙ trail_shift a (64 - a) (z / 2 ^ a) in
    record {
      j = count_trailing_zeros (64 - a) (z / 2 ^ a);
      is = rw y t;
      short = rw (y, t) (omega (arith, w.0));
      none = λ i u. rw (← shr-shr z a i) (trail_zero (64 - a) (z / 2 ^ a) i u);
      one = rw (← shr-shr z a (count_trailing_zeros (64 - a) (z / 2 ^ a))) w.1;
    }

-- ---- the column where a row turns

-- The turn bit t, the remainder r by three, whether the column is the first one (p), and whether it is the last (e).
stays : (i t r p e : ℕ) → max (min (t % 2) (max (r % 2) p)) e ≡ 0 → (i ≡ 0 → p ≡ 1) → rises_by (i == 0) r t ≡ false
unfolding rises_by
stays i t r p e h first = go (t % 2 == 0) refl
  where
    go : (x : Bool) → (t % 2 == 0) ≡ x → cond x false (cond (r == 1) true (i == 0)) ≡ false
    go true d = refl
    go false d =
        let k : 0 < t % 2 = lt_of_not-le (λ z. eqb-false (t % 2) 0 d (omega arith)) in
        rw (ne_eqb r 1 (λ u. omega arith), ne_eqb i 0 (λ u. omega (arith, first u)))

turns_up : (i t r p e : ℕ) → max (min (t % 2) (max (r % 2) p)) e ≡ 1 → e ≡ 0 → r < 3 → ((i ≢ 0) → p ≡ 0)
    → rises_by (i == 0) r t ≡ true
unfolding rises_by
turns_up i t r p e h before small later = rw (ne_eqb (t % 2) 0 (λ u. omega arith)) (go (r == 1) refl (i == 0) refl)
  where
    go : (x : Bool) → (r == 1) ≡ x → (y : Bool) → (i == 0) ≡ y → cond x true y ≡ true
    go true d y f = refl
    go false d true f = refl
    go false d false f = absurd (eqb-false r 1 d (omega (arith, later (eqb-false i 0 f))))

-- m is the rest of the row's first column, and `top` its last column, whose rest is 1. The walk stands in column a.
module _ (m turns a top : ℕ) where
  -- The columns where b may rise, and the last one.
  abbrev found : ℕ
  found = bit_or (bit_and turns (bit_or (ones_of m (m / 3)) (2 ^ a))) (2 ^ top)

  -- Bit i of the first column's number, and of the last one's.
  abbrev first : ℕ → ℕ
  first i = 2 ^ a / 2 ^ i % 2

  abbrev final : ℕ → ℕ
  final i = 2 ^ top / 2 ^ i % 2

  found_bit : (i : ℕ) → found / 2 ^ i % 2 ≡ max (min (turns / 2 ^ i % 2) (max (m / 2 ^ i % 3 % 2) (first i))) (final i)
  found_bit i =
      let may = bit_or (ones_of m (m / 3)) (2 ^ a) in
      or_bit (bit_and turns may) (2 ^ top) i ∙ rw (and_bit turns may i, or_bit (ones_of m (m / 3)) (2 ^ a) i, ones_bit m i)

  module _ (here : 2 ^ a ≤ m) (low : 2 ^ top ≤ m) (high : m < 2 ^ suc top) where
    reached : a ≤ top
    reached = let k : a < suc top = lt_of_not-le (λ (k : suc top ≤ a). omega (arith, pow_mono k)) in omega arith

    found_some : 2 ^ a ≤ found
    found_some =
        let x = bit_and turns (bit_or (ones_of m (m / 3)) (2 ^ a)) in
        omega (arith, or_add_and x (2 ^ top), and_le_l x (2 ^ top), pow_mono reached)

    last_found : found / 2 ^ top % 2 ≡ 0 → ⊥
    last_found e = omega (arith, found_bit top, power_bit top)

    stays_at : (i : ℕ) → found / 2 ^ (a + i) % 2 ≡ 0
        → rises_by (i == 0) (m / 2 ^ (a + i) % 3) (turns / 2 ^ (a + i)) ≡ false
    stays_at i e =
        stays i (turns / 2 ^ (a + i)) (m / 2 ^ (a + i) % 3) (first (a + i)) (final (a + i)) (sym (found_bit (a + i)) ∙ e)
        (λ z. rw (z, add-zero) (power_bit a))

    not_last : (i : ℕ) → 2 ≤ m / 2 ^ (a + i) → top ≢ a + i
    not_last i two e = omega (arith, rw e at (rest_at_top m top low high))

    turns_at : (i : ℕ) → found / 2 ^ (a + i) % 2 ≡ 1 → 2 ≤ m / 2 ^ (a + i)
        → rises_by (i == 0) (m / 2 ^ (a + i) % 3) (turns / 2 ^ (a + i)) ≡ true
    turns_at i e two =
        turns_up i (turns / 2 ^ (a + i)) (m / 2 ^ (a + i) % 3) (first (a + i)) (final (a + i)) (sym (found_bit (a + i)) ∙ e)
        (no_power_bit top (a + i) (not_last i two))
        (omega arith)
        (λ ne. no_power_bit a (a + i) (λ z. ne (omega arith)))

    two_left : (i : ℕ) → a + i < top → 2 ≤ m / 2 ^ (a + i)
    two_left i h = (le-div_iff_mul-le (pow_pos (a + i))).1 (omega (arith, pow_mono h, pow-suc 2 (a + i)))

    module _ {t : ℕ} (l : LowFrom found a t) where
      -- The bit of the last column is 1, so none behind it is found.
      within : a + l.j ≤ top
      within =
          let e : a + (top - a) ≡ top = omega (arith, reached) in
          let k : a + l.j < suc top =
          lt_of_not-le (λ (k : suc top ≤ a + l.j). last_found (rw e at (l.none (top - a) (omega (arith, reached))))) in
          omega arith

      turn_from : TurnFrom m turns a (2 ^ t)
      turn_from =
          record {
            j = l.j;
            is = rw l.is;
            passed = λ i u. (two_left i (omega (arith, within)), stays_at i (l.none i u));
            turned = turns_at l.j l.one;
          }

-- As the code finds it: the last column by the leading zeros of m, the one where the row turns by the trailing zeros.
module _ {m q column : ℕ} (c : ColumnAsked m q column) (fits : m < 2 ^ 64) where
  abbrev top_of : ℕ
  top_of = 63 - count_leading_zeros 64 m

  pub last_told : (count_leading_zeros 64 m ≤ 63) × (1 * 2 ^ top_of % 2 ^ 64 ≡ 2 ^ top_of) × (1 ≤ column)
  last_told =
      let t = top_of_lem m (omega (arith, rw c.is at c.left, pow_pos c.a)) fits in
      (t.0, omega (arith, mod-eq_of_lt {n = 2 ^ top_of} {m = 2 ^ 64} (omega (arith, t.1))), rw c.is (pow_pos c.a))

  module _ (turns : ℕ) (small : turns < 2 ^ 64) where
    -- The index of the bit that is found.
    abbrev lowest : ℕ
    lowest = count_trailing_zeros 64 (bit_and (bit_or (bit_and turns (bit_or (ones_of m q) column)) (2 ^ top_of)) (2 ^ 64 - 1 - (column - 1)))

    module _ (a : ℕ) (e : column ≡ 2 ^ a) where
      here_left : 2 ^ a ≤ m
      here_left = rw e at c.left

      bounds : (count_leading_zeros 64 m ≤ 63) × (2 ^ top_of ≤ m) × (m < 2 ^ suc top_of)
      bounds = top_of_lem m (omega (arith, pow_pos a, here_left)) fits

      low_from : LowFrom (found m turns a top_of) a lowest
      low_from =
          let may = bit_or (ones_of m (m / 3)) (2 ^ a) in
          let f : found m turns a top_of < 2 ^ 64 =
          or_lt 64 (bit_and turns may) (2 ^ top_of) (omega (arith, and_le_l turns may)) (omega (arith, bounds.1)) in
          rw (e, c.third)
          (low_found (found m turns a top_of) a f (found_some m turns a top_of here_left bounds.1 bounds.2))

    pub low_short : lowest < 64
    low_short = (low_from c.a c.is).short

    pub column_found : ColumnFound m turns column (1 * 2 ^ lowest % 2 ^ 64)
    column_found a e =
        let p : 2 ^ lowest < 2 ^ 64 = pow-lt low_short in
        let one : 1 * 2 ^ lowest % 2 ^ 64 ≡ 2 ^ lowest = omega (arith, mod-eq_of_lt p) in
        rw one (turn_from m turns a top_of (here_left a e) (bounds a e).1 (bounds a e).2 (low_from a e))
