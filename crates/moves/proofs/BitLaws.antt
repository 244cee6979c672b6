-- The lowest and the highest one bit of a number.
--
-- In this order: the lowest and the highest one bit of any number; `top_bit` and `low_bit` (Amounts) of a number below 2^64; what
-- the code that computes these two asks.
use Rattle.std.specs.Prelude.{◌≡◌, refl, ◌⊎◌, ℕ, zero, suc, ◌+◌, ◌-◌, ◌*◌, ◌/◌, ◌%◌, ◌^◌, ◌≤◌, ◌<◌}
use Rattle.std.proofs.Common.{sym, ap, ◌∙◌, inl, inr, pow-suc, mul_assoc, mod-eq_of_lt, arith, pow_pos, pow_mono}
use Rattle.std.specs.Int.{◌∣◌}
use Rattle.std.proofs.Math.Nat.{dvd_refl, dvd_trans, dvd-add, dvd-add_iff_right, le_of_dvd, dvd-mul_left, div-mul_cancel, mul-dvd-mul_left, dvd-mul_right, pow-succ'}
use Rattle.std.specs.Int.Count.{count_leading_zeros, leading_unique, count_trailing_zeros, under}
use Rattle.std.proofs.lemmas.Nat.{leading_top}
use Rattle.std.proofs.Math.Pow.{pow-lt}
use Rattle.moves.proofs.RowLaws.{pow_dvd, exp_lt}
use Rattle.moves.specs.Amounts.{top_bit, low_bit}

-- ---- the lowest one bit

-- 2^e is the lowest one bit of n.
pub record Low (e n : ℕ) : Type 0 where
  pub some : 2 ^ e ≤ n
  pub rest : 2 ^ suc e ∣ n - 2 ^ e

pub low_dvd : {e n : ℕ} → Low e n → 2 ^ e ∣ n
low_dvd {e} {n} h =
    let z : n - 2 ^ e + 2 ^ e ≡ n = omega (arith, h.some) in
    rw z at (dvd-add (2 ^ e) (dvd_trans (2 ^ e) (pow_dvd (omega arith)) h.rest) (dvd_refl (2 ^ e)))

pub low_most : {e n : ℕ} → Low e n → (f : ℕ) → 2 ^ f ∣ n → f ≤ e
low_most {e} {n} h f d =
    let z : ¬ (e < f) = λ (g : e < f).
    let d' : 2 ^ suc e ∣ n = dvd_trans (2 ^ suc e) (pow_dvd g) d in
    let q : n - 2 ^ e + 2 ^ e ≡ n = omega (arith, h.some) in
    let d'' : 2 ^ suc e ∣ 2 ^ e = (dvd-add_iff_right (2 ^ suc e) h.rest).1 (rw q d') in
    omega (arith, le_of_dvd (pow_pos e) d'', pow-suc 2 e, pow_pos e) in
    omega arith

low_unique : {e f n : ℕ} → Low e n → Low f n → e ≡ f
low_unique {e} {f} h k = let a = low_most h f (low_dvd k) in let b = low_most k e (low_dvd h) in omega arith

-- A multiple of 2^e is one of 2^(e+1), or has its lowest one bit there.
pub low_or : (e n : ℕ) → 2 ^ e ∣ n → (2 ^ suc e ∣ n) ⊎ Low e n
low_or e n d = go (q % 2) refl
  where
    q : ℕ
    q = n / 2 ^ e

    z : q * 2 ^ e ≡ n
    z = div-mul_cancel (2 ^ e) d

    w : q / 2 * 2 ^ suc e ≡ 2 * (q / 2) * 2 ^ e
    w = rw (pow-suc 2 e, ← mul_assoc) (omega arith)

    go : (r : ℕ) → q % 2 ≡ r → (2 ^ suc e ∣ n) ⊎ Low e n
    go zero h =
        let f : q ≡ 2 * (q / 2) = omega arith in
        let g : n ≡ q / 2 * 2 ^ suc e = sym z ∙ ap (λ (i : ℕ). i * 2 ^ e) f ∙ sym w in
        inl (rw g (dvd-mul_left (2 ^ suc e) (q / 2)))
    go (suc r) h =
        let f : q ≡ 2 * (q / 2) + 1 = omega arith in
        let g : n ≡ q / 2 * 2 ^ suc e + 2 ^ e = sym z ∙ ap (λ (i : ℕ). i * 2 ^ e) f ∙ omega (arith, w) in
        let k : n - 2 ^ e ≡ q / 2 * 2 ^ suc e = omega arith in
        inr (record { some = omega (arith, g); rest = rw k (dvd-mul_left (2 ^ suc e) (q / 2)) })

-- Bits above the lowest make no difference.
pub low_add : {c s : ℕ} (y : ℕ) → Low c s → 2 ^ suc c ∣ y → Low c (s + y)
low_add {c} {s} y w d =
    let q : s + y - 2 ^ c ≡ (s - 2 ^ c) + y = omega (arith, w.some) in
    record { some = omega (arith, w.some); rest = rw q (dvd-add (2 ^ suc c) w.rest d) }

-- Added to its number, it leaves no one bit there.
pub low_carry : {e n : ℕ} → Low e n → 2 ^ suc e ∣ n + 2 ^ e
low_carry {e} {n} w =
    let q : n - 2 ^ e + 2 ^ suc e ≡ n + 2 ^ e = omega (arith, w.some, pow-suc 2 e) in
    rw q at (dvd-add (2 ^ suc e) w.rest (dvd_refl (2 ^ suc e)))

-- It is found by counting the zeros below it.
trailing_low : (k n : ℕ) → 0 < n → n < 2 ^ k → Low (count_trailing_zeros k n) n
unfolding count_trailing_zeros
trailing_low zero n p h = absurd (omega arith)
trailing_low (suc k) n p h = go (λ (q : 0 < n / 2). trailing_low k (n / 2) q (omega (arith, pow-suc 2 k))) (n % 2) refl
  where
    go : (0 < n / 2 → Low (count_trailing_zeros k (n / 2)) (n / 2)) → (d : ℕ) → n % 2 ≡ d → Low (under d (count_trailing_zeros k (n / 2))) n
    go rest zero e =
        let t = count_trailing_zeros k (n / 2) in
        let r = rest (omega arith) in
        let q : n - 2 ^ suc t ≡ 2 * (n / 2 - 2 ^ t) = omega (arith, pow-suc 2 t) in
        record {
          some = omega (arith, r.some, pow-suc 2 t);
          rest = rw (q, pow-succ' 2 (suc t)) (mul-dvd-mul_left (2 ^ suc t) 2 r.rest);
        }
    go rest (suc d) e =
        let q : n - 1 ≡ 2 * (n / 2) = omega arith in
        record { some = p; rest = rw q (dvd-mul_right 2 (n / 2)) }

-- ---- of every number but 0

below_pow : (n : ℕ) → n < 2 ^ n
below_pow zero = omega arith
below_pow (suc n) = omega (arith, below_pow n, pow-suc 2 n)

pub has_low : (n : ℕ) → 0 < n → (e : ℕ) × Low e n
has_low n p = (count_trailing_zeros n n, trailing_low n n p (below_pow n))

pub has_top : (n : ℕ) → 0 < n → (j : ℕ) × (2 ^ j ≤ n) × (n < 2 ^ suc j)
has_top n p = let r = leading_top n n p (below_pow n) in (r.0, r.2, r.3)

-- ---- of a number below 2^64

pub top_is : (j x : ℕ) → 2 ^ j ≤ x → x < 2 ^ suc j → x < 2 ^ 64 → top_bit x ≡ 2 ^ j
unfolding top_bit
top_is j x h k l =
    let g : j < 64 = exp_lt j 64 (omega arith) in
    let e = leading_unique 64 x (64 - suc j) (suc j) (omega arith) k (omega (arith, pow-suc 2 j)) in
    ap (λ (i : ℕ). 2 ^ i) (omega (arith, e))

pub top_exists : (x : ℕ) → 0 < x → x < 2 ^ 64 → (j : ℕ) × (2 ^ j ≤ x) × (x < 2 ^ suc j) × (top_bit x ≡ 2 ^ j)
top_exists x p h = let r = leading_top 64 x p h in (r.0, r.2, r.3, top_is r.0 x r.2 r.3 h)

pub low_exists : (y : ℕ) → 0 < y → y < 2 ^ 64 → (e : ℕ) × Low e y × (low_bit y ≡ 2 ^ e)
unfolding low_bit
low_exists y p h = (count_trailing_zeros 64 y, trailing_low 64 y p h, refl)

pub low_is : (e y : ℕ) → Low e y → y < 2 ^ 64 → low_bit y ≡ 2 ^ e
low_is e y w h =
    let r = low_exists y (omega (arith, w.some, pow_pos e)) h in
    r.2 ∙ ap (λ (i : ℕ). 2 ^ i) (low_unique r.1 w)

-- ---- for the code

pub shl_one : (k : ℕ) → k < 64 → 1 * 2 ^ k % 2 ^ 64 ≡ 2 ^ k
shl_one k h = let q : 1 * 2 ^ k ≡ 2 ^ k = omega arith in rw q (mod-eq_of_lt (pow-lt h))

pub leading_some : (x : ℕ) → 0 < x → x < 2 ^ 64 → count_leading_zeros 64 x < 64
leading_some x p h = let r = leading_top 64 x p h in omega (arith, r.1)

pub trailing_some : (x : ℕ) → 0 < x → x < 2 ^ 64 → count_trailing_zeros 64 x < 64
trailing_some x p h = exp_lt (count_trailing_zeros 64 x) 64 (omega (arith, (trailing_low 64 x p h).some))

-- Half of the highest one bit, h: x is at least 2 h and below 4 h.
pub half_top :
    (x : ℕ)
    → 2 ≤ x
    → x < 2 ^ 64
    → (0 < top_bit x / 2) × (4 * (top_bit x / 2) ≤ 2 * x) × (x < 4 * (top_bit x / 2)) × (top_bit x / 2 ≤ 2 ^ 62)
half_top x l h = go (top_exists x (omega arith) h)
  where
    go :
        (j : ℕ) × (2 ^ j ≤ x) × (x < 2 ^ suc j) × (top_bit x ≡ 2 ^ j)
        → (0 < top_bit x / 2) × (4 * (top_bit x / 2) ≤ 2 * x) × (x < 4 * (top_bit x / 2)) × (top_bit x / 2 ≤ 2 ^ 62)
    go (zero, a, b, e) = absurd (omega arith)
    go (suc m, a, b, e) =
        let g : suc m < 64 = exp_lt (suc m) 64 (omega arith) in
        let q = pow_mono {i = m} {j = 62} (omega arith) in (
          omega (arith, e, pow-suc 2 m, pow_pos m),
          omega (arith, e, pow-suc 2 m),
          omega (arith, e, pow-suc 2 m, pow-suc 2 (suc m)),
          omega (arith, e, pow-suc 2 m),
        )

-- The lowest one bit is no more than the number; added to it, it leaves a higher one.
pub low_bounds : (y : ℕ) → 0 < y → 2 * y < 2 ^ 64 → (low_bit y ≤ y) × (0 < low_bit y) × (low_bit y ≤ low_bit (y + low_bit y))
low_bounds y p h =
    let r = low_exists y p (omega arith) in
    let w = r.1 in
    let e = r.0 in
    let t = low_exists (y + 2 ^ e) (omega arith) (omega (arith, w.some)) in
    let o : suc e ≤ t.0 = low_most t.1 (suc e) (low_carry w) in
    let m = pow_mono {i = e} {j = t.0} (omega arith) in
    rw r.2 (w.some, pow_pos e, rw t.2 m)
