-- Arithmetic of rests. In the row whose first column has the rest m, the rest of column a is m / 2^a; in the row above it, whose
-- first column has the rest m / 3, it is m / 3 / 2^a.
--
-- In this order: the half and the third of a rest, which stand in the next column and in the row above; the columns whose rest is
-- 0, and the last one whose rest is not; the bound on the rest of a row; the rest at a point, and the points where something is
-- left; the rests of the rows as a list. The remainders by three are in Masks and MaskLaws.
use Rattle.std.specs.Prelude.{◌≡◌, refl, ℕ, zero, suc, ◌+◌, ◌-◌, ◌*◌, ◌^◌, ◌/◌, ◌≤◌, ◌<◌, length, get_or}
use Rattle.std.proofs.Common.{sym, ap, ◌∙◌, div-one, le-div_iff_mul-le, lt_of_lt_of_le, mul_comm, pow-suc, arith, add-one, shr-shr, pow_mono, pow_pos, pow-add, eq-eqb, ne_eqb}
use Rattle.std.proofs.Math.Nat.{div-div-eq-div-mul, div-eq_of_lt, div-eq_of_lt-le, one-le-pow, pow-succ'}
use Rattle.chains.specs.Chains.{value}
use Rattle.grid.specs.Grid.{rest_at, rests_of, live_rows}
use Rattle.chains.proofs.Bounds.{part_bounds}

pub half_of_rest : (m a : ℕ) → m / 2 ^ a / 2 ≡ m / 2 ^ suc a
half_of_rest m a = shr-shr m a 1 ∙ rw add-one

pub third_of_rest : (m a : ℕ) → m / 3 / 2 ^ a ≡ m / 2 ^ a / 3
third_of_rest m a = rw (div-div-eq-div-mul m 3 (2 ^ a), div-div-eq-div-mul m (2 ^ a) 3, mul_comm 3 (2 ^ a))

pub third_of_row : (m i : ℕ) → m / 3 / 3 ^ i ≡ m / 3 ^ suc i
third_of_row m i = rw (div-div-eq-div-mul m 3 (3 ^ i), ← pow-succ' 3 i)

pub row_above : (m i : ℕ) → m / 3 ^ i / 3 ≡ m / 3 ^ suc i
row_above m i = rw (div-div-eq-div-mul m (3 ^ i) 3, ← pow-suc 3 i)

pub rest_dead : (m live i : ℕ) → m < 2 ^ live → live ≤ i → m / 2 ^ i ≡ 0
rest_dead m live i h k = div-eq_of_lt (lt_of_lt_of_le h (pow_mono k))

pub rest_at_top : (m top : ℕ) → 2 ^ top ≤ m → m < 2 ^ suc top → m / 2 ^ top ≡ 1
rest_at_top m top h k = div-eq_of_lt-le (2 ^ top) (omega arith) (omega arith)

-- ---- the rest at a point

pub rest_origin : (n : ℕ) → rest_at n 0 0 ≡ n
rest_origin n = omega arith

-- Where a rises it is halved, where b rises it is divided by three.
pub rest_right : (n a b : ℕ) → rest_at n (a + 1) b ≡ rest_at n a b / 2
rest_right n a b = rw add-one (sym (half_of_rest (n / 3 ^ b) a))

pub rest_up : (n a b : ℕ) → rest_at n a (b + 1) ≡ rest_at n a b / 3
rest_up n a b = rw (add-one, pow-suc, ← div-div-eq-div-mul n (3 ^ b) 3) (third_of_rest (n / 3 ^ b) a)

-- A point with something left has a value of at most n.
point_value : (n a b : ℕ) → 1 ≤ rest_at n a b → 2 ^ a * 3 ^ b ≤ n
point_value n a b h =
    let k : 1 * 2 ^ a ≤ n / 3 ^ b = (le-div_iff_mul-le (pow_pos a)).0 h in
    (le-div_iff_mul-le (one-le-pow b 3 (omega arith))).0 (omega arith)

-- So it is one of the table's.
pub point_bounds : (n a b : ℕ) → n < 2 ^ 64 → 1 ≤ rest_at n a b → (a + b < 64) × (b < 41)
unfolding value
point_bounds n a b f h = part_bounds (record { a = a; b = b }) (omega (arith, point_value n a b h))

-- ---- the rests of the rows

pub length_rests : (m k : ℕ) → length (rests_of m k) ≡ k
unfolding rests_of
length_rests m zero = refl
length_rests m (suc k) = ap suc (length_rests (m / 3) k)

pub rests_at : (m k i : ℕ) → i < k → get_or (rests_of m k) i 0 ≡ m / 3 ^ i
unfolding rests_of
rests_at m zero i h = absurd (omega arith)
rests_at m (suc k) zero h = sym (div-one m)
rests_at m (suc k) (suc i) h = rests_at (m / 3) k i (omega arith) ∙ third_of_row m i

-- One row more, in which something is left, and the end, where nothing is.
pub live_more : (m k : ℕ) → 0 < m → live_rows m (suc k) ≡ suc (live_rows (m / 3) k)
unfolding live_rows
live_more m k h = rw (ne_eqb m 0 (λ e. omega arith))

pub live_none : (m k : ℕ) → m ≡ 0 → live_rows m k ≡ 0
unfolding live_rows
live_none m zero e = refl
live_none m (suc k) e = rw (eq-eqb m 0 e)

-- Behind the live rows nothing is left, and they are few.
pub live_dead : (m k : ℕ) → m < 3 ^ k → m / 3 ^ live_rows m k ≡ 0
unfolding live_rows
live_dead m zero h = omega arith
live_dead zero (suc k) h = rw (live_none 0 (suc k) refl)
live_dead (suc m) (suc k) h =
    rw (live_more (suc m) k (omega arith), ← third_of_row)
    (live_dead (suc m / 3) k (omega (arith, pow-suc 3 k)))

pub live_few : (m k j : ℕ) → m < 3 ^ j → live_rows m k ≤ j
unfolding live_rows
live_few m zero j h = omega arith
live_few zero (suc k) j h = omega (arith, live_none 0 (suc k) refl)
live_few (suc m) (suc k) zero h = absurd (omega arith)
live_few (suc m) (suc k) (suc j) h =
    rw (live_more (suc m) k (omega arith)) (omega (arith, live_few (suc m / 3) k j (omega (arith, pow-suc 3 j))))

-- Where nothing is left in a row, nothing is left in those above it.
pub row_dead : (n k j : ℕ) → n / 3 ^ k ≡ 0 → k ≤ j → n / 3 ^ j ≡ 0
row_dead n k j e h =
    let d : j ≡ k + (j - k) = omega arith in
    rw (d, pow-add 3 k (j - k), ← div-div-eq-div-mul n (3 ^ k) (3 ^ (j - k)), e)
    (div-eq_of_lt (one-le-pow (j - k) 3 (omega arith)))
