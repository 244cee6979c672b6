-- What the bits of a row's masks are (Masks): after `^`, `|` and `!`, and in each mask.
use Rattle.std.specs.Prelude.{◌≡◌, refl, ℕ, zero, suc, ◌+◌, ◌-◌, ◌*◌, ◌^◌, ◌/◌, ◌%◌, ◌<◌, max}
use Rattle.std.proofs.Common.{◌∙◌, mod-eq_of_lt, pow-suc, one-add, arith, pow_pos, shr-shr}
use Rattle.std.specs.Int.Bits.{bit_xor, bit_or, xor_add_and, or_step}
use Rattle.std.proofs.lemmas.Nat.{xor_shr, or_shr, xor_lt, or_lt, and_mask}
use Rattle.std.proofs.Math.Pow.{high, ones_split, ones_lt}
use Rattle.grid.specs.Rests.{half_of_rest, third_of_rest}
use Rattle.grid.specs.Masks.{ones_of, nonzeros_of, zeros_of, twos_of}

-- ---- bits

xor_bit : (x y a : ℕ) → bit_xor x y / 2 ^ a % 2 ≡ (x / 2 ^ a + y / 2 ^ a) % 2
xor_bit x y a = rw (xor_shr x y a) (omega (arith, xor_add_and (x / 2 ^ a) (y / 2 ^ a)))

or_bit : (x y a : ℕ) → bit_or x y / 2 ^ a % 2 ≡ max (x / 2 ^ a % 2) (y / 2 ^ a % 2)
or_bit x y a = rw (or_shr x y a) (omega (arith, or_step (x / 2 ^ a) (y / 2 ^ a)))

all_set : (k a : ℕ) → a < k → (2 ^ k - 1) / 2 ^ a % 2 ≡ 1
all_set k a h =
    let e : k ≡ suc (k - suc a) + a = omega arith in
    rw (e, ones_split (suc (k - suc a)) a, high (2 ^ suc (k - suc a) - 1) a (ones_lt a), pow-suc 2 (k - suc a))
    (omega (arith, pow_pos (k - suc a)))

not_bit : (k x a : ℕ) → x < 2 ^ k → a < k → (2 ^ k - 1 - x) / 2 ^ a % 2 ≡ 1 - x / 2 ^ a % 2
not_bit k x a hx ha =
    let e : 2 ^ k - 1 - x ≡ bit_xor x (2 ^ k - 1) = omega (arith, xor_add_and x (2 ^ k - 1), and_mask x k, mod-eq_of_lt hx) in
    rw e (xor_bit x (2 ^ k - 1) a ∙ omega (arith, all_set k a ha))

-- ---- the masks

pub ones_bit : (m a : ℕ) → ones_of m (m / 3) / 2 ^ a % 2 ≡ m / 2 ^ a % 3 % 2
ones_bit m a = xor_bit m (m / 3) a ∙ rw (third_of_rest m a) (omega arith)

-- Of a rest r whose remainder is not 1 but 2 × e: the remainder of its half and its last bit make e.
last_bits : (r e : ℕ) → r % 3 ≡ 2 * e → (r / 2 % 3 + r) % 2 ≡ e % 2
last_bits r e h =
    let half : r / 2 ≡ 3 * (r / 3 / 2) + (r / 3 % 2 + e) = omega arith in
    let left : r / 2 % 3 ≡ r / 3 % 2 + e = omega arith in
    let sum : r / 2 % 3 + r ≡ 2 * (3 * (r / 3 / 2) + 2 * (r / 3 % 2) + e) + e = omega arith in
    rw sum (omega arith)

nonzeros_bit : (m a : ℕ) → nonzeros_of m (m / 3) / 2 ^ a % 2 ≡ (m / 2 ^ a % 3 + 1) / 2
nonzeros_bit m a = or_bit ones (bit_xor (ones / 2) m) a ∙ rw (ones_bit m a, differs) (go (r % 3) refl)
  where
    r : ℕ
    r = m / 2 ^ a

    ones : ℕ
    ones = ones_of m (m / 3)

    differs : bit_xor (ones / 2) m / 2 ^ a % 2 ≡ (r / 2 % 3 + r) % 2
    differs =
        let e : ones / 2 / 2 ^ a ≡ ones / 2 ^ suc a = shr-shr ones 1 a ∙ rw one-add in
        let o : ones / 2 ^ suc a % 2 ≡ r / 2 % 3 % 2 = rw (half_of_rest m a) (ones_bit m (suc a)) in
        xor_bit (ones / 2) m a ∙ rw e (omega arith)

    go : (d : ℕ) → r % 3 ≡ d → max (d % 2) ((r / 2 % 3 + r) % 2) ≡ (d + 1) / 2
    go zero e = rw (last_bits r 0 e)
    go (suc zero) e = omega arith
    go (suc (suc zero)) e = rw (last_bits r 1 e)
    go (suc (suc (suc d))) e = absurd (omega arith)

pub zeros_bit : (m a : ℕ) → m < 2 ^ 64 → a < 64 → zeros_of m (m / 3) / 2 ^ a % 2 ≡ (2 - m / 2 ^ a % 3) / 2
zeros_bit m a fits h = not_bit 64 (nonzeros_of m (m / 3)) a below h ∙ omega (arith, nonzeros_bit m a)
  where
    ones : ℕ
    ones = ones_of m (m / 3)

    ones_below : ones < 2 ^ 64
    ones_below = xor_lt 64 m (m / 3) fits (omega arith)

    below : nonzeros_of m (m / 3) < 2 ^ 64
    below = or_lt 64 ones (bit_xor (ones / 2) m) ones_below (xor_lt 64 (ones / 2) m (omega (arith, ones_below)) fits)

-- The sum of two bits that say of a remainder whether it is not 0, and whether it is 1.
neither : (x y r : ℕ) → r < 3 → x % 2 ≡ (r + 1) / 2 → y % 2 ≡ r % 2 → (x + y) % 2 ≡ r / 2
neither x y zero h e d = omega arith
neither x y (suc zero) h e d = omega arith
neither x y (suc (suc zero)) h e d = omega arith
neither x y (suc (suc (suc r))) h e d = absurd (omega arith)

pub twos_bit : (m a : ℕ) → twos_of m (m / 3) / 2 ^ a % 2 ≡ m / 2 ^ a % 3 / 2
twos_bit m a =
    xor_bit (nonzeros_of m (m / 3)) (ones_of m (m / 3)) a
    ∙ neither (nonzeros_of m (m / 3) / 2 ^ a) (ones_of m (m / 3) / 2 ^ a) (m / 2 ^ a % 3) (omega arith) (nonzeros_bit m a) (ones_bit m a)
