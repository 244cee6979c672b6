-- `parts::exponents_of` meets its contract. 3^b is odd, so the zeros below the lowest one bit of 2^a × 3^b are a, and shifted right
-- by them it is 3^b; that 323 times the length of 3^b over 512 is b is tested at each b up to 40.
use mathlib.Core.Path.{◌≡◌, refl, ap, ◌∙◌}
use mathlib.Core.Bool.{Bool}
use Prim.Native.Nat.{ℕ, zero, suc, ◌+◌, ◌-◌, ◌*◌, ◌/◌, ◌%◌, ◌^◌, ◌<◌, suc-le-suc}
use native.Mathlib.Nat.{one-mul, mul_assoc, pow-succ', pow-suc, le_of_suc-le-suc, mul-div_right, add-mul-mod_self_left}
use native.Mathlib.Omega.{arith}
use lib.Count.{count_leading_zeros, count_trailing_zeros, under, leading_le, trailing_le}
use lib.Dec.{T, eqb, eqb→eq}
use lib.Pow.{pow_pos}
use borrow.Author.Rules.{rules}
use Rattle.chains.specs.Chains.{Part, value}
use Rattle.chains.proofs.Divides.{value_pos}
use Rattle.parts.specs.Parts.{limit}
use Rattle.parts.proofs.Tests.{below, at_below}
use Rattle.chains.proofs.Bounds.{part_bounds}
use Rattle.parts.proofs.exponents_of.Goals as goal

-- ---- zeros at the low end

-- A number other than 0 has a one bit above them.
trailing_lt : (k n : ℕ) → 0 < n → n < 2 ^ k → count_trailing_zeros k n < k
unfolding count_trailing_zeros
trailing_lt zero n p h = absurd (omega arith)
trailing_lt (suc k) n p h = go (λ (q : 0 < n / 2). trailing_lt k (n / 2) q (omega (arith, pow-suc 2 k))) (n % 2) refl
  where
    go : (0 < n / 2 → count_trailing_zeros k (n / 2) < k) → (d : ℕ) → n % 2 ≡ d → under d (count_trailing_zeros k (n / 2)) < suc k
    go rest zero e = suc-le-suc (rest (omega arith))
    go rest (suc d) e = omega arith

odd_power : (b : ℕ) → 3 ^ b % 2 ≡ 1
odd_power zero = refl
odd_power (suc b) =
    let thrice : 3 ^ suc b ≡ 3 ^ b + 2 * 3 ^ b = omega (arith, pow-suc 3 b) in
    rw thrice (add-mul-mod_self_left (3 ^ b) 2 (3 ^ b) ∙ odd_power b)

trailing_part : (a k m : ℕ) → a < k → m % 2 ≡ 1 → count_trailing_zeros k (2 ^ a * m) ≡ a
unfolding count_trailing_zeros
trailing_part a zero m h o = absurd (omega arith)
trailing_part zero (suc k) m h o = rw (one-mul m, o)
trailing_part (suc a) (suc k) m h o =
    let x = 2 ^ a * m in
    let even : 2 * x % 2 ≡ 0 = omega arith in
    let half : 2 * x / 2 ≡ x = omega arith in
    rw (pow-succ' 2 a, mul_assoc 2 (2 ^ a) m, even, half) (ap suc (trailing_part a k m (le_of_suc-le-suc h) o))

-- ---- the length of 3^b

right_length : ℕ → Bool
right_length b = eqb ((64 - count_leading_zeros 64 (3 ^ b)) * 323 / 512) b

right_lengths : T (below 41 right_length)
unfolding below right_length count_leading_zeros
right_lengths = tt

-- ---- the exponents of a part

exponents : (p : Part) (v : ℕ) → v < limit → value p ≡ v
    → (count_trailing_zeros 64 v ≡ p.a) × ((64 - count_leading_zeros 64 (v / 2 ^ count_trailing_zeros 64 v)) * 323 / 512 ≡ p.b)
unfolding value right_length
exponents p v h e =
    let bounds = part_bounds p (rw e h) in
    let zeros : count_trailing_zeros 64 v ≡ p.a = rw (← e) (trailing_part p.a 64 (3 ^ p.b) (omega (arith, bounds)) (odd_power p.b)) in
    let power : v / 2 ^ count_trailing_zeros 64 v ≡ 3 ^ p.b = rw (zeros, ← e) (mul-div_right (3 ^ p.b) (pow_pos p.a)) in
    let found = at_below 41 right_length right_lengths p.b bounds.1 in
    (zeros, rw power (eqb→eq ((64 - count_leading_zeros 64 (3 ^ p.b)) * 323 / 512) p.b found))

pub returns-then-v-eq0 : goal.returns-then-v-eq0
returns-then-v-eq0 c = λ (p : Part) (e : value p ≡ c.args.v). absurd (omega (arith, value_pos p))

pub overflow_cast-odd : goal.overflow_cast-odd
overflow_cast-odd c =
    omega (arith, trailing_le 64 c.args.v)

pub overflow_shr-odd : goal.overflow_shr-odd
overflow_shr-odd c = trailing_lt 64 c.args.v (search rules) (search rules)

pub overflow_sub-length : goal.overflow_sub-length
overflow_sub-length c =
    leading_le 64 _

pub returns : goal.returns
returns c = λ (p : Part) (e : value p ≡ c.args.v). rw (c.from.ensures, c.from-2.ensures) (exponents p c.args.v (search rules) e)
