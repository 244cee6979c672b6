-- Proper multiples of parts, by exponents: 003, section 1.
-- First that the exponents of 2 and 3 are told by a number, by one lemma at either base; then the theorems of record: a part's
-- value is positive and names the part, and a proper multiple by value is the same as a point further up the grid.
use Rattle.std.specs.Prelude.{◌≡◌, ◌↔◌, ◌≢◌, ℕ, zero, suc, ◌+◌, ◌-◌, ◌*◌, ◌^◌, ◌≤◌, ◌<◌}
use Rattle.std.proofs.Common.{ap, suc-le-suc, mul_assoc, mul-one, mul-pos, pow-suc, mul-le-mul_right, sub-add_cancel, lt_of_not-le, arith, pow-add}
use Rattle.std.proofs.Math.Nat.{one-le-pow, pow-zero, eq_of_mul-eq-mul_right, mul-mul-mul_comm}
use Rattle.chains.specs.Chains.{Part, value, ProperMultiple}
use Rattle.chains.specs.Words.{origin}
use Rattle.chains.specs.Divides.{Above}

-- ---- the exponents of a number

-- A power of 3 is odd, and a power of 2 is no multiple of 3.
no_two : (b m : ℕ) → 3 ^ b ≢ m * 2
no_two zero m e = omega arith
no_two (suc b) m e = no_two b (m - 3 ^ b) (omega (arith, pow-suc 3 b))

pub no_three : (a m : ℕ) → 2 ^ a ≢ m * 3
no_three zero m e = omega arith
no_three (suc a) m e = no_three a (2 ^ a - m) (omega (arith, pow-suc 2 a))

-- Where u has no factor x, u × x^i is a multiple of no higher power of x.
exponent : (x : ℕ) → 0 < x → (u : ℕ) → ((m : ℕ) → u ≢ m * x) → (i j m : ℕ) → u * x ^ i ≡ m * x ^ j → j ≤ i
exponent x pos u free i zero m e = omega arith
exponent x pos u free zero (suc j) m e = absurd (free (m * x ^ j) (rw (pow-zero, mul-one, pow-suc, ← mul_assoc) at e))
exponent x pos u free (suc i) (suc j) m e =
    suc-le-suc
    (exponent x pos u free i j m (eq_of_mul-eq-mul_right x pos (u * x ^ i) (m * x ^ j) (simp (pow-suc, ← mul_assoc) at e)))

-- A part that is a multiple of another has no lower exponent.
exponents : (p q : Part) (k : ℕ) → value p ≡ k * value q → (q.a ≤ p.a) × (q.b ≤ p.b)
unfolding value
exponents p q k e = (
  exponent 2 (omega arith) (3 ^ p.b) (no_two p.b) p.a q.a (k * 3 ^ q.b) (omega arith),
  exponent 3 (omega arith) (2 ^ p.a) (no_three p.a) p.b q.b (k * 2 ^ q.a) (omega arith),
)

-- ---- parts

pub value_pos : (p : Part) → 0 < value p
unfolding value
value_pos p = mul-pos (one-le-pow p.a 2 (omega arith)) (one-le-pow p.b 3 (omega arith))

-- Parts are equal if their exponents are.
pub same_part_lem : (p q : Part) → p.a ≡ q.a → p.b ≡ q.b → p ≡ q
same_part_lem p q ea eb = λ i. record { a = ea i; b = eb i }

-- A number is the value of one part at most.
pub value_unique : (p q : Part) → value p ≡ value q → p ≡ q
value_unique p q e =
    let h : (q.a ≤ p.a) × (q.b ≤ p.b) = exponents p q 1 (omega arith) in
    let k : (p.a ≤ q.a) × (p.b ≤ q.b) = exponents q p 1 (omega arith) in
    same_part_lem p q (omega arith) (omega arith)

-- Only the part 1 is below 2.
two_le : (p : Part) → 0 < p.a + p.b → 2 ≤ value p
unfolding value
two_le p h = lt_of_not-le (λ (l : value p ≤ 1). omega (arith, exponents origin p 1 (omega (arith, value_pos p))))

-- How far a and b rise from q to p, as a part: what p is divided by q.
ratio : Part → Part → Part
ratio p q = record { a = p.a - q.a; b = p.b - q.b }

ratio_times : (p q : Part) → Above p q → value p ≡ value (ratio p q) * value q
unfolding value ratio
ratio_times p q h = simp (mul-mul-mul_comm, ← pow-add, sub-add_cancel h.across, sub-add_cancel h.upward)

-- A proper multiple by value is one by exponents.
pub multiple_above : (p q : Part) → ProperMultiple (value p) (value q) ↔ Above p q
unfolding ProperMultiple ratio
multiple_above p q = (down, up)
  where
    down : ProperMultiple (value p) (value q) → Above p q
    down (k, two, e) =
        let h : (q.a ≤ p.a) × (q.b ≤ p.b) = exponents p q k e in
        record {
          across = h.0;
          upward = h.1;
          apart = lt_of_not-le (λ (l : p.a + p.b ≤ q.a + q.b).
              omega (arith, mul-le-mul_right (value q) two, value_pos q, ap value (same_part_lem p q (omega arith) (omega arith))));
        }

    up : Above p q → ProperMultiple (value p) (value q)
    up h = (value (ratio p q), two_le (ratio p q) (omega arith), ratio_times p q h)
