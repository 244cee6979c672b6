-- The sum is below twice m. If it is below m, m less than it wraps to 2^63 or more, and adding m again gives the sum; else m less
-- than it is the remainder.
use Rattle.std.proofs.Common.{◌≡◌, ℕ, ◌+◌, ◌-◌, ◌*◌, ◌/◌, ◌%◌, ◌^◌, ◌<◌, ◌≤◌, Bool, true, false, ltb, sym, refl, ◌∙◌, mul-le-mul_right, mod-eq_of_lt, arith, ltb-false, ltb-true}
use native.Mathlib.Nat.{mod-eq-sub-mod}
use Rattle.running.proofs.steps.Run.sum.Goals as goal

-- The highest bit times m.
module _ (m d : ℕ) (h : d < 2 ^ 64) where
  once : d / 2 ^ 63 * m ≤ m
  once = let bit : d / 2 ^ 63 ≤ 1 = omega arith in omega (arith, mul-le-mul_right m bit)

-- s is the sum, d is m less than it, modulo 2^64.
module _ (s m d t : ℕ) (twice : s < 2 * m) (most : m ≤ 2 ^ 63) (h : d < 2 ^ 64) (e : (d + m) % 2 ^ 64 ≡ s)
    (f : t ≡ (d + d / 2 ^ 63 * m) % 2 ^ 64) where
  reduced : (t ≡ s % m) × (t < m)
  reduced = go (ltb s m) refl
    where
      go : (b : Bool) → ltb s m ≡ b → (t ≡ s % m) × (t < m)
      go true c =
          let below : s < m = ltb-true s m c in
          let bit : d / 2 ^ 63 ≡ 1 = omega arith in
          let same : t ≡ s = omega (arith, rw bit at f) in
          (same ∙ sym (mod-eq_of_lt below), omega arith)
      go false c =
          let over : m ≤ s = ltb-false s m c in
          let bit : d / 2 ^ 63 ≡ 0 = omega arith in
          let same : t ≡ s - m = omega (arith, rw bit at f) in
          (same ∙ sym (mod-eq-sub-mod over ∙ mod-eq_of_lt (omega arith)), omega arith)

pub overflow_mul-result : goal.overflow_mul-result
overflow_mul-result c = omega (arith, once c.args.self.m ((c.args.r + c.args.s + (2 ^ 64 - c.args.self.m)) % 2 ^ 64) (omega arith))

pub returns : goal.returns
returns c =
    reduced _ _ ((c.args.r + c.args.s + (2 ^ 64 - c.args.self.m)) % 2 ^ 64) _ (omega arith) c.args.self.small.1 (omega arith) (omega arith) refl
