-- `back::top_of` meets its contract: the zeros above the highest bit tell where it stands.
use Rattle.std.proofs.Common.{◌≡◌, ℕ, suc, ◌-◌, ◌*◌, ◌%◌, ◌^◌, ◌<◌, ◌≤◌, refl, mod-eq_of_lt, arith, rules}
use lib.Count.{count_leading_zeros, leading_top}
use lib.Pow.{pow-lt}
use Rattle.counting.proofs.back.top_of.Goals as goal

module _ (x : ℕ) (h : 0 < x) (fits : x < 2 ^ 64) where
  zeros : count_leading_zeros 64 x ≤ 63
  zeros = omega (arith, (leading_top 64 x h fits).1)

  top : (2 ^ (63 - count_leading_zeros 64 x) ≤ x) × (x < 2 ^ suc (63 - count_leading_zeros 64 x))
  top =
      let t = leading_top 64 x h fits in
      let e : 63 - count_leading_zeros 64 x ≡ t.0 = omega (arith, t.1) in
      (rw e t.2, rw e t.3)

  -- The bit as a number of 64 bits.
  bit : 1 * 2 ^ (63 - count_leading_zeros 64 x) % 2 ^ 64 ≡ 2 ^ (63 - count_leading_zeros 64 x)
  bit =
      let low : 2 ^ (63 - count_leading_zeros 64 x) < 2 ^ 64 = pow-lt {j = 64} (omega arith) in
      let one : 1 * 2 ^ (63 - count_leading_zeros 64 x) ≡ 2 ^ (63 - count_leading_zeros 64 x) = omega arith in
      rw one (mod-eq_of_lt low)

pub overflow_cast-bit : goal.overflow_cast-bit
overflow_cast-bit c =
    omega (arith, zeros c.args.x c.requires (search rules))

pub overflow_sub-bit : goal.overflow_sub-bit
overflow_sub-bit c =
    zeros c.args.x c.requires (search rules)

pub overflow_shl-result : goal.overflow_shl-result
overflow_shl-result c =
    omega arith

pub overflow_sub-result : goal.overflow_sub-result
overflow_sub-result c =
    rw (bit c.args.x c.requires (search rules)) (top c.args.x c.requires (search rules)).0

pub returns : goal.returns
returns c =
    let t = top c.args.x c.requires (search rules) in
    rw (bit c.args.x c.requires (search rules)) (record { low = t.0; high = t.1; less = refl }, omega arith)
