-- Nothing is lost by the shifts: the sums are below 2^64.
use mathlib.Core.Path.{◌≡◌}
use Prim.Native.Nat.{ℕ, ◌+◌, ◌-◌, ◌*◌, ◌^◌, ◌%◌, ◌≤◌, ◌<◌}
use native.Mathlib.Nat.{mul_comm, mod-eq_of_lt}
use native.Mathlib.Omega.{arith}
use lib.Pow.{pow_pos}
use Rattle.chains.specs.Chains.{Part}
use Rattle.words.specs.Walks.{steps, rises_from, marks_from, Joins}
use Rattle.words.proofs.Powers.{power}
use Rattle.words.proofs.packing.with_path.Goals as goal

shifted : (x k : ℕ) → 2 ^ k * x < 2 ^ 64 → x * 2 ^ k % 2 ^ 64 ≡ 2 ^ k * x
shifted x k h = rw (mul_comm x (2 ^ k)) (mod-eq_of_lt h)

module _ (q p : Part) (part rises marks : ℕ) (j : Joins q p part rises marks) where
  ones : 1 * 2 ^ (p.b - q.b) % 2 ^ 64 ≡ 2 ^ (p.b - q.b)
  ones = power (p.b - q.b) (omega (arith, j.few))

  some : 1 ≤ 1 * 2 ^ (p.b - q.b) % 2 ^ 64
  some = rw ones (pow_pos (p.b - q.b))

  rises_sum : 1 * 2 ^ (p.b - q.b) % 2 ^ 64 - 1 + rises * 2 ^ steps q p % 2 ^ 64 ≡ rises_from q p rises
  rises_sum = rw (ones, shifted rises (steps q p) (omega (arith, j.rises_fit)))

  marks_sum : part + marks * 2 ^ steps q p % 2 ^ 64 ≡ marks_from q p part marks
  marks_sum = rw (shifted marks (steps q p) (omega (arith, j.marks_fit)))

pub overflow_sub-result : goal.overflow_sub-result
overflow_sub-result c =
    some _ _ _ _ _ c.requires

pub overflow_add-result : goal.overflow_add-result
overflow_add-result c =
    let j = c.requires in omega (arith, rises_sum _ _ _ _ _ j, j.rises_fit)

pub overflow_add-result-2 : goal.overflow_add-result-2
overflow_add-result-2 c =
    let j = c.requires in omega (arith, marks_sum _ _ _ _ _ j, j.marks_fit)

pub returns : goal.returns
returns c =
    let j = c.requires in (rises_sum _ _ _ _ _ j, marks_sum _ _ _ _ _ j)
