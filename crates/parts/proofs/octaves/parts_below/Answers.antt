-- `parts_below` meets its contract: it computes the definition, and the products are small.
use mathlib.Core.Path.{refl}
use Prim.Native.Nat.{ℕ, ◌+◌, ◌*◌, ◌≤◌}
use native.Mathlib.Nat.{mul-le-mul}
use native.Mathlib.Omega.{arith}
use Rattle.parts.specs.Octaves.{parts_below}
use Rattle.parts.proofs.octaves.parts_below.Goals as goal

small : (l : ℕ) → l ≤ 128 → l * (323 * l + 832) ≤ 5398528
small l h = let line : 323 * l + 832 ≤ 42176 = omega arith in mul-le-mul h line

pub overflow_mul-result-2 : goal.overflow_mul-result-2
overflow_mul-result-2 c =
    omega (arith, small c.args.l c.requires)

pub overflow_add-result-2 : goal.overflow_add-result-2
overflow_add-result-2 c =
    omega (arith, small c.args.l c.requires)

pub returns : goal.returns
unfolding parts_below
returns c = refl
