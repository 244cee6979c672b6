-- The power of 3 at b, shifted by a, is 3^b × 2^a, which is below 2^64.
use mathlib.Core.Path.{◌≡◌, ap, ◌∙◌}
use mathlib.Core.List.{List}
use Prim.Native.Nat.{ℕ, ◌*◌, ◌^◌, ◌%◌, ◌<◌}
use native.Mathlib.Nat.{mul_comm, mod-eq_of_lt}
use native.Mathlib.Omega.{arith}
use lib.ListN.{length, get_or}
use Rattle.chains.specs.Chains.{Part, value}
use Rattle.chains.proofs.Bounds.{part_bounds}
use Rattle.parts.specs.Codes.{powers}
use Rattle.parts.proofs.CodeLaws.{powers_count, power_at}
use Rattle.words.proofs.entries.Threes.value_at.Goals as goal

shifted : (p : Part) → value p < 2 ^ 64 → (t : List ℕ) → t ≡ powers → get_or t p.b 0 * 2 ^ p.a % 2 ^ 64 ≡ value p
unfolding value
shifted p low t f =
    let third : get_or t p.b 0 ≡ 3 ^ p.b = ap (λ s. get_or s p.b 0) f ∙ power_at p.b (part_bounds p low).1 in
    rw (third, mul_comm (3 ^ p.b) (2 ^ p.a)) (mod-eq_of_lt low)

pub offset_bounds-self-part : goal.offset_bounds-self-part
offset_bounds-self-part c =
    omega (arith, part_bounds _ c.requires)

pub bounds-self-part : goal.bounds-self-part
bounds-self-part c =
    omega (arith, ap length c.args.self.whole, powers_count, part_bounds _ c.requires)

pub overflow_shl-result : goal.overflow_shl-result
overflow_shl-result c =
    omega (arith, part_bounds _ c.requires)

pub returns : goal.returns
returns c =
    shifted _ c.requires _ c.args.self.whole
