-- The bits below place i are the remainder by 2^i, and no more than i of them are ones.
use mathlib.Core.Path.{◌≡◌}
use Prim.Native.Nat.{ℕ, ◌-◌, ◌*◌, ◌%◌, ◌^◌, ◌≤◌, ◌<◌}
use native.Mathlib.Omega.{arith}
use lib.Bits.{bit_and, and_mask}
use lib.Count.{ones}
use lib.Pow.{pow_pos}
use Rattle.parts.specs.Parts.{part_number}
use Rattle.words.specs.UnpackedLaws.{low_few}
use Rattle.words.specs.Walks.{point_at}
use Rattle.words.proofs.Powers.{power}
use Rattle.words.proofs.to_parts.number_at.Goals as goal

module _ (rises i : ℕ) (h : i < 64) where
  some : 1 ≤ 1 * 2 ^ i % 2 ^ 64
  some = rw (power i h) (pow_pos i)

  below : ones (bit_and rises (1 * 2 ^ i % 2 ^ 64 - 1)) ≡ ones (rises % 2 ^ i)
  below = rw (power i h, and_mask rises i)

  few : ones (bit_and rises (1 * 2 ^ i % 2 ^ 64 - 1)) ≤ i
  few = rw below (low_few rises i)

  number : (r : ℕ) → r ≡ part_number (record {
    a = i - ones (bit_and rises (1 * 2 ^ i % 2 ^ 64 - 1));
    b = ones (bit_and rises (1 * 2 ^ i % 2 ^ 64 - 1));
  }) → r ≡ part_number (point_at rises i)
  unfolding point_at
  number r e = rw below at e

pub overflow_sub-b : goal.overflow_sub-b
overflow_sub-b c =
    some c.args.rises c.args.i c.requires

pub overflow_sub-a : goal.overflow_sub-a
overflow_sub-a c =
    few c.args.rises c.args.i c.requires

pub overflow_cast-a : goal.overflow_cast-a
overflow_cast-a c =
    omega (arith, few c.args.rises c.args.i c.requires)

pub overflow_cast-b : goal.overflow_cast-b
overflow_cast-b c =
    omega (arith, few c.args.rises c.args.i c.requires)

pub returns : goal.returns
returns c =
    number _ _ c.requires _ c.part_number.ensures
