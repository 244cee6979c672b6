-- A bit for each letter, doubled, stays below 2^64; what the allowed bits say of the letters is a law.
use native.Mathlib.Omega.{arith}
use lib.Bits.{and_le_r}
use Rattle.comparing.proofs.EightBits.{passes, allowed, follow_by_bits}
use Rattle.comparing.proofs.eights.allowed.Goals as goal

pub overflow_mul-raised : goal.overflow_mul-raised
overflow_mul-raised c =
    omega (arith, and_le_r c.args.x 0x0101_0101_0101_0101)

pub returns : goal.returns
unfolding passes allowed
returns c u o = follow_by_bits u c.args.x o
