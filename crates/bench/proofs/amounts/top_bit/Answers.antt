-- The highest one bit of a number with z leading zeros is 2^(63 - z); above 0 z is below 64, so the shift is in range.
use native.Mathlib.Omega.{arith}
use Rattle.moves.specs.Amounts.{top_bit}
use Rattle.moves.proofs.BitLaws.{shl_one}
use Rattle.bench.proofs.amounts.top_bit.Goals as goal

pub returns : goal.returns
unfolding top_bit
returns c = shl_one _ (omega arith)
