-- The lowest one bit of a number with z trailing zeros is 2^z; above 0 z is below 64, so the shift is in range.
use borrow.Author.Rules.{rules}
use Rattle.moves.specs.Amounts.{low_bit}
use Rattle.moves.proofs.BitLaws.{shl_one, trailing_some}
use Rattle.bench.proofs.amounts.low_bit.Goals as goal

pub returns : goal.returns
unfolding low_bit
returns c = shl_one _ (trailing_some c.args.x (search rules) (search rules))
