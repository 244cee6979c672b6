-- `parts::codes::powers` meets its contract: the constant is the definition's list, number by number.
use mathlib.Core.Path.{refl}
use Rattle.parts.specs.Codes.{tripling, powers}
use Rattle.parts.proofs.codes.powers.Goals as goal

pub returns : goal.returns
unfolding powers tripling
returns c = refl
