-- `parts::codes::copy` meets its contract: the constant is the definition's list, computed from the part table.
use mathlib.Core.Path.{refl}
use Rattle.parts.specs.Table.{rows, joined, parts}
use Rattle.parts.specs.Parts.{times}
use Rattle.parts.specs.Codes.{code_of, codes}
use Rattle.parts.proofs.codes.copy.Goals as goal

pub returns : goal.returns
unfolding codes code_of times parts joined rows
returns c = refl
