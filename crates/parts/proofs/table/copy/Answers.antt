-- `parts::table::copy` meets its contract: the constant is the table of the definitions, number by number.
use mathlib.Core.Path.{refl}
use Rattle.parts.specs.Table.{rows, joined, parts}
use Rattle.parts.proofs.table.copy.Goals as goal

pub returns : goal.returns
unfolding parts joined rows
returns c = refl
