-- `row_size` meets its contract: it is the definition of the width.
use mathlib.Core.Path.{refl}
use Rattle.limited.specs.Table.{width}
use Rattle.limited.proofs.table.row_size.Goals as goal

pub returns : goal.returns
unfolding width
returns c = refl
