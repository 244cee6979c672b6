-- `parts::value_of` meets its contract: past the end of the list `get_or` is 0.
use mathlib.Core.Path.{sym}
use lib.ListN.{get_or-eq_default}
use Rattle.parts.proofs.value_of.Goals as goal

pub returns-else-i-table : goal.returns-else-i-table
returns-else-i-table c = sym (get_or-eq_default c.args.table.now 0 (rw c.from-i.ensures at c.if-i-table.false))
