-- `fill_row` fills its row: at each turn the columns from a on are filled.
use Rattle.std.proofs.Common.{suc}
use Rattle.limited.specs.Table.{RowFilled}
use Rattle.limited.proofs.table.fill_row.Given as goal

abbrev pub invariant-loop-a : goal.invariant-loop-a
invariant-loop-a g l = RowFilled (g.C.Cells.rows l.cells l.first.b) l.first.m l.first.up (suc l.most) l.a l.initial.part l.part
