-- `fill_block` fills its block: at each turn the cells for fewer than k parts are right.
use Rattle.limited.specs.Table.{Filled}
use Rattle.limited.proofs.table.fill_block.Given as goal

abbrev pub invariant-loop-k : goal.invariant-loop-k
invariant-loop-k g l = Filled (g.C.Cells.rows l.cells l.fn.at.b l.fn.at.a l.fn.at.m) l.k l.initial.part l.part
