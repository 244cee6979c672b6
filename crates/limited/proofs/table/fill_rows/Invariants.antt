-- `fill_rows` fills the rows from the last one down: at each turn those from b on are filled, and row b begins at `at`.
use Rattle.std.proofs.Common.{◌≡◌, ◌*◌, suc}
use Rattle.limited.specs.Table.{TableFilled, start}
use Rattle.limited.proofs.table.fill_rows.Given as goal

abbrev pub invariant-loop-b : goal.invariant-loop-b
invariant-loop-b g l = record {
  filled : TableFilled (g.C.Cells.rows l.cells) l.n (suc l.most) l.b l.initial.scratch l.scratch;
  place : l.at ≡ 130 * start l.b;
}
