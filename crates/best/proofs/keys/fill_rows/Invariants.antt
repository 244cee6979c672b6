-- `fill_rows` fills the rows from the last one in which something is left down: at each turn those from b on are filled.
use Rattle.std.proofs.Common.{◌≤◌}
use Rattle.best.specs.KeyRows.{KeysFilled}
use Rattle.best.proofs.keys.fill_rows.Given as goal

abbrev pub invariant-loop-b : goal.invariant-loop-b
invariant-loop-b l = record {
  filled : KeysFilled l.terms.costs l.terms.doublings l.terms.triplings l.n l.b l.fn.scratch l.scratch;
  within : l.b ≤ 41;
}
