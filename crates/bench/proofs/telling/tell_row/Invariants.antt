-- The numbers stored and then those of the parts that `left` gives are those of the row.
use Rattle.std.proofs.Common.{◌≤◌}
use Rattle.bench.specs.Telling.{row_numbers}
use Rattle.bench.proofs.TellingLaws.{Storing}
use Rattle.bench.proofs.telling.tell_row.Given as goal

abbrev pub invariant-loop-i : goal.invariant-loop-i
invariant-loop-i l =
    record { less : l.left ≤ l.row; storing : Storing (row_numbers l.b l.row) l.at l.initial.places (row_numbers l.b l.left) l.i l.places }
