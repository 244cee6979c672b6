-- `best_word` tells the best word row by row: the bits of the letters up to the walk's point are told. Each row leads to a later
-- row or column.
use Rattle.std.proofs.Common.{◌+◌, ◌-◌, ◌^◌}
use Rattle.best.specs.Walk.{WalkedTo}
use Rattle.best.proofs.walk.best_word.Given as goal

abbrev pub invariant-loop-w : goal.invariant-loop-w
invariant-loop-w l = WalkedTo l.terms.costs l.terms.doublings l.terms.triplings l.n l.w.column l.w.b l.w.rises l.w.marks

abbrev pub decreases-loop-w : goal.decreases-loop-w
decreases-loop-w l = 2 ^ 65 - (l.w.column + l.w.b)
