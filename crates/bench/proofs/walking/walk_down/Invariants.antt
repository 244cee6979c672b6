-- All rows above row b are empty, and the moves made so far lead from the rows at the start to those at hand. A turn empties row b.
use Rattle.moves.proofs.WalkLoops.{Walking}
use Rattle.bench.proofs.walking.walk_down.Given as goal

abbrev pub invariant-loop-b : goal.invariant-loop-b
invariant-loop-b l = Walking l.initial.rows l.rows l.b l.moves
