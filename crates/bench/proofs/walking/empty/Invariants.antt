-- `empty` keeps row + 3 × above; every turn is a move, which takes from the upper row, and the moves that are left complete the phase.
use Rattle.moves.proofs.WalkLoops.{Emptying}
use Rattle.bench.proofs.walking.empty.Given as goal

abbrev pub invariant-loop-allowed : goal.invariant-loop-allowed
invariant-loop-allowed l = Emptying l.x l.y l.row l.above l.moves

abbrev pub decreases-loop-allowed : goal.decreases-loop-allowed
decreases-loop-allowed l = l.above
