-- `back::walk_back` meets its contract: each turn passes the highest bit of what is left of the path, the letter where b rises last,
-- and fills its row.
use Rattle.counting.specs.Back.{Going}
use Rattle.counting.proofs.back.walk_back.Given as goal

abbrev pub invariant-loop-row : goal.invariant-loop-row
invariant-loop-row l = Going l.n l.path l.initial.scratch l.scratch l.left l.row l.before
