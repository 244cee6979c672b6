-- The direction tells which of the two moves is made, as it was planned.
use Rattle.std.proofs.Common.{refl}
use Rattle.moves.specs.RowMoves.{RowMove}
use Rattle.bench.proofs.moving.move_rows.Goals as goal

pub returns-in_default : goal.returns-in_default
unfolding RowMove
returns-in_default c = (refl, refl, rw c.if-up.true c.in_default.ensures)

pub returns-then-up : goal.returns-then-up
unfolding RowMove
returns-then-up c = rw (c.if-up.true, c.raise.ensures) (c.in-Some.ensures).1

pub returns-in_default-plan_down : goal.returns-in_default-plan_down
unfolding RowMove
returns-in_default-plan_down c = (refl, refl, rw c.if-up.false c.in_default-plan_down.ensures)

pub returns : goal.returns
unfolding RowMove
returns c = rw (c.if-up.false, c.lower.ensures) (c.in-Some-plan_down.ensures).1
