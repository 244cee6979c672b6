-- `turn_column` finds the lowest one bit from the column on, among the bits where b rises and that of the last column.
use Rattle.std.proofs.Common.{arith}
use Rattle.best.specs.TurnLaws.{last_told, low_short, column_found}
use Rattle.best.proofs.walk.turn_column.Goals as goal

pub overflow_sub-last : goal.overflow_sub-last
overflow_sub-last c =
    omega (arith, (last_told c.requires c.ranges.m.fits).0)

pub overflow_shl-last : goal.overflow_shl-last
overflow_shl-last c =
    omega arith

pub overflow_sub-result : goal.overflow_sub-result
overflow_sub-result c =
    omega (arith, (last_told c.requires c.ranges.m.fits).2)

pub overflow_shl-result : goal.overflow_shl-result
overflow_shl-result c =
    let l = last_told c.requires c.ranges.m.fits in
    rw (c.ones.ensures, l.1) (low_short c.requires c.ranges.m.fits c.args.turns c.ranges.turns.fits)

pub returns : goal.returns
returns c =
    let l = last_told c.requires c.ranges.m.fits in
    rw (c.ones.ensures, l.1) (column_found c.requires c.ranges.m.fits c.args.turns c.ranges.turns.fits)

pub overflow_cast-result : goal.overflow_cast-result
overflow_cast-result c = omega (arith, overflow_shl-result c)
