-- `walk_row` passes the columns up to the one that `turn_column` finds. There b rises, or the walk ends.
use Rattle.std.proofs.Common.{arith}
use Rattle.best.specs.WalkLaws.{row_low, column_asked, not_back, marks_fit, row_ended, row_fits, row_risen}
use Rattle.best.proofs.walk.walk_row.Goals as goal

pub row_at-row-requires : goal.row_at-row-requires
row_at-row-requires c =
    row_low c.requires c.ranges.n.fits

pub overflow_add-b : goal.overflow_add-b
overflow_add-b c =
    omega (arith, row_low c.requires c.ranges.n.fits)

pub offset_bounds-scratch-b : goal.offset_bounds-scratch-b
offset_bounds-scratch-b c =
    omega (arith, row_low c.requires c.ranges.n.fits)

pub bounds-scratch-b : goal.bounds-scratch-b
bounds-scratch-b c =
    omega (arith, row_low c.requires c.ranges.n.fits, c.requires.turned.size)

pub turn_column-column-requires : goal.turn_column-column-requires
turn_column-column-requires c =
    column_asked c.requires c.ranges.n.fits c.row_at-row.ensures

pub overflow_sub-marks : goal.overflow_sub-marks
overflow_sub-marks c =
    not_back c.requires c.ranges.n.fits c.row_at-row.ensures c.turn_column-column.ensures

pub overflow_shl-marks : goal.overflow_shl-marks
overflow_shl-marks c =
    omega (arith, row_low c.requires c.ranges.n.fits)

pub overflow_add-marks : goal.overflow_add-marks
overflow_add-marks c =
    omega (arith, marks_fit c.requires c.ranges.n.fits c.row_at-row.ensures c.turn_column-column.ensures)

pub returns-then-column-row : goal.returns-then-column-row
returns-then-column-row c =
    let told = row_ended c.requires c.ranges.n.fits c.row_at-row.ensures c.turn_column-column.ensures c.if-column-row.true in
    record { walked_to = told.0; b_bound = told.1 }

pub overflow_add-result : goal.overflow_add-result
overflow_add-result c =
    omega (arith, row_low c.requires c.ranges.n.fits)

pub overflow_shl-result : goal.overflow_shl-result
overflow_shl-result c =
    omega (arith, row_low c.requires c.ranges.n.fits)

pub overflow_add-result-2 : goal.overflow_add-result-2
overflow_add-result-2 c =
    omega (arith, row_fits c.requires c.ranges.n.fits c.row_at-row.ensures c.turn_column-column.ensures c.if-column-row.false)

pub overflow_shl-result-2 : goal.overflow_shl-result-2
overflow_shl-result-2 c =
    omega (arith, row_low c.requires c.ranges.n.fits)

pub overflow_add-result-3 : goal.overflow_add-result-3
overflow_add-result-3 c =
    rw c.ones.ensures
    (omega (arith, row_fits c.requires c.ranges.n.fits c.row_at-row.ensures c.turn_column-column.ensures c.if-column-row.false))

pub returns : goal.returns
returns c =
    record {
      walked_to =
          rw c.ones.ensures
          (row_risen c.requires c.ranges.n.fits c.row_at-row.ensures c.turn_column-column.ensures c.if-column-row.false);
      b_bound = omega (arith, not_back c.requires c.ranges.n.fits c.row_at-row.ensures c.turn_column-column.ensures);
    }
