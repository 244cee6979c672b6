-- `rows::fill_next` meets its contract: row k's part of the scratch is lent on, with the row above where it stands.
use Rattle.std.proofs.Common.{◌≡◌, ◌-◌, ◌*◌, length, arith}
use Rattle.grid.specs.Fill.{row_lent, row_more}
use Rattle.counting.specs.Table.{count_cell}
use Rattle.counting.proofs.rows.fill_next.Goals as goal

pub bounds-scratch-k : goal.bounds-scratch-k
bounds-scratch-k c =
    omega (arith, c.requires.0.size)

pub bounds-scratch-k-2 : goal.bounds-scratch-k-2
bounds-scratch-k-2 c =
    omega (arith, c.requires.0.size)

pub slice_bounds-fill_row-count : goal.slice_bounds-fill_row-count
slice_bounds-fill_row-count c =
    omega (arith, c.requires.0.size)

pub slice_bounds-fill_row-start : goal.slice_bounds-fill_row-start
slice_bounds-fill_row-start c =
    omega (arith, c.requires.0.size)

pub fill_row-requires : goal.fill_row-requires
fill_row-requires c =
    let e : 512 - 64 * c.args.k ≡ length c.args.scratch.now - 64 * c.args.k = omega arith in
    rw e (row_lent 0 6 count_cell (omega arith) c.requires.0 c.requires.1 (omega arith) (omega arith))

pub returns-then-k-lt6 : goal.returns-then-k-lt6
returns-then-k-lt6 c =
    let e : 512 - 64 * c.args.k ≡ length c.args.scratch.now - 64 * c.args.k = omega arith in
    rw e (row_more 0 6 count_cell (omega arith) c.requires.0 c.requires.1 (omega arith) (rw e at c.fill_row.ensures))

pub slice_bounds-fill_row-count-2 : goal.slice_bounds-fill_row-count-2
slice_bounds-fill_row-count-2 c =
    omega (arith, c.requires.0.size)

pub slice_bounds-fill_row-start-2 : goal.slice_bounds-fill_row-start-2
slice_bounds-fill_row-start-2 c =
    omega (arith, c.requires.0.size)

pub fill_row-requires-2 : goal.fill_row-requires-2
fill_row-requires-2 c =
    let e : 128 ≡ length c.args.scratch.now - 384 = omega arith in
    rw e (row_lent 0 6 count_cell (omega arith) {here = 384} c.requires.0 c.requires.1 (omega arith) (omega arith))

pub returns : goal.returns
returns c =
    let e : 128 ≡ length c.args.scratch.now - 384 = omega arith in
    rw (← e) at (row_more 0 6 count_cell (omega arith) {here = 384} c.requires.0 c.requires.1 (omega arith) (rw e at c.fill_row-2.ensures))
