-- `fill_row` fills its row: at each turn the columns from a on are filled. Each column below the number of bits of m is live.
use Rattle.std.proofs.Common.{◌-◌, arith}
use Rattle.limited.specs.TableLaws.{columns_none, column_live, column_room, column_lent, column_more}
use Rattle.limited.proofs.table.fill_row.Goals as goal

pub loop-a-init : goal.loop-a-init
loop-a-init g c =
    columns_none _ _ c.live_columns-a.ensures.1

pub slice_bounds-fill_block-count : goal.slice_bounds-fill_block-count
slice_bounds-fill_block-count g c =
    let live = column_live _ _ _ c.loop-a-test.true c.loop-a.auto.a c.live_columns-a.ensures.2 in
    omega (arith, column_room c.requires.lent (c.loop-a.a - 1) c.loop-a.a (omega arith) live c.loop-a.invariant)

pub slice_bounds-fill_block-start : goal.slice_bounds-fill_block-start
slice_bounds-fill_block-start g c =
    let live = column_live _ _ _ c.loop-a-test.true c.loop-a.auto.a c.live_columns-a.ensures.2 in
    omega (arith, column_room c.requires.lent (c.loop-a.a - 1) c.loop-a.a (omega arith) live c.loop-a.invariant)

pub fill_block-requires : goal.fill_block-requires
fill_block-requires g c =
    let live = column_live _ _ _ c.loop-a-test.true c.loop-a.auto.a c.live_columns-a.ensures.2 in
    record { lent = column_lent c.requires.lent (c.loop-a.a - 1) c.loop-a.a (omega arith) live c.loop-a.invariant; some_left = live; few = c.requires.few }

pub loop-a-preserved : goal.loop-a-preserved
loop-a-preserved g c =
    let live = column_live _ _ _ c.loop-a-test.true c.loop-a.auto.a c.live_columns-a.ensures.2 in
    column_more c.requires.lent (c.loop-a.a - 1) c.loop-a.a (omega arith) live c.loop-a.invariant _ c.fill_block.ensures
