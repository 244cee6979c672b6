-- `fill_rows` fills the rows from the last one in which something is left down: at each turn those from b on are filled.
use Rattle.std.proofs.Common.{arith}
use Rattle.lent.specs.LentLaws.{used_on}
use Rattle.best.specs.KeyRowsLaws.{keys_none, keys_next, keys_lent, keys_more}
use Rattle.best.proofs.keys.fill_rows.Goals as goal

pub loop-b-init : goal.loop-b-init
loop-b-init c =
    let begun = keys_none c.ranges.n.fits (omega arith) c.put_rests-rows.ensures.value c.put_rests-rows.ensures.part_after in
    record { filled = begun.0; within = begun.1 }

pub fill_row-turns-requires : goal.fill_row-turns-requires
fill_row-turns-requires c =
    let i = c.loop-b.invariant in
    rw c.row_at-row.ensures (keys_lent {r = 448} (keys_next i.filled.keys (omega arith) i.within) (omega arith))

pub loop-b-preserved : goal.loop-b-preserved
loop-b-preserved c =
    let i = c.loop-b.invariant in
    let told = keys_more {r = 448} (keys_next i.filled.keys (omega arith) i.within) (omega arith) (rw c.row_at-row.ensures at c.fill_row-turns.ensures) in
    record { filled = record { keys = told.keys; used = used_on i.filled.used told.used }; within = omega arith }
