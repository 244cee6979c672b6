-- `fill_row` fills its row: where nothing is left nothing is to be filled, and above the limit there is no word.
use Rattle.std.proofs.Common.{arith}
use Rattle.best.specs.KeyRowsLaws.{outside_row, top_of_lem}
use Rattle.best.proofs.keys.fill_row.Goals as goal

pub overflow_cast-top : goal.overflow_cast-top
overflow_cast-top c =
    omega (arith, top_of_lem c.args.row.m (omega arith) (omega arith))

pub fill_none-requires : goal.fill_none-requires
fill_none-requires c =
    (omega arith, omega arith, omega (arith, c.requires.room))

pub returns-then-row-terms : goal.returns-then-row-terms
returns-then-row-terms c =
    let t = top_of_lem c.args.row.m (omega arith) (omega arith) in
    outside_row _ _ _ _ _ _ t.2 (omega arith) c.fill_none.ensures (omega arith)

pub fill_live-requires : goal.fill_live-requires
fill_live-requires c =
    let t = top_of_lem c.args.row.m (omega arith) (omega arith) in
    record { asked = c.requires; lo = t.1; hi = t.2; last = omega arith; within = omega arith }
