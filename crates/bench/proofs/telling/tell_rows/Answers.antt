-- A turn stores the numbers of the next row down.
use Rattle.std.proofs.Common.{arith}
use Rattle.bench.proofs.TellingLaws.{storing_none, all_stored, row_room, store_row, no_row}
use Rattle.bench.proofs.TellingLaws.{tellable_room, told_rows}
use Rattle.bench.proofs.telling.tell_rows.Goals as goal

pub loop-b-init : goal.loop-b-init
loop-b-init c =
    let r = tellable_room c.requires in
    storing_none (omega (arith, r.1, c.requires.room))

pub tell_row-k-requires : goal.tell_row-k-requires
tell_row-k-requires c = row_room _ _ c.loop-b.invariant c.loop-b-test.true

pub loop-b-preserved : goal.loop-b-preserved
loop-b-preserved c =
    let r = c.tell_row-k in
    store_row _ _ c.loop-b.invariant c.loop-b-test.true r.ensures.value r.ensures.places_after

pub returns : goal.returns
returns c =
    let e = all_stored c.loop-b.invariant (no_row _ _ c.loop-b-test.false) in
    told_rows c.requires e.0 e.1
