-- A turn takes the highest one bit of `left`, which is the largest part's.
use Rattle.std.proofs.Common.{arith}
use Rattle.bench.proofs.TellingLaws.{store_one, all_stored, numbers_count, row_turn, row_inside, row_end}
use Rattle.bench.proofs.telling.tell_row.Goals as goal

pub overflow_sub-a : goal.overflow_sub-a
overflow_sub-a c =
    let L = c.loop-i.invariant in
    (row_turn c.args.b L.storing L.less c.ranges.row.fits c.loop-i-test.true).few

pub bounds-places-i : goal.bounds-places-i
bounds-places-i c =
    let L = c.loop-i.invariant in
    row_inside c.args.b L.storing L.less c.ranges.row.fits c.loop-i-test.true

pub overflow_sub-left : goal.overflow_sub-left
overflow_sub-left c =
    let L = c.loop-i.invariant in
    let h = row_turn c.args.b L.storing L.less c.ranges.row.fits c.loop-i-test.true in
    omega (arith, h.bit, h.least)

pub loop-i-preserved : goal.loop-i-preserved
loop-i-preserved c =
    let L = c.loop-i.invariant in
    let h = row_turn c.args.b L.storing L.less c.ranges.row.fits c.loop-i-test.true in
    record { less = omega (arith, L.less); storing = rw (c.part_number.ensures, c.from.ensures) (store_one L.storing _ _ h.first) }

pub returns : goal.returns
returns c =
    let L = c.loop-i.invariant in
    let fits = c.ranges.row.fits in
    record {
      value = omega (arith, numbers_count c.args.b c.args.row fits);
      places_after = (all_stored L.storing (row_end c.args.b L.storing L.less fits c.loop-i-test.false)).1;
    }
