-- `count` reads the count off the first block of a table of counts, for all parts allowed.
use native.Mathlib.Omega.{arith}
use Rattle.limited.specs.ChoosingLaws.{count_zero, count_in_lem}
use Rattle.limited.proofs.choosing.count.Goals as goal

pub returns-then-n-eq0 : goal.returns-then-n-eq0
returns-then-n-eq0 c =
    count_zero _ _ c.if-n-eq0.true

pub fill_rows-requires : goal.fill_rows-requires
fill_rows-requires c =
    omega (arith, c.at_most_64-most.ensures)

pub offset_bounds-scratch-most : goal.offset_bounds-scratch-most
offset_bounds-scratch-most c =
    omega (arith, c.at_most_64-most.ensures)

pub returns : goal.returns
returns c =
    count_in_lem _ c.ranges.n.fits (omega arith) c.at_most_64-most.ensures c.fill_rows.ensures
