-- `fill_live` fills its row: in the column where the rest is 1 a word ends, from the first column outside on there is none; the
-- columns below follow.
use Rattle.std.proofs.Common.{refl, arith}
use Rattle.best.specs.KeyRowsLaws.{within_asked, within_told, beyond_asked, beyond_told}
use Rattle.best.proofs.keys.fill_live.Goals as goal

pub bounds-part-top : goal.bounds-part-top
bounds-part-top c =
    omega (arith, c.requires.asked.room, c.requires.last)

pub fill_below-requires : goal.fill_below-requires
fill_below-requires c =
    within_asked c.requires c.args.terms.now.low c.if-top-terms.true

pub returns-then-top-terms : goal.returns-then-top-terms
returns-then-top-terms c =
    within_told c.requires c.args.terms.now.low c.if-top-terms.true c.fill_below.ensures

pub fill_none-requires : goal.fill_none-requires
fill_none-requires c =
    (omega arith, omega (arith, c.requires.last), omega (arith, c.requires.asked.room))

pub fill_below-requires-2 : goal.fill_below-requires-2
fill_below-requires-2 c =
    beyond_asked c.requires _ refl (omega arith) c.fill_none.ensures

pub returns : goal.returns
returns c =
    beyond_told c.requires _ refl (omega arith) c.fill_none.ensures c.fill_below-2.ensures
