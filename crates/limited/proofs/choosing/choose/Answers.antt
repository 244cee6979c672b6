-- `choose` finds the word of the cheapest chain within the limits: the first key for all parts allowed tells its price, and the walk along
-- the keys tells its letters.
use Rattle.std.proofs.Common.{arith}
use Rattle.limited.specs.ChoosingLaws.{zero_chosen, filled_none, word_asked, filled_word}
use Rattle.limited.proofs.choosing.choose.Goals as goal

pub returns-then-n-eq0 : goal.returns-then-n-eq0
returns-then-n-eq0 c =
    zero_chosen _ _ _ c.if-n-eq0.true

pub offset_bounds-scratch-most : goal.offset_bounds-scratch-most
offset_bounds-scratch-most c =
    omega (arith, c.at_most_64-most.ensures)

pub returns-then-key-ge-NONE : goal.returns-then-key-ge-NONE
returns-then-key-ge-NONE c =
    filled_none c.terms_of-terms.ensures c.ranges.n.fits (omega arith) c.at_most_64-most.ensures (omega arith) c.fill_rows.ensures
    (omega arith)

pub cheapest_word-requires : goal.cheapest_word-requires
cheapest_word-requires c =
    word_asked c.terms_of-terms.ensures c.ranges.n.fits (omega arith) c.at_most_64-most.ensures (omega arith) c.fill_rows.ensures
    (omega arith)

pub returns : goal.returns
returns c =
    filled_word c.terms_of-terms.ensures c.ranges.n.fits (omega arith) c.at_most_64-most.ensures (omega arith) c.fill_rows.ensures
    (omega arith) c.cheapest_word.ensures
