-- `choose` finds the word of the best chain within the limits: the first key tells its parts and its price, and the walk along the
-- turns tells its letters.
use Rattle.std.proofs.Common.{arith}
use Rattle.best.specs.ChoosingLaws.{zero_chosen, filled_none, word_asked, filled_word}
use Rattle.best.proofs.choosing.choose.Goals as goal

pub returns-then-n-eq0 : goal.returns-then-n-eq0
returns-then-n-eq0 c =
    zero_chosen _ _ _ c.if-n-eq0.true

pub returns-then-k-limits : goal.returns-then-k-limits
returns-then-k-limits c =
    filled_none c.terms_of-terms.ensures c.ranges.n.fits (omega arith) (omega arith) c.fill_rows.ensures (omega arith)

pub best_word-word-requires : goal.best_word-word-requires
best_word-word-requires c =
    word_asked c.terms_of-terms.ensures c.ranges.n.fits (omega arith) (omega arith) c.fill_rows.ensures (omega arith)

pub returns : goal.returns
returns c =
    let w = c.best_word-word.ensures in
    filled_word c.terms_of-terms.ensures c.ranges.n.fits (omega arith) (omega arith) c.fill_rows.ensures (omega arith) w.rises_value w.marks_value
