-- `fill_none` fills its part of the row with the key of no word.
use Rattle.best.specs.KeyRowsLaws.{none_from}
use Rattle.best.proofs.keys.fill_none.Goals as goal

pub returns : goal.returns
returns c =
    none_from _ _ _ (c.fill.ensures.after (λ y e. e)) c.requires.0 c.requires.1 c.requires.2
