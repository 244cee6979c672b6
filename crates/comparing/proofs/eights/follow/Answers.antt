-- The letters follow each other exactly if their number has no bit that is not allowed.
use Rattle.comparing.proofs.eights.follow.Goals as goal

pub returns : goal.returns
returns c u o =
    c.allowed.ensures u o
