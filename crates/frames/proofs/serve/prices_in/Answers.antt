-- `prices_in` reads the four prices of a line.
use Rattle.frames.specs.Replies.{prices_in}
use Rattle.frames.proofs.serve.prices_in.Goals as goal

pub returns : goal.returns
unfolding prices_in
returns c =
    rw (
      ← c.pair_of.ensures,
      ← c.pair_of-2.ensures,
      ← c.pair_of-3.ensures,
      ← c.pair_of-4.ensures,
    )
