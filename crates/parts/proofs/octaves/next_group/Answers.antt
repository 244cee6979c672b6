-- `next_group` meets its contract: its two answers are the two cases of the definition.
use borrow.Author.Tests.{lt-ltb, le-ltb}
use Rattle.parts.specs.Octaves.{next_group}
use Rattle.parts.proofs.octaves.next_group.Goals as goal

pub returns-then-r-lt5 : goal.returns-then-r-lt5
unfolding next_group
returns-then-r-lt5 c = rw (lt-ltb c.args.r 5 c.if-r-lt5.true)

pub returns : goal.returns
unfolding next_group
returns c = rw (le-ltb c.args.r 5 c.if-r-lt5.false)
