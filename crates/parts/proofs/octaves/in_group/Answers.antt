-- `in_group` meets its contract: its two answers are the two cases of the definition.
use borrow.Author.Tests.{le-leb, lt-leb}
use Rattle.parts.specs.Octaves.{in_group}
use Rattle.parts.proofs.octaves.in_group.Goals as goal

pub returns-then-start-j : goal.returns-then-start-j
unfolding in_group
returns-then-start-j c = rw (le-leb c.args.start c.args.j c.if-start-j.true)

pub returns : goal.returns
unfolding in_group
returns c = rw (lt-leb c.args.start c.args.j c.if-start-j.false)
