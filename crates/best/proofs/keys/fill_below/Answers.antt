-- `fill_below` fills the columns below `start`, one a turn: each bit of a mask tells the remainder by three that the choice asks.
use Rattle.std.proofs.Common.{◌+◌, ◌-◌, ◌∙◌, arith}
use Rattle.std.proofs.Math.Nat.{min_comm}
use Rattle.best.specs.KeyTableLaws.{less_told}
use Rattle.best.specs.KeyRowsLaws.{below_none, half_fits, below_more, below_all}
use Rattle.best.proofs.keys.fill_below.Goals as goal

pub loop-a-init : goal.loop-a-init
loop-a-init c = below_none c.args.terms.now.low c.requires

pub overflow_add-half : goal.overflow_add-half
overflow_add-half c =
    omega (arith, c.picked-in-loop-a.ensures, half_fits c.args.terms.now.low c.requires c.loop-a.invariant (c.loop-a.a - 1) (omega arith))

pub loop-a-preserved : goal.loop-a-preserved
loop-a-preserved c =
    below_more c.args.terms.now.low c.requires c.loop-a.invariant (c.loop-a.a - 1)
    (omega arith)
    (rw c.picked-in-loop-a.ensures)
    (c.picked-third.ensures ∙ rw (c.picked.ensures, c.twos-twos.ensures, c.ones-ones.ensures))
    (c.min.ensures ∙ min_comm _ _)
    (c.picked-after.ensures ∙ rw (c.min-in-loop-a.ensures, min_comm (c.loop-a.after + c.picked-in-loop-a.result) c.picked-third.result, c.ones-ones.ensures))
    (less_told _ _ c.from.ensures)

pub returns : goal.returns
returns c =
    below_all c.loop-a.invariant c.loop-a-test.false
