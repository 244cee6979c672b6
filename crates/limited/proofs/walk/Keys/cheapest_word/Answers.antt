-- `cheapest_word` takes a letter a turn, and the rest gets smaller.
use native.Mathlib.Omega.{arith}
use Rattle.limited.specs.WalkLaws.{walk_start, ends_fit, walk_end}
use Rattle.limited.proofs.walk.Keys.cheapest_word.Goals as goal

pub loop-w-init : goal.loop-w-init
loop-w-init c =
    walk_start c.requires

pub step-w-requires : goal.step-w-requires
step-w-requires c =
    record { walked = c.loop-w.invariant; more = c.loop-w-test.true }

pub loop-w-smaller : goal.loop-w-smaller
loop-w-smaller c =
    c.step-w.ensures.less

pub loop-w-preserved : goal.loop-w-preserved
loop-w-preserved c =
    c.step-w.ensures.walked

pub overflow_add-result : goal.overflow_add-result
overflow_add-result c =
    omega (arith, ends_fit c.args.self.now.keyed.small c.loop-w.invariant)

pub overflow_add-result-2 : goal.overflow_add-result-2
overflow_add-result-2 c =
    omega (arith, ends_fit c.args.self.now.keyed.small c.loop-w.invariant)

pub returns : goal.returns
returns c =
    walk_end c.args.self.now.keyed.small c.loop-w.invariant c.loop-w-test.false
