-- Where `fall` tells no move, the upper row is empty.
use Rattle.std.proofs.Common.{arith}
use Rattle.moves.proofs.WalkLoops.{emptying_end}
use Rattle.bench.proofs.PlanLoops.{emptied, emptying_on}
use Rattle.bench.proofs.walking.empty.Goals as goal

pub overflow_mul-row : goal.overflow_mul-row
overflow_mul-row c =
    let f = emptying_on _ c.loop-allowed.invariant c.requires.1 c.in-Some.ensures in
    omega (arith, f.1, c.loop-allowed.invariant.sums, c.requires.1)

pub overflow_add-row : goal.overflow_add-row
overflow_add-row c =
    let f = emptying_on _ c.loop-allowed.invariant c.requires.1 c.in-Some.ensures in
    omega (arith, f.1, c.loop-allowed.invariant.sums, c.requires.1)

pub overflow_sub-above : goal.overflow_sub-above
overflow_sub-above c = (emptying_on _ c.loop-allowed.invariant c.requires.1 c.in-Some.ensures).1

pub loop-allowed-smaller : goal.loop-allowed-smaller
loop-allowed-smaller c =
    let f = emptying_on _ c.loop-allowed.invariant c.requires.1 c.in-Some.ensures in
    omega (arith, f.0, f.1)

pub loop-allowed-preserved : goal.loop-allowed-preserved
loop-allowed-preserved c = (emptying_on _ c.loop-allowed.invariant c.requires.1 c.in-Some.ensures).2

pub returns : goal.returns
returns c =
    emptying_end _ _ _ _ _ c.loop-allowed.invariant c.requires.1 (emptied _ _ (c.in_default.ensures))
