-- In a turn the row at hand is b - 1, and row b above it is emptied.
use Rattle.std.proofs.Common.{◌≡◌, ◌+◌, ◌-◌, arith}
use Rattle.moves.proofs.WalkLoops.{walking_rows, walking_step, walking_end}
use Rattle.bench.proofs.walking.walk_down.Goals as goal

pub empty-emptied-requires : goal.empty-emptied-requires
empty-emptied-requires c =
    let L = c.loop-b in
    let q : L.b - 1 + 1 ≡ L.b = omega (arith, c.loop-b-test.true) in
    rw q (walking_rows L.rows L.b L.invariant.held c.loop-b-test.true L.invariant.low)

pub loop-b-preserved : goal.loop-b-preserved
loop-b-preserved c =
    let L = c.loop-b in
    let q : L.b - 1 + 1 ≡ L.b = omega (arith, c.loop-b-test.true) in
    let e = c.empty-emptied.ensures in
    rw q (walking_step _ L.rows L.b L.moves _ _ L.invariant c.loop-b-test.true (rw q at e.0) (rw q at e.1) e.2)

pub returns : goal.returns
returns c =
    let L = c.loop-b in
    let z : L.b ≡ 0 = omega (arith, c.loop-b-test.false) in
    walking_end _ L.rows L.moves (rw z at L.invariant)
