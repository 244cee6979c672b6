-- `picked` goes by the last bit, which is 0 or 1.
use Rattle.std.proofs.Common.{◌≡◌, ◌%◌, refl, arith}
use Rattle.best.specs.KeyTable.{pick}
use Rattle.best.proofs.keys.picked.Goals as goal

pub returns-then-bits-eq1 : goal.returns-then-bits-eq1
unfolding pick
returns-then-bits-eq1 c = rw c.if-bits-eq1.true refl

pub returns-else-bits-eq1 : goal.returns-else-bits-eq1
unfolding pick
returns-else-bits-eq1 c =
    let e : c.args.bits % 2 ≡ 0 = omega (arith, c.if-bits-eq1.false) in
    rw e refl
