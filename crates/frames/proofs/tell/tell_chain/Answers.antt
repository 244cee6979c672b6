-- `tell_chain` leaves the digits of the chain, which end where the zeros begin.
use mathlib.Core.Path.{sym}
use native.Mathlib.Omega.{arith}
use Rattle.frames.specs.ReplyDigitLaws.{length_chain}
use Rattle.frames.proofs.CallLaws.{told_served}
use Rattle.frames.proofs.tell.tell_chain.Goals as goal

pub fill-requires : goal.fill-requires
fill-requires c =
    let a = c.args in
    omega (arith, length_chain a.n a.position a.numbers.now)

pub returns : goal.returns
returns c =
    let a = c.args in
    told_served _ _ _ _ (omega arith) (omega (arith, length_chain a.n a.position a.numbers.now)) c.fill.ensures _
    (sym c.put_chain-k.ensures.value) c.put_chain-k.ensures.out_after
