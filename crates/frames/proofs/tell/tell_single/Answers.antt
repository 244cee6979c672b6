-- `tell_single` leaves the digits of the number, which end where the zeros begin.
use mathlib.Core.Path.{sym}
use native.Mathlib.Omega.{arith}
use Rattle.frames.specs.ReplyDigitLaws.{length_single}
use Rattle.frames.proofs.CallLaws.{told_served}
use Rattle.frames.proofs.tell.tell_single.Goals as goal

pub fill-requires : goal.fill-requires
fill-requires c = omega (arith, length_single c.args.x)

pub returns : goal.returns
returns c =
    told_served _ _ _ _ (omega arith) (omega (arith, length_single c.args.x)) c.fill.ensures _
    (sym c.put_single-k.ensures.value) c.put_single-k.ensures.out_after
