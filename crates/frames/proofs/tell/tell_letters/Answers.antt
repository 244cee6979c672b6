-- `tell_letters` leaves the digits of the letters, which end where the zeros begin.
use mathlib.Core.Path.{sym}
use native.Mathlib.Omega.{arith}
use Rattle.frames.specs.ReplyDigitLaws.{length_letters}
use Rattle.frames.proofs.CallLaws.{told_served}
use Rattle.frames.proofs.tell.tell_letters.Goals as goal

pub fill-requires : goal.fill-requires
fill-requires c = omega (arith, length_letters c.args.letters.now)

pub returns : goal.returns
returns c =
    let a = c.args in
    told_served _ _ _ _ (omega arith) (omega (arith, length_letters a.letters.now)) c.fill.ensures _
    (sym c.put_letters-k.ensures.value) c.put_letters-k.ensures.out_after
