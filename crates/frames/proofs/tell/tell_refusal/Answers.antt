-- `tell_refusal` leaves the two digits of the number, and zeros from there on.
use native.Mathlib.Omega.{arith}
use Rattle.frames.proofs.CallLaws.{told_refused}
use Rattle.frames.proofs.tell.tell_refusal.Goals as goal

pub returns : goal.returns
returns c =
    told_refused _ _ _ _ (omega arith) (omega arith) c.fill.ensures _ c.put_refusal-k.ensures.value c.put_refusal-k.ensures.out_after
