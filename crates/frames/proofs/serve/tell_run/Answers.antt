-- `tell_run` tells what the run answers.
use Rattle.std.proofs.Common.{Result, Ok, Err}
use mathlib.Core.Path.{◌≡◌}
use Prim.Native.Nat.{ℕ}
use Rattle.refusals.specs.declared.Refusal.{Refusal}
use Rattle.frames.specs.ReplyDigits.{single_digits}
use Rattle.frames.specs.Replies.{refused_as, served_with, ran_reply, served}
use Rattle.frames.proofs.serve.tell_run.Goals as goal

residue_reply : (a : Result ℕ Refusal) (x : ℕ) → a ≡ Ok x → ran_reply a ≡ served_with (single_digits x)
unfolding ran_reply
residue_reply a x e = rw e

refused_reply : (a : Result ℕ Refusal) (r : Refusal) → a ≡ Err r → ran_reply a ≡ refused_as r
unfolding ran_reply
refused_reply a r e = rw e

pub returns-in-Ok : goal.returns-in-Ok
unfolding served
returns-in-Ok c =
    rw (← c.run_in.ensures, residue_reply _ _ c.in-Ok.is) c.tell_single.ensures

pub returns-in-Err : goal.returns-in-Err
unfolding served
returns-in-Err c =
    rw (← c.run_in.ensures, refused_reply _ _ c.in-Err.is) c.tell_refusal.ensures
