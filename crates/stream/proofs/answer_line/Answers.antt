-- `answer_line` lends the part of `out` from `at` on for the reply, and stores byte 10 behind its digits.
use native.Mathlib.Omega.{arith}
use Rattle.stream.proofs.OneReply.{reply_added}
use Rattle.stream.proofs.answer_line.Goals as goal

pub returns : goal.returns
returns c =
    let r = c.put_reply.ensures in
    record { adds = reply_added _ _ _ _ _ (omega arith) r.part_after r.value.0; scratch_after = r.scratch_after }
