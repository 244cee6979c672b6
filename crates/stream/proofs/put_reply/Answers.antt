-- `put_reply` lends enough, so that `frames::reply` gives the reply and not refusal 1.
use mathlib.Core.Path.{◌≡◌, ap, ◌∙◌}
use lib.ListN.{length}
use native.Mathlib.Omega.{arith}
use Rattle.frames.specs.Replies.{reply_of}
use Rattle.frames.specs.ReplyLaws.{reply_short}
use Rattle.stream.specs.Pieces.{digits_told}
use Rattle.stream.proofs.OneReply.{reply_told, reply_out, reply_scratch}
use Rattle.stream.proofs.put_reply.Goals as goal

pub returns : goal.returns
returns c =
    let a = c.args in
    let e : c.digits_told.result ≡ length (reply_of a.line.now) =
    c.digits_told.ensures
    ∙ ap digits_told c.reply.ensures.answer
    ∙ reply_told a.line.now a.scratch.now a.part.now (omega arith) (omega arith)
    in record { value = (e, omega (arith, reply_short a.line.now)); part_after = c.reply.ensures.out ∙ reply_out a.line.now a.scratch.now a.part.now (omega arith) (omega arith); scratch_after = c.reply.ensures.scratch ∙ reply_scratch a.line.now a.scratch.now a.part.now (omega arith) (omega arith) }
