-- `refusal_by` gives 16 for 15 where the exponents are wrong, and any other refusal as it is.
use Rattle.std.proofs.Common.{sym}
use Rattle.frames.specs.Replies.{or_sixteen}
use Rattle.frames.specs.ServedLaws.{sixteen_right, sixteen_refused}
use Rattle.frames.proofs.serve.refusal_by.Goals as goal

pub returns-then-right : goal.returns-then-right
returns-then-right c = sym (sixteen_right _ _ c.if-right.true)

pub returns-in-NoTreeWord : goal.returns-in-NoTreeWord
unfolding or_sixteen
returns-in-NoTreeWord c = rw (c.if-right.false, c.in-NoTreeWord.is)

pub returns-in_default : goal.returns-in_default
returns-in_default c = sym (sixteen_refused _ _ c.in_default.not-NoTreeWord)
