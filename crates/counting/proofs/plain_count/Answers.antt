-- `plain_count` answers what `plain_of` says: refusal 12 above 65,535, and else the count that `count_of` ensures.
use Rattle.std.proofs.Common.{Ok}
use Rattle.std.proofs.Common.{sym, ap, ◌∙◌, arith}
use Rattle.counting.specs.PlainLaws.{plain_served, plain_refused}
use Rattle.counting.proofs.plain_count.Goals as goal

pub returns-then-n-gt65535 : goal.returns-then-n-gt65535
returns-then-n-gt65535 c = sym (plain_refused c.args.n (omega arith))

pub returns : goal.returns
returns c = ap Ok c.count_of.ensures ∙ sym (plain_served c.args.n (omega arith))
