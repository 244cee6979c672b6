-- What the whole block leaves unfinished is what the calls on its parts leave, one after the other.
use Rattle.std.proofs.Common.{rules}
use Rattle.intake.specs.ConsoleLaws.{holds_itself, holds_more}
use Rattle.intake.proofs.console.Memory.answer_bytes.Goals as goal

pub loop-at-init : goal.loop-at-init
loop-at-init c =
    let r = c.args.self.now.ready in
    (search rules, holds_itself _ _ r.enough.line_kept r.enough.kept_lent r.alone)

pub loop-at-preserved : goal.loop-at-preserved
loop-at-preserved c =
    let q = c.answer_part-part in
    (search rules, holds_more _ c.args.block.now _ c.loop-at.at _ _ q.result.used _ c.loop-at.invariant.1 q.ensures.kept)
