-- `take_part` is never refused, since enough is lent. What it keeps is all that `kept` holds.
use Rattle.std.proofs.Common.{rules}
use Rattle.intake.specs.ConsoleLaws.{block_not_refused, block_taken}
use Rattle.intake.proofs.NotRefused.{is_served}
use Rattle.intake.proofs.console.Memory.take_part.Goals as goal

pub unwrap-part-requires : goal.unwrap-part-requires
unwrap-part-requires c =
    is_served _ (block_not_refused _ _ _ _ c.args.self.now.ready.enough _ _ c.answer_block.ensures.answer)

pub invariant_of-self : goal.invariant_of-self
invariant_of-self c =
    let e = c.answer_block.ensures in
    let t = block_taken _ _ _ _ c.args.self.now.ready.enough _ _ e.answer _ _ _ _ _ c.unwrap-part.ensures e.goes e.kept e.out in
    record { ready = record { enough = search rules; alone = t.1.0.alone } }

pub returns : goal.returns
returns c =
    let e = c.answer_block.ensures in
    let t = block_taken _ _ _ _ c.args.self.now.ready.enough _ _ e.answer _ _ _ _ _ c.unwrap-part.ensures e.goes e.kept e.out in
    record { moves = t.0; kept = t.1.0; out = t.1.1 }
