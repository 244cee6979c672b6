-- `take_rest` is never refused, since enough is lent.
use Rattle.intake.specs.ConsoleLaws.{end_not_refused, end_written}
use Rattle.intake.proofs.NotRefused.{is_served}
use Rattle.intake.proofs.console.Memory.take_rest.Goals as goal

pub unwrap-requires : goal.unwrap-requires
unwrap-requires c =
    is_served _ (end_not_refused _ _ _ _ c.args.self.now.ready.enough _ c.answer_end.ensures.answer)

pub returns-clause-out : goal.returns-clause-out
returns-clause-out c =
    end_written _ _ _ _ c.args.self.now.ready.enough _ c.answer_end.ensures.answer _ _ c.unwrap.ensures c.answer_end.ensures.out
