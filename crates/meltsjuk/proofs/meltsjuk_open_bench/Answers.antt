-- What opening answers says as much as what is left.
use Rattle.std.proofs.Common.{ap, ◌∙◌}
use Rattle.meltsjuk.specs.Answers.{status}
use Rattle.meltsjuk.specs.AnswerLaws.{answer_status}
use Rattle.meltsjuk.proofs.meltsjuk_open_bench.Goals as goal

pub returns-clause-answer : goal.returns-clause-answer
returns-clause-answer c = c.status.ensures ∙ ap status c.open_bench.ensures.answer ∙ answer_status _
