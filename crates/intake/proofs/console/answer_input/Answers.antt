-- `answer_input` lends enough, and nothing is kept at the start.
use Rattle.std.proofs.Common.{rules}
use Rattle.intake.specs.ConsoleLaws.{zeros_alone}
use Rattle.intake.proofs.console.answer_input.Goals as goal

pub invariant_of-memory : goal.invariant_of-memory
invariant_of-memory c = record { ready = record { enough = search rules; alone = zeros_alone 515 } }
