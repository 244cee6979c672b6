-- `numbers_in` tells how many items `numbers_of` read, and 0 where it refused.
use Rattle.std.proofs.Common.{◌∙◌}
use Rattle.frames.proofs.CallLaws.{read_or_none}
use Rattle.frames.proofs.serve.numbers_in.Goals as goal

pub returns : goal.returns
returns c =
    record {
      value = c.unwrap_or.ensures ∙ rw c.numbers_of.ensures.value (read_or_none _);
      numbers_after = c.numbers_of.ensures.numbers_after;
    }
