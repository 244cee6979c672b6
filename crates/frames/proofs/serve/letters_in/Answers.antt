-- `letters_in` tells how many items `letters_of` read, and 0 where it refused.
use Rattle.std.proofs.Common.{◌∙◌}
use Rattle.frames.proofs.CallLaws.{read_or_none}
use Rattle.frames.proofs.serve.letters_in.Goals as goal

pub returns : goal.returns
returns c =
    record {
      value = c.unwrap_or.ensures ∙ rw c.letters_of.ensures.value (read_or_none _);
      letters_after = c.letters_of.ensures.letters_after;
    }
