-- `serve_refusal` zeroes the scratch and tells the number.
use Rattle.std.proofs.Common.{◌∙◌, arith}
use Rattle.lent.specs.LentLaws.{served_zeroed}
use Rattle.frames.proofs.serve.serve_refusal.Goals as goal

pub returns : goal.returns
returns c =
    record {
      told = c.tell_refusal.ensures;
      zeroed = c.clear_scratch.ensures ∙ served_zeroed {size = 512} c.args.scratch.now (omega arith);
    }
