-- `serve_run` tells the run and zeroes the scratch.
use Rattle.std.proofs.Common.{◌∙◌, arith}
use Rattle.lent.specs.LentLaws.{served_zeroed}
use Rattle.frames.proofs.serve.serve_run.Goals as goal

pub returns : goal.returns
returns c =
    record {
      told = c.tell_run-replied.ensures;
      zeroed = c.clear_scratch.ensures ∙ served_zeroed {size = 512} c.args.scratch.now (omega arith);
    }
