-- `serve_to_tree` tells the letters and zeroes the scratch.
use Rattle.std.proofs.Common.{◌∙◌, arith}
use Rattle.lent.specs.LentLaws.{served_zeroed}
use Rattle.frames.proofs.serve.serve_to_tree.Goals as goal

pub returns : goal.returns
returns c =
    record {
      told = c.tell_tree-replied.ensures;
      zeroed = c.clear_scratch.ensures ∙ served_zeroed {size = 512} c.args.scratch.now (omega arith);
    }
