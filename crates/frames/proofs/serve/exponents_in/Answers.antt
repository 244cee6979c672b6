-- `exponents_in` reads two bytes one after the other.
use mathlib.Core.Path.{◌∙◌}
use native.Mathlib.Omega.{arith}
use Rattle.chains.proofs.Divides.{same_part_lem}
use Rattle.lines.proofs.LineLaws.{field_fits}
use Rattle.frames.specs.Replies.{exponents_from}
use Rattle.frames.proofs.serve.exponents_in.Goals as goal

pub returns : goal.returns
unfolding exponents_from
returns c =
    let line = c.args.line.now in
    same_part_lem _ _ (c.field_of.ensures ∙ field_fits line _ 1 (omega arith))
    (c.field_of-2.ensures ∙ field_fits line _ 1 (omega arith))
