-- `largest_of` meets its contract: it gives the exponents of the first number.
use mathlib.Core.Path.{◌∙◌}
use Rattle.parts.proofs.largest_of.Goals as goal

pub returns : goal.returns
returns c =
    c.exponents_at.ensures ∙ c.first_of.ensures
