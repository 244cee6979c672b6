-- `first_of` meets its contract: 1344 and the record of no parts have the same exponents.
use mathlib.Core.Path.{sym, ◌∙◌}
use native.Mathlib.Omega.{arith}
use Rattle.parts.proofs.Largest.{exponents_none, largest_none, largest_some}
use Rattle.parts.proofs.first_of.Goals as goal

pub returns-then-numbers-eq0 : goal.returns-then-numbers-eq0
returns-then-numbers-eq0 c = exponents_none 1344 (omega arith) ∙ sym (largest_none c.args.numbers.now c.if-numbers-eq0.true)

pub returns : goal.returns
returns c = sym (largest_some c.args.numbers.now (omega arith))
