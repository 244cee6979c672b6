-- The letter that must come, no line at 1, or the line of the number.
use mathlib.Core.Path.{ap, ◌∙◌}
use mathlib.Core.Bool.{◌&&◌}
use lib.Dec.{eqb}
use borrow.Author.Tests.{le-ltb}
use Rattle.trees.specs.Trees.{produced}
use Rattle.trees.specs.Walk.{goes_on_from, goes_on}
use Rattle.trees.proofs.producing.step.Goals as goal

pub returns-in-Some : goal.returns-in-Some
unfolding goes_on_from produced
returns-in-Some c w =
    rw c.in-Some.is (c.only.ensures w ∙ ap (λ b. eqb c.args.letter c.in-Some.next && b) (c.on.ensures w))

pub returns-in-None-2 : goal.returns-in-None-2
unfolding goes_on goes_on_from produced
returns-in-None-2 c w = rw (c.in-None.is, le-ltb 1 c.args.way.n c.if-way-gt1.false)
