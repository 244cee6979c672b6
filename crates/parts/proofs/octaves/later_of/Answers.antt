-- `later_of` meets its contract: its two answers are the two cases of the definition.
use native.Mathlib.Omega.{arith}
use borrow.Author.Tests.{le-leb, lt-leb}
use Rattle.parts.specs.Octaves.{parts_below, later_of}
use Rattle.parts.proofs.octaves.later_of.Goals as goal

pub returns-then-parts_below-number : goal.returns-then-parts_below-number
unfolding later_of
returns-then-parts_below-number c =
    let s = c.args in
    rw (le-leb (parts_below s.later) s.number (omega (arith, c.parts_below.ensures, c.if-parts_below-number.true)))

pub returns : goal.returns
unfolding later_of
returns c =
    let s = c.args in
    rw (lt-leb (parts_below s.later) s.number (omega (arith, c.parts_below.ensures, c.if-parts_below-number.false)))
