-- `is_largest` meets its contract: it tells a part by its number, which for a number of the table is as good as by its exponents.
use mathlib.Core.Path.{refl}
use Rattle.parts.specs.Parts.{same_part}
use Rattle.parts.proofs.Largest.{exponents_none, by_number}
use Rattle.parts.proofs.is_largest.Goals as goal

pub returns-then-first-ge1344 : goal.returns-then-first-ge1344
unfolding same_part
returns-then-first-ge1344 c =
    rw (← c.first_of-first.ensures, exponents_none _ c.if-first-ge1344.true) refl

pub returns : goal.returns
returns c =
    rw (c.part_number.ensures, ← c.first_of-first.ensures) (by_number _ _ c.if-first-ge1344.false)
