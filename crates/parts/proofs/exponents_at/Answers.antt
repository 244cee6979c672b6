-- `exponents_at` meets its contract: the test of OctaveLaws says of each number below 1344 that its part is the one found.
use mathlib.Core.Path.{sym, ◌∙◌}
use native.Mathlib.Omega.{arith}
use Rattle.parts.proofs.Largest.{exponents_at_lem, exponents_none}
use Rattle.parts.proofs.OctaveLaws.{part_found}
use Rattle.parts.proofs.exponents_at.Goals as goal

pub returns-then-number-ge1344 : goal.returns-then-number-ge1344
returns-then-number-ge1344 c = sym (exponents_none _ c.if-number-ge1344.true)

pub overflow_mul-a : goal.overflow_mul-a
overflow_mul-a c =
    let octave = rw c.from-i.ensures at c.octave_at-l.ensures in
    omega (
      arith,
      octave,
      (part_found _ c.if-number-ge1344.false _ _ _ _ octave c.parts_below-first.ensures
          c.parts_below.ensures (rw c.from-i.ensures at c.triplings_at-b.ensures)).0,
    )

pub overflow_sub-a : goal.overflow_sub-a
overflow_sub-a c =
    (part_found _ c.if-number-ge1344.false _ _ _ _ (rw c.from-i.ensures at c.octave_at-l.ensures)
    c.parts_below-first.ensures c.parts_below.ensures (rw c.from-i.ensures at c.triplings_at-b.ensures)).0

pub returns : goal.returns
returns c =
    let low = c.if-number-ge1344.false in
    (part_found _ low _ _ _ _ (rw c.from-i.ensures at c.octave_at-l.ensures)
    c.parts_below-first.ensures c.parts_below.ensures (rw c.from-i.ensures at c.triplings_at-b.ensures)).1
    ∙ sym (exponents_at_lem _ low)
