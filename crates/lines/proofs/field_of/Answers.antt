-- `field_of` answers the field modulo 2^64: 0 where it begins past the end of the line, what is left of the line where it runs past
-- the end, and else its 2 k characters.
use mathlib.Core.Path.{◌≡◌, ap, ◌∙◌}
use mathlib.Core.List.{List}
use Prim.Native.Nat.{ℕ, ◌+◌, ◌-◌, ◌*◌, ◌%◌, ◌^◌, ◌≤◌}
use native.Mathlib.Omega.{arith}
use borrow.Rule.Slice.PartMut.{mid_of}
use lib.ListN.{length}
use Rattle.lent.specs.Parts.{part_lent}
use Rattle.digits.specs.Digits.{number_of}
use Rattle.lines.specs.Lines.{field}
use Rattle.lines.proofs.LineLaws.{field_past, field_rest}
use Rattle.lines.proofs.field_of.Goals as goal

-- The part that runs to the end of the line, and the part of 2 k characters.
rest : (line : List ℕ) (at k : ℕ) → 2 * at ≤ length line → length line - 2 * at ≤ 2 * k
    → number_of (mid_of (2 * at) (length line - 2 * at) line) ≡ field line at k
rest line at k h g = rw (part_lent (2 * at) line h, field_rest line at k g)

whole : (line : List ℕ) (at k : ℕ) → number_of (mid_of (2 * at) (2 * at + 2 * k - 2 * at) line) ≡ field line at k
unfolding field
whole line at k = let e : 2 * at + 2 * k - 2 * at ≡ 2 * k = omega arith in rw e

pub returns-then-n-at : goal.returns-then-n-at
returns-then-n-at c =
    let a = c.args in
    omega (arith, field_past a.line.now a.at a.k (omega arith))

pub returns-then-n-from : goal.returns-then-n-from
returns-then-n-from c =
    let a = c.args in
    c.read_number.ensures ∙ ap (λ (x : ℕ). x % 2 ^ 64) (rest a.line.now a.at a.k (omega arith) (omega arith))

pub returns : goal.returns
returns c = c.read_number-2.ensures ∙ ap (λ (x : ℕ). x % 2 ^ 64) (whole _ _ _)
