-- `fall` follows the cases of `fall_kind`; the lowest bit of y is at most y, so that y and it fit.
use mathlib.Core.Path.{◌≡◌, ap, sym}
use Prim.Native.Nat.{ℕ, ◌+◌}
use native.Mathlib.Omega.{arith}
use borrow.Author.Rules.{rules}
use Rattle.moves.specs.Amounts.{low_bit}
use Rattle.moves.proofs.BitLaws.{low_bounds}
use Rattle.moves.proofs.AmountLaws.{fall_none, fall_first, fall_second}
use Rattle.bench.specs.Planning.{kind_number}
use Rattle.bench.proofs.amounts.fall.Goals as goal

pub returns-then-y-eq0 : goal.returns-then-y-eq0
returns-then-y-eq0 c =
    rw c.if-y-eq0.true (sym (fall_none c.args.x).kinds)

pub returns-then-x-low : goal.returns-then-x-low
unfolding kind_number
returns-then-x-low c =
    fall_first c.args.x c.args.y _ c.if-y-eq0.false (sym c.low_bit-low.ensures) c.if-x-low.true

pub overflow_add-y : goal.overflow_add-y
overflow_add-y c =
    omega (arith, low_bounds c.args.y (search rules) (search rules))

pub overflow_sub-result : goal.overflow_sub-result
overflow_sub-result c =
    let y = c.args.y in
    let e : low_bit (y + c.low_bit-low.result) ≡ low_bit (y + low_bit y) = ap (λ (i : ℕ). low_bit (y + i)) c.low_bit-low.ensures in
    omega (arith, low_bounds y (search rules) (search rules), e)

pub returns : goal.returns
unfolding kind_number
returns c =
    rw c.low_bit-high.ensures
    (fall_second c.args.x c.args.y _ c.if-y-eq0.false (sym c.low_bit-low.ensures) c.if-x-low.false)
