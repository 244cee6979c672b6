-- `rise` follows the cases of `rise_kind`, and half of the highest bit is at most 2^62, so three times it fits.
use mathlib.Core.Path.{◌≡◌, ap, sym}
use Prim.Native.Nat.{ℕ, ◌/◌}
use native.Mathlib.Omega.{arith}
use borrow.Author.Rules.{rules}
use Rattle.moves.specs.Amounts.{top_bit}
use Rattle.moves.proofs.BitLaws.{half_top}
use Rattle.moves.proofs.AmountLaws.{gap_top, rise_none, rise_first, rise_stuck, rise_second}
use Rattle.bench.specs.Planning.{kind_number}
use Rattle.bench.proofs.amounts.rise.Goals as goal

halved : (x : ℕ) {t : ℕ} → t ≡ top_bit x → top_bit x / 2 ≡ t / 2
halved x e = ap (λ (i : ℕ). i / 2) (sym e)

pub returns-then-x-lt2 : goal.returns-then-x-lt2
returns-then-x-lt2 c = sym (rise_none c.args.x c.if-x-lt2.true).kinds

pub overflow_mul-half : goal.overflow_mul-half
overflow_mul-half c = omega (arith, half_top c.args.x (search rules) (search rules))

pub returns-then-half-x : goal.returns-then-half-x
unfolding kind_number
returns-then-half-x c = rise_first c.args.x _ (search rules) (halved c.args.x c.top_bit-half.ensures) c.if-half-x.true

pub overflow_mul-gap : goal.overflow_mul-gap
overflow_mul-gap c = omega (arith, half_top c.args.x (search rules) (search rules))

pub returns-then-gap-eq0 : goal.returns-then-gap-eq0
returns-then-gap-eq0 c =
    sym (rise_stuck c.args.x _ (search rules) (halved c.args.x c.top_bit-half.ensures) c.if-half-x.false c.if-gap-eq0.true).kinds

pub overflow_sub-result : goal.overflow_sub-result
overflow_sub-result c =
    let g = gap_top c.args.x _ (search rules) (search rules) (halved c.args.x c.top_bit-half.ensures) c.if-gap-eq0.false in
    omega (arith, c.top_bit-low.ensures, g)

pub returns : goal.returns
unfolding kind_number
returns c =
    rw c.top_bit-low.ensures
    (rise_second c.args.x _ (search rules) (halved c.args.x c.top_bit-half.ensures) c.if-half-x.false c.if-gap-eq0.false)
