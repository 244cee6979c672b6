-- `put_numbers` leaves the digits of the numbers one after the other: after i turns those of the first i stand.
use native.Mathlib.Omega.{arith}
use borrow.Author.Rules.{rules}
use Rattle.frames.proofs.Values.{none_written, one_written, all_written}
use Rattle.frames.proofs.put.put_numbers.Goals as goal

pub loop-number-init : goal.loop-number-init
loop-number-init c = (search rules, none_written 2 _ _ _)

pub loop-number-preserved : goal.loop-number-preserved
loop-number-preserved c = (
  search rules,
  one_written 2 _ _ _ _ _ _ _ _ (omega arith) (omega arith) c.loop-number.invariant.1 c.put_at-end.ensures.value
      (rw c.from.ensures at c.put_at-end.ensures.out_after),
)

pub returns : goal.returns
returns c =
    let told = all_written 2 _ c.args.numbers.now _ _ _ c.loop-number.number-index (omega arith) c.loop-number.invariant.1 in
    record { value = told.0; out_after = told.1 }
