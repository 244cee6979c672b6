-- `put_bytes` leaves the digits of the letters one after the other: after i turns those of the first i stand.
use native.Mathlib.Omega.{arith}
use borrow.Author.Rules.{rules}
use Rattle.frames.proofs.Values.{none_written, one_written, all_written}
use Rattle.frames.proofs.put.put_bytes.Goals as goal

pub loop-letter-init : goal.loop-letter-init
loop-letter-init c = (search rules, none_written 1 _ _ _)

pub loop-letter-preserved : goal.loop-letter-preserved
loop-letter-preserved c = (
  search rules,
  one_written 1 _ _ _ _ _ _ _ _ (omega arith) (omega arith) c.loop-letter.invariant.1 c.put_at-end.ensures.value
      (rw c.from.ensures at c.put_at-end.ensures.out_after),
)

pub returns : goal.returns
returns c =
    let told = all_written 1 _ c.args.letters.now _ _ _ c.loop-letter.letter-index (omega arith) c.loop-letter.invariant.1 in
    record { value = told.0; out_after = told.1 }
