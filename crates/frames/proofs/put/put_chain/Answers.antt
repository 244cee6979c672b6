-- `put_chain` leaves the record right after the head.
use mathlib.Core.Path.{sym}
use native.Mathlib.Omega.{arith}
use Rattle.frames.specs.PutLaws.{at_start, one_more, from_start}
use Rattle.frames.specs.ReplyDigits.{chain_digits}
use Rattle.frames.specs.ReplyDigitLaws.{length_head}
use Rattle.frames.proofs.put.put_chain.Goals as goal

pub put_record-requires : goal.put_record-requires
put_record-requires c =
    (omega (arith, length_head c.args.n c.args.position), c.requires.1)

pub returns : goal.returns
unfolding chain_digits
returns c =
    let told = (let a = c.args in
    let out = a.out.now in
    let head = at_start _ _ out _ (sym c.put_head-at.ensures.value) c.put_head-at.ensures.out_after in
    let room = length_head a.n a.position in
    from_start _ _ _ _ (one_more 0 _ _ _ _ out _ _ head (omega arith) c.put_record.ensures.out_after c.put_record.ensures.value)) in
    record { value = told.0; out_after = told.1 }
