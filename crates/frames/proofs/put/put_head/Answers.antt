-- `put_head` leaves the digits of the three numbers one after the other.
use native.Mathlib.Omega.{arith}
use Rattle.frames.specs.PutLaws.{first_digits, more_digits, from_start}
use Rattle.frames.specs.ReplyDigits.{head_digits}
use Rattle.frames.proofs.put.put_head.Goals as goal

pub returns : goal.returns
unfolding head_digits
returns c =
    let told = (let out = c.args.out.now in
    let s₁ = first_digits 0 2 0 _ out _ c.put_at-after_zero.ensures.value c.put_at-after_zero.ensures.out_after in
    let s₂ = more_digits 0 _ 16 _ _ _ out _ _ s₁ (omega arith) c.put_at-after_n.ensures.value c.put_at-after_n.ensures.out_after in
    let s₃ = more_digits 0 _ 16 _ _ _ out _ _ s₂ (omega arith) c.put_at.ensures.value c.put_at.ensures.out_after in
    from_start _ _ _ _ s₃) in
    record { value = told.0; out_after = told.1 }
