-- `put_single` leaves the digits of 0 and of the number one after the other.
use native.Mathlib.Omega.{arith}
use Rattle.frames.specs.PutLaws.{first_digits, more_digits, from_start}
use Rattle.frames.specs.ReplyDigits.{single_digits}
use Rattle.frames.proofs.put.put_single.Goals as goal

pub returns : goal.returns
unfolding single_digits
returns c =
    let told = (let out = c.args.out.now in
    let s₁ = first_digits 0 2 0 _ out _ c.put_at-at.ensures.value c.put_at-at.ensures.out_after in
    let s₂ = more_digits 0 _ 16 _ _ _ out _ _ s₁ (omega arith) c.put_at.ensures.value c.put_at.ensures.out_after in
    from_start _ _ _ _ s₂) in
    record { value = told.0; out_after = told.1 }
