-- `put_letters` leaves the letters right after 00 and their number.
use native.Mathlib.Omega.{arith}
use Rattle.frames.specs.PutLaws.{first_digits, more_digits, one_more, from_start}
use Rattle.frames.specs.ReplyDigits.{letters_digits}
use Rattle.frames.proofs.put.put_letters.Goals as goal

pub returns : goal.returns
unfolding letters_digits
returns c =
    let told = (let out = c.args.out.now in
    let s₁ = first_digits 0 2 0 _ out _ c.put_at-after_zero.ensures.value c.put_at-after_zero.ensures.out_after in
    let s₂ = more_digits 0 _ 2 _ _ _ out _ _ s₁ (omega arith) c.put_at-at.ensures.value c.put_at-at.ensures.out_after in
    from_start _ _ _ _ (one_more 0 _ _ _ _ out _ _ s₂ (omega arith) c.put_bytes.ensures.out_after c.put_bytes.ensures.value)) in
    record { value = told.0; out_after = told.1 }
