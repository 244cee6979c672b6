-- `put_record` leaves the digits of the count, of the two exponents and of the numbers one after the other.
use native.Mathlib.Omega.{arith}
use Rattle.frames.specs.PutLaws.{first_digits, more_digits, one_more}
use Rattle.frames.specs.ReplyDigitLaws.{record_pieces}
use Rattle.frames.proofs.put.put_record.Goals as goal

pub returns : goal.returns
returns c =
    let out = c.args.out.now in
    let s₁ = first_digits _ 2 _ _ out _ c.put_at-after_parts.ensures.value c.put_at-after_parts.ensures.out_after in
    let s₂ = more_digits _ _ 2 _ _ _ out _ _ s₁ (omega arith) c.put_at-after_a.ensures.value c.put_at-after_a.ensures.out_after in
    let s₃ = more_digits _ _ 2 _ _ _ out _ _ s₂ (omega arith) c.put_at-after_b.ensures.value c.put_at-after_b.ensures.out_after in
    let s₄ = one_more _ _ _ _ _ out _ _ s₃ (omega arith) c.put_numbers.ensures.out_after c.put_numbers.ensures.value in
    rw (← record_pieces _ _ c.requires.1) (record { value = s₄.ends; out_after = s₄.list })
