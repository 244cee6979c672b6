-- `put_number` leaves what `put_digits` says: from the back, the digits that are still to be written and what stands from i on make
-- the same buffer at every turn.
use Rattle.std.proofs.Common.{◌≡◌, ℕ, suc, ◌/◌, ◌%◌, ◌<◌, ◌≤◌, List, ◌++◌, length, drop, set, sym, ◌∙◌, append_assoc, arith, drop-cons, get_or-set_same, drop-set-lt, lt-length-set}
use Rattle.digits.specs.Digits.{digit_of, digits_of}
use Rattle.digits.proofs.DigitLaws.{put_room, put_no_room}
use Rattle.digits.proofs.put_number.Goals as goal

-- One digit more, d at the place j, before those that stand from i on.
next : (i j n m d : ℕ) (out : List ℕ) → i ≡ suc j → i ≤ length out → m ≡ n / 16 → d ≡ digit_of (n % 16)
    → digits_of i n ++ drop i out ≡ digits_of j m ++ drop j (set out j d)
unfolding digits_of
next i j n m d out a h b e =
    let k : j < length out = omega arith in
    let l : j < length (set out j d) = lt-length-set out j d k in
    rw (a, append_assoc, drop-cons (set out j d) j 0, get_or-set_same out j d 0 k, drop-set-lt (suc j) out j d (omega arith), b, e)

-- No digit is left.
all_put : (i n : ℕ) (out : List ℕ) → i ≡ 0 → digits_of i n ++ drop i out ≡ out
unfolding digits_of
all_put i n out e = rw e

pub returns-then-out-k : goal.returns-then-out-k
returns-then-out-k c = sym (put_no_room _ _ _ (omega arith))

pub loop-i-init : goal.loop-i-init
loop-i-init c = put_room _ _ _ (omega arith)

pub loop-i-preserved : goal.loop-i-preserved
loop-i-preserved c = c.loop-i.invariant ∙ next _ _ _ _ _ _ (omega arith) (omega arith) (omega arith) c.digit_of.ensures

pub returns : goal.returns
returns c = sym (c.loop-i.invariant ∙ all_put _ _ _ (omega arith))
