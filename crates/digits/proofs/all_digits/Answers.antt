-- `all_digits` answers whether every character is a digit: whether all so far are, together with the characters from c-index on.
use Rattle.std.proofs.Common.{◌≡◌, ◌∙◌, ◌&&◌, Bool, List, ℕ, ◌+◌, ◌<◌, ◌≤◌, length, get_or, drop, sym, drop_of_length-le, arith}
use Rattle.std.proofs.Math.Bool.{and_assoc, and-true}
use Rattle.digits.specs.Digits.{is_digit, every, all_digits}
use Rattle.digits.proofs.DigitLaws.{every_from}
use Rattle.digits.proofs.all_digits.Goals as goal

-- The character at i is looked at too.
next : (s : List ℕ) (i : ℕ) (all one : Bool) → i < length s → one ≡ is_digit (get_or s i 0)
    → all_digits s ≡ all && all_digits (drop i s) → all_digits s ≡ (all && one) && all_digits (drop (i + 1) s)
next s i all one h d e = e ∙ rw (every_from is_digit s i h, d, and_assoc)

-- No character is left.
all_seen : (s : List ℕ) (i : ℕ) (all : Bool) → length s ≤ i → all_digits s ≡ all && all_digits (drop i s) → all ≡ all_digits s
unfolding every
all_seen s i all h e = sym (e ∙ rw (drop_of_length-le s h) (and-true all))

pub loop-c-preserved : goal.loop-c-preserved
loop-c-preserved c = next _ _ c.loop-c.all _ (omega arith) c.is_digit-all.ensures c.loop-c.invariant

pub returns : goal.returns
returns c = all_seen _ c.loop-c.c-index _ (omega arith) c.loop-c.invariant
