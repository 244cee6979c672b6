-- `read_number` answers the number modulo 2^64: what was read so far, with the characters from c-index on after it, stands for the
-- same remainder as the whole.
use Rattle.std.proofs.Common.{◌≡◌, ◌∙◌, ℕ, ◌+◌, ◌*◌, ◌%◌, ◌^◌, ◌<◌, ◌≤◌, List, length, get_or, drop, sym, mod-eq_of_lt, drop_of_length-le, arith, rules}
use Rattle.digits.specs.Digits.{value_or0, read_from, number_of}
use Rattle.digits.proofs.DigitLaws.{value_below, read_from_from, read_from_mod}
use Rattle.digits.proofs.read_number.Goals as goal

-- One character more: it is enough that the next number m agrees with 16 n + d.
next : (s : List ℕ) (n m i d : ℕ) → i < length s → d ≡ value_or0 (get_or s i 0) → m % 2 ^ 64 ≡ (16 * n + d) % 2 ^ 64
    → number_of s % 2 ^ 64 ≡ read_from n (drop i s) % 2 ^ 64 → number_of s % 2 ^ 64 ≡ read_from m (drop (i + 1) s) % 2 ^ 64
next s n m i d h e agrees r = r ∙ rw (read_from_from n s i h, ← e) (read_from_mod (16 * n + d) m (drop (i + 1) s) (sym agrees))

-- No character is left.
all_read : (s : List ℕ) (n i : ℕ) → length s ≤ i → n < 2 ^ 64 → number_of s % 2 ^ 64 ≡ read_from n (drop i s) % 2 ^ 64
    → n ≡ number_of s % 2 ^ 64
unfolding read_from
all_read s n i h fits r = sym (r ∙ rw (drop_of_length-le s h) (mod-eq_of_lt fits))

pub loop-c-init : goal.loop-c-init
unfolding number_of
loop-c-init c = search rules

pub overflow_add-n : goal.overflow_add-n
overflow_add-n c = omega (arith, value_below)

pub loop-c-preserved : goal.loop-c-preserved
loop-c-preserved c = next _ _ _ _ _ (omega arith) c.digit_value.ensures (omega arith) c.loop-c.invariant

pub returns : goal.returns
returns c = all_read _ _ c.loop-c.c-index (omega arith) (omega arith) c.loop-c.invariant
