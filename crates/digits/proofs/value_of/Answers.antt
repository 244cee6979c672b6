-- `value_of` answers the character's value: a character is within a range exactly where its difference to the lowest
-- one, modulo 256, is below the number of characters in it. With bit 5 set, A to F and a to f are within a to f, and no other
-- characters are.
use Rattle.std.proofs.Common.{◌≡◌, ℕ, ◌+◌, ◌*◌, ◌/◌, ◌%◌, ◌^◌, ◌<◌, Bool, true, false, Some, ltb, refl, ap, ◌∙◌, arith, ltb-false, ltb-true}
use lib.Bits.{bit_or, or_block, or_step, or_zero_r}
use Rattle.digits.specs.Digits.{digit_value}
use Rattle.digits.proofs.DigitLaws.{value_decimal, value_capital, value_small, value_none}
use Rattle.digits.proofs.value_of.Goals as goal

-- A number with its bit 5 set: the other bits are as they were.
bit_5_set : (c : ℕ) → bit_or c 32 ≡ c / 64 * 64 + (32 + c % 32)
bit_5_set c =
    let split : c ≡ c / 32 * 2 ^ 5 + c % 32 = omega arith in
    ap (λ (x : ℕ). bit_or x 32) split
    ∙ or_block 5 (c / 32) 1 (c % 32) 0 (omega arith) (omega arith)
    ∙ rw (or_step (c / 32) 1, or_zero_r (c / 32 / 2), or_zero_r (c % 32)) (omega arith)

-- The v-th letter after A or a.
letter : (c v : ℕ) → c / 64 ≡ 1 → c % 32 ≡ v + 1 → v < 6 → Some (v + 10) ≡ digit_value c
letter c v high low few = go (ltb c 97) refl
  where
    go : (b : Bool) → ltb c 97 ≡ b → Some (v + 10) ≡ digit_value c
    go true e = let h = ltb-true c 97 e in rw (value_capital c (omega arith) (omega arith)) (ap Some (omega arith))
    go false e = let h = ltb-false c 97 e in rw (value_small c h (omega arith)) (ap Some (omega arith))

pub returns-then-letter-lt6 : goal.returns-then-letter-lt6
returns-then-letter-lt6 c =
    let x = c.args.c in
    letter x _ (omega (arith, bit_5_set x)) (omega (arith, bit_5_set x)) (omega arith)

pub returns-then-decimal-lt10 : goal.returns-then-decimal-lt10
returns-then-decimal-lt10 c = rw (value_decimal c.args.c (omega arith) (omega arith)) (ap Some (omega arith))

pub returns : goal.returns
returns c =
    let x = c.args.c in
    rw (value_none x (λ h k. omega arith) (λ h k. omega (arith, bit_5_set x)) (λ h k. omega (arith, bit_5_set x)))
