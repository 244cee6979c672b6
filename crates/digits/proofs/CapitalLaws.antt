-- The case of the letters a to f makes no difference to what characters stand for (document 02, T-01): a text and the same text in
-- capitals have the same digits and the same numbers, by one law of one character, `value_of_capital`.
--
-- In this order: one character; a text.
use Rattle.std.specs.Prelude.{◌≡◌, ℕ, ◌+◌, ◌-◌, ◌*◌, ◌≤◌, Bool, true, false, cond, Option, Some, is_some, unwrap_or, List, [], ◌∷◌, refl}
use Rattle.std.proofs.Common.{sym, ap, ◌∙◌, arith}
use Rattle.std.proofs.Math.Bool.{and-eq-true_iff}
use Rattle.std.proofs.lemmas.Bool.{false≢true}
use Rattle.digits.specs.Digits.{within, digit_value, is_digit, value_or0, digit_of, is_written, every, all_digits, read_from}
use Rattle.digits.specs.Digits.{number_of, capital, capitals}
use Rattle.digits.proofs.DigitLaws.{inside, ends, outside, value_capital, value_small, by_range, digit_decimal, digit_capital}

-- ---- one character

capital_small : (c : ℕ) → 97 ≤ c → c ≤ 102 → capital c ≡ c - 32
unfolding capital
capital_small c l h = rw (inside 97 102 c)

capital_same : (c : ℕ) → (97 ≤ c → c ≤ 102 → ⊥) → capital c ≡ c
unfolding capital
capital_same c h = rw (outside 97 102 c h)

-- The capital of a digit is what is written for its value, and no other character changes. These two laws leave no other `capital`.
pub capital_of_digit : (c : ℕ) → is_digit c ≡ true → capital c ≡ digit_of (value_or0 c)
unfolding is_digit value_or0
capital_of_digit c =
    by_range (λ (o : Option ℕ). is_some o ≡ true → capital c ≡ digit_of (unwrap_or o 0)) c
    (λ l h d. capital_same c (λ k m. omega arith) ∙ omega (arith, digit_decimal (c - 48) (omega arith)))
    (λ l h d. capital_same c (λ k m. omega arith) ∙ omega (arith, digit_capital (c - 55) (omega arith)))
    (λ l h d. capital_small c l h ∙ omega (arith, digit_capital (c - 87) (omega arith)))
    (λ d. absurd (false≢true d))

pub capital_of_other : (c : ℕ) → is_digit c ≡ false → capital c ≡ c
unfolding is_digit
capital_of_other c d = capital_same c (λ l h. false≢true (sym d ∙ rw (value_small c l h)))

-- What holds of the capital of a small letter, and of a character as it is, holds of `capital`.
pub by_capital : (P : ℕ → Type 0) (c : ℕ) → (97 ≤ c → c ≤ 102 → P (c - 32)) → P c → P (capital c)
unfolding capital
by_capital P c small other = go (within 97 102 c) refl
  where
    go : (b : Bool) → within 97 102 c ≡ b → P (cond b (c - 32) c)
    go true e = small (ends 97 102 c e).0 (ends 97 102 c e).1
    go false e = other

-- A small letter is worth what its capital is.
pub value_of_capital : (c : ℕ) → digit_value (capital c) ≡ digit_value c
value_of_capital c =
    by_capital (λ (d : ℕ). digit_value d ≡ digit_value c) c
    (λ l h. value_capital (c - 32) (omega arith) (omega arith) ∙ ap Some (omega arith) ∙ sym (value_small c l h))
    refl

value_or_0_of_capital : (c : ℕ) → value_or0 (capital c) ≡ value_or0 c
unfolding value_or0
value_or_0_of_capital c = ap (λ (o : Option ℕ). unwrap_or o 0) (value_of_capital c)

-- No small letter is written.
written_capital : (c : ℕ) → is_written c ≡ true → capital c ≡ c
unfolding is_written
written_capital c w =
    capital_same c
    (λ l h. false≢true (rw (outside 48 57 c (λ k m. omega arith), outside 65 70 c (λ k m. omega arith)) at w))

-- ---- a text

-- A test that makes no difference between a letter and its capital.
every_of_capitals : (p : ℕ → Bool) → ((c : ℕ) → p (capital c) ≡ p c) → (s : List ℕ) → every p (capitals s) ≡ every p s
unfolding every
every_of_capitals p h [] = refl
every_of_capitals p h (c ∷ s) = rw (h c, every_of_capitals p h s)

pub digits_of_capitals : (s : List ℕ) → all_digits (capitals s) ≡ all_digits s
unfolding is_digit
digits_of_capitals s = every_of_capitals is_digit (λ c. ap is_some (value_of_capital c)) s

read_from_of_capitals : (v : ℕ) (s : List ℕ) → read_from v (capitals s) ≡ read_from v s
unfolding read_from
read_from_of_capitals v [] = refl
read_from_of_capitals v (c ∷ s) =
    ap (λ (d : ℕ). read_from (16 * v + d) (capitals s)) (value_or_0_of_capital c) ∙ read_from_of_capitals (16 * v + value_or0 c) s

pub number_of_capitals : (s : List ℕ) → number_of (capitals s) ≡ number_of s
unfolding number_of
number_of_capitals s = read_from_of_capitals 0 s

-- What is written is in capitals.
pub capitals_written : (s : List ℕ) → every is_written s ≡ true → capitals s ≡ s
unfolding every
capitals_written [] e = refl
capitals_written (c ∷ s) e =
    let r = (and-eq-true_iff (is_written c) (every is_written s)).0 e in
    rw (written_capital c r.0, capitals_written s r.1)
