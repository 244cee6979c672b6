-- Theory of hexadecimal digits.
-- In order: a range of characters; one digit; a test at every character; the number that characters stand for; the digits of a
-- number, and what reading them back gives; digits in a buffer.
-- Only `value_decimal`, `value_capital`, `value_small`, `value_none` and `by_range` look at which characters are digits. Numbers
-- rest on `by_value` (a value is below 16) and `value_digit_of` (what is written is read back), and their laws hold whichever the
-- digits are. That the case of letters makes no difference is in CapitalLaws.
use Rattle.std.specs.Prelude.{◌≡◌, ℕ, zero, suc, ◌+◌, ◌-◌, ◌*◌, ◌/◌, ◌%◌, ◌^◌, ◌<◌, ◌≤◌, Bool, true, false, cond, Option, Some, None, is_some, unwrap_or, ◌&&◌, List, [], ◌∷◌, ◌++◌, length, drop, nat_le, nat_lt, slice_index, refl}
use Rattle.std.proofs.Common.{sym, ap, ◌∙◌, add-mul, mul_assoc, mul-le-mul_right, pow-suc, mod-eq_of_lt, add-one, arith, ltb-true, ltb-false, lt-ltb, le-ltb, leb-true, le-leb, length-append, drop-cons}
use Rattle.std.proofs.Math.Bool.{and_assoc, and-eq-true_iff}
use Rattle.std.proofs.Math.Nat.{one-le-pow, pow-succ', pow-le-pow_right, mod-one}
use Rattle.std.proofs.lemmas.Bool.{lt-leb}
use Rattle.std.proofs.Math.Arith.{mod-mul}
use Rattle.digits.specs.Digits.{within, digit_value, is_digit, value_or0, digit_of, is_written, every, all_digits, read_from}
use Rattle.digits.specs.Digits.{number_of, digits_of, put_digits}

-- ---- a range of characters

pub inside : (low high c : ℕ) → low ≤ c → c ≤ high → within low high c ≡ true
unfolding within
inside low high c h k = rw (le-leb low c, le-leb c high)

pub ends : (low high c : ℕ) → within low high c ≡ true → (low ≤ c) × (c ≤ high)
unfolding within
ends low high c e =
    let r = (and-eq-true_iff (nat_le low c) (nat_le c high)).0 e in
    (leb-true low c r.0, leb-true c high r.1)

pub outside : (low high c : ℕ) → (low ≤ c → c ≤ high → ⊥) → within low high c ≡ false
outside low high c h = go (within low high c) refl
  where
    go : (b : Bool) → within low high c ≡ b → within low high c ≡ false
    go true e = absurd (h (ends low high c e).0 (ends low high c e).1)
    go false e = e

-- ---- one digit

-- The characters that are digits, and the others.
pub value_decimal : (c : ℕ) → 48 ≤ c → c ≤ 57 → digit_value c ≡ Some (c - 48)
unfolding digit_value
value_decimal c h k = rw (inside 48 57 c)

pub value_capital : (c : ℕ) → 65 ≤ c → c ≤ 70 → digit_value c ≡ Some (c - 55)
unfolding digit_value
value_capital c h k = rw (outside 48 57 c (λ l m. omega arith), inside 65 70 c)

pub value_small : (c : ℕ) → 97 ≤ c → c ≤ 102 → digit_value c ≡ Some (c - 87)
unfolding digit_value
value_small c h k = rw (outside 48 57 c (λ l m. omega arith), outside 65 70 c (λ l m. omega arith), inside 97 102 c)

pub value_none : (c : ℕ) → (48 ≤ c → c ≤ 57 → ⊥) → (65 ≤ c → c ≤ 70 → ⊥) → (97 ≤ c → c ≤ 102 → ⊥) → digit_value c ≡ None
unfolding digit_value
value_none c h k l = rw (outside 48 57 c h, outside 65 70 c k, outside 97 102 c l)

-- What holds of the value in each range, and of none, holds of a character's value.
pub by_range : (P : Option ℕ → Type 0) (c : ℕ) → (48 ≤ c → c ≤ 57 → P (Some (c - 48))) → (65 ≤ c → c ≤ 70 → P (Some (c - 55)))
    → (97 ≤ c → c ≤ 102 → P (Some (c - 87))) → P None → P (digit_value c)
unfolding digit_value
by_range P c decimal capital small other =
    in_range 48 57 decimal (in_range 65 70 capital (in_range 97 102 small other))
  where
    in_range : (low high : ℕ) {o p : Option ℕ} → (low ≤ c → c ≤ high → P o) → P p → P (cond (within low high c) o p)
    in_range low high {o} {p} inner outer = go (within low high c) refl
      where
        go : (b : Bool) → within low high c ≡ b → P (cond b o p)
        go true e = inner (ends low high c e).0 (ends low high c e).1
        go false e = outer

-- So does what holds of every value below 16, and of none.
pub by_value : (P : Option ℕ → Type 0) → ((v : ℕ) → v < 16 → P (Some v)) → P None → (c : ℕ) → P (digit_value c)
by_value P digit other c =
    by_range P c
    (λ l h. digit (c - 48) (omega arith))
    (λ l h. digit (c - 55) (omega arith))
    (λ l h. digit (c - 87) (omega arith))
    other

pub value_below : (c : ℕ) → value_or0 c < 16
unfolding value_or0
value_below c = by_value (λ (o : Option ℕ). unwrap_or o 0 < 16) (λ v h. h) (omega arith) c

-- The character of a value below 10, and of one from 10 on.
pub digit_decimal : (v : ℕ) → v < 10 → digit_of v ≡ 48 + v
unfolding digit_of
digit_decimal v h = rw (lt-ltb v 10, digit_of)

pub digit_capital : (v : ℕ) → 10 ≤ v → digit_of v ≡ 55 + v
unfolding digit_of
digit_capital v h = rw (le-ltb v 10, digit_of)

by_digit : (v : ℕ) (P : ℕ → Type 0) → (v < 10 → P (48 + v)) → (10 ≤ v → P (55 + v)) → P (digit_of v)
by_digit v P decimal capital = go (nat_lt v 10) refl
  where
    go : (b : Bool) → nat_lt v 10 ≡ b → P (digit_of v)
    go true e = rw (digit_decimal v (ltb-true v 10 e)) (decimal (ltb-true v 10 e))
    go false e = rw (digit_capital v (ltb-false v 10 e)) (capital (ltb-false v 10 e))

-- The value of the character of v is v.
pub value_digit_of : (v : ℕ) → v < 16 → digit_value (digit_of v) ≡ Some v
value_digit_of v h =
    by_digit v (λ (c : ℕ). digit_value c ≡ Some v)
    (λ l. value_decimal (48 + v) (omega arith) (omega arith) ∙ ap Some (omega arith))
    (λ l. value_capital (55 + v) (omega arith) (omega arith) ∙ ap Some (omega arith))

value_or0_digit_of : (v : ℕ) → v < 16 → value_or0 (digit_of v) ≡ v
unfolding value_or0
value_or0_digit_of v h = ap (λ (o : Option ℕ). unwrap_or o 0) (value_digit_of v h)

is_digit_digit_of : (v : ℕ) → v < 16 → is_digit (digit_of v) ≡ true
unfolding is_digit
is_digit_digit_of v h = ap is_some (value_digit_of v h)

is_written_digit_of : (v : ℕ) → v < 16 → is_written (digit_of v) ≡ true
unfolding is_written
is_written_digit_of v h =
    by_digit v (λ (c : ℕ). is_written c ≡ true)
    (λ l. rw (inside 48 57 (48 + v) (omega arith) (omega arith), is_written))
    (λ l. rw (inside 65 70 (55 + v) (omega arith) (omega arith), outside 48 57 (55 + v) (λ k m. omega arith), is_written))

-- ---- a test at every character

pub every_append : (p : ℕ → Bool) (s t : List ℕ) → every p (s ++ t) ≡ every p s && every p t
unfolding every
every_append p [] t = refl
every_append p (c ∷ s) t = ap (λ (b : Bool). p c && b) (every_append p s t) ∙ sym (and_assoc (p c) (every p s) (every p t))

-- The test from the character at i on.
pub every_from : (p : ℕ → Bool) (s : List ℕ) (i : ℕ) → i < length s
    → every p (drop i s) ≡ p (slice_index s i) && every p (drop (i + 1) s)
unfolding every
every_from p s i h = rw (drop-cons s i 0, add-one)

-- A test that passes wherever another does.
pub every_weaker : (p q : ℕ → Bool) → ((c : ℕ) → p c ≡ true → q c ≡ true) → (s : List ℕ) → every p s ≡ true → every q s ≡ true
unfolding every
every_weaker p q w [] e = refl
every_weaker p q w (c ∷ s) e =
    let r = (and-eq-true_iff (p c) (every p s)).0 e in
    rw (w c r.0, every_weaker p q w s r.1)

-- What holds of the character of each value holds of every digit of a number.
every_digits : (p : ℕ → Bool) → ((v : ℕ) → v < 16 → p (digit_of v) ≡ true) → (k n : ℕ) → every p (digits_of k n) ≡ true
unfolding every digits_of
every_digits p h zero n = refl
every_digits p h (suc k) n =
    every_append p (digits_of k (n / 16)) (digit_of (n % 16) ∷ [])
    ∙ rw (every_digits p h k (n / 16), h (n % 16) (omega arith))

-- ---- the number that characters stand for

read_from_append : (v : ℕ) (s t : List ℕ) → read_from v (s ++ t) ≡ read_from (read_from v s) t
unfolding read_from
read_from_append v [] t = refl
read_from_append v (c ∷ s) t = read_from_append (16 * v + value_or0 c) s t

-- Reading from the character at i on.
pub read_from_from : (v : ℕ) (s : List ℕ) (i : ℕ) → i < length s
    → read_from v (drop i s) ≡ read_from (16 * v + value_or0 (slice_index s i)) (drop (i + 1) s)
unfolding read_from
read_from_from v s i h = rw (drop-cons s i 0, add-one)

-- What stood before counts 16 times as much for each character.
read_from_split : (v : ℕ) (s : List ℕ) → read_from v s ≡ v * 16 ^ length s + number_of s
unfolding read_from number_of
read_from_split v [] = omega arith
read_from_split v (c ∷ s) =
    let P = 16 ^ length s in
    let d = value_or0 c in
    read_from_split (16 * v + d) s
    ∙ omega (
      arith,
      read_from_split (16 * 0 + d) s,
      add-mul (16 * v) d P,
      add-mul (16 * 0) d P,
      mul_assoc 16 v P,
      mul_assoc v P 16,
      ap (λ (x : ℕ). v * x) (pow-suc 16 (length s)),
    )

pub number_append : (s t : List ℕ) → number_of (s ++ t) ≡ number_of s * 16 ^ length t + number_of t
unfolding number_of
number_append s t = read_from_append 0 s t ∙ read_from_split (read_from 0 s) t

-- After v, the next k characters stay below (v + 1) * 16^k.
read_from_below : (v : ℕ) (s : List ℕ) → read_from v s < suc v * 16 ^ length s
unfolding read_from
read_from_below v [] = omega arith
read_from_below v (c ∷ s) =
    let P = 16 ^ length s in
    let w = 16 * v + value_or0 c in
    omega (
      arith,
      read_from_below w s,
      mul-le-mul_right {m = suc w} {n = suc v * 16} P (omega (arith, value_below c)),
      mul_assoc (suc v) 16 P,
      ap (λ (x : ℕ). suc v * x) (pow-succ' 16 (length s)),
    )

pub number_below : (k : ℕ) (s : List ℕ) → length s ≤ k → number_of s < 16 ^ k
unfolding number_of
number_below k s h = omega (arith, read_from_below 0 s, pow-le-pow_right {n = 16} (omega arith) h)

-- The number of at most 16 characters is its own remainder by 2^64.
pub number_fits : (s : List ℕ) → length s ≤ 16 → number_of s % 2 ^ 64 ≡ number_of s
number_fits s h = mod-eq_of_lt (number_below 16 s h)

-- The remainder by 2^64 depends on no more than the remainder of what stood before.
pub read_from_mod : (v w : ℕ) (s : List ℕ) → v % 2 ^ 64 ≡ w % 2 ^ 64 → read_from v s % 2 ^ 64 ≡ read_from w s % 2 ^ 64
unfolding read_from
read_from_mod v w [] e = e
read_from_mod v w (c ∷ s) e = read_from_mod (16 * v + value_or0 c) (16 * w + value_or0 c) s (omega arith)

-- ---- the digits of a number

pub length_digits : (k n : ℕ) → length (digits_of k n) ≡ k
unfolding digits_of
length_digits zero n = refl
length_digits (suc k) n = simp (length-append, length_digits k (n / 16)) (omega arith)

pub all_digits_digits : (k n : ℕ) → all_digits (digits_of k n) ≡ true
all_digits_digits k n = every_digits is_digit is_digit_digit_of k n

pub written_digits : (k n : ℕ) → every is_written (digits_of k n) ≡ true
written_digits k n = every_digits is_written is_written_digit_of k n

-- Reading the last k digits of n back gives n modulo 16^k.
pub number_digits : (k n : ℕ) → number_of (digits_of k n) ≡ n % 16 ^ k
unfolding digits_of number_of read_from
number_digits zero n = sym (mod-one n)
number_digits (suc k) n =
    number_append (digits_of k (n / 16)) (digit_of (n % 16) ∷ [])
    ∙ omega (
      arith,
      number_digits k (n / 16),
      value_or0_digit_of (n % 16) (omega arith),
      mod-mul n {m = 16 ^ k} {c = 16} (one-le-pow k 16 (omega arith)) (omega arith),
      ap (λ (x : ℕ). n % x) (pow-suc 16 k),
    )

-- ---- digits in a buffer

pub put_room : (k n : ℕ) (out : List ℕ) → k ≤ length out → put_digits k n out ≡ digits_of k n ++ drop k out
unfolding put_digits
put_room k n out h = rw (le-leb k (length out), put_digits)

pub put_no_room : (k n : ℕ) (out : List ℕ) → length out < k → put_digits k n out ≡ out
unfolding put_digits
put_no_room k n out h = rw (lt-leb k (length out), put_digits)
