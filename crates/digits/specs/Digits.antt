-- Hexadecimal: document 01, 'Frames', and document 02, T-01. A character is a byte. The digits that are read are 0 to 9, A to F and
-- a to f; those that are written are 0 to 9 and A to F. Values of several digits stand highest first.
--
-- In this order: one digit; numbers; a text in capitals.
-- Definitions only. That digits read back give the number is in DigitLaws; that capitals stand for the same is in CapitalLaws.
use Rattle.std.specs.Prelude.{ℕ, zero, suc, ◌+◌, ◌-◌, ◌*◌, ◌/◌, ◌%◌, Bool, true, false, cond, Option, Some, None, is_some, unwrap_or, ◌&&◌, ◌||◌, List, [], ◌∷◌, ◌++◌, map, length, drop, nat_le, nat_lt}

-- ---- one digit

-- Between two bytes, both included.
unfoldable pub within : ℕ → ℕ → ℕ → Bool
within low high c = nat_le low c && nat_le c high

-- The value of a character, and none where it is no digit: '0' is 48, 'A' is 65, 'a' is 97, and a small letter is worth what its
-- capital is. Nothing else says which characters are digits.
unfoldable pub digit_value : ℕ → Option ℕ
digit_value c =
    cond (within 48 57 c) (Some (c - 48))
    (cond (within 65 70 c) (Some (c - 55))
    (cond (within 97 102 c) (Some (c - 87)) None))

-- Whether a character is a digit, and its value, 0 where it is none.
unfoldable pub is_digit : ℕ → Bool
is_digit c = is_some (digit_value c)

unfoldable pub value_or0 : ℕ → ℕ
value_or0 c = unwrap_or (digit_value c) 0

-- The character of a value below 16.
unfoldable pub digit_of : ℕ → ℕ
digit_of v = elim (nat_lt v 10) [ true ↦ 48 + v | false ↦ 55 + v ]

-- The characters that are written: 0 to 9, and capitals.
unfoldable pub is_written : ℕ → Bool
is_written c = within 48 57 c || within 65 70 c

-- ---- numbers

-- A test passes at every character.
unfoldable pub every : {A : Type 0} → (A → Bool) → List A → Bool
every p [] = true
every p (c ∷ s) = p c && every p s

-- Every character is a digit.
abbrev pub all_digits : List ℕ → Bool
all_digits s = every is_digit s

-- The number that characters stand for, after what v stood for before them.
unfoldable pub read_from : ℕ → List ℕ → ℕ
read_from v [] = v
read_from v (c ∷ s) = read_from (16 * v + value_or0 c) s

-- The number that characters stand for, highest digit first.
unfoldable pub number_of : List ℕ → ℕ
number_of s = read_from 0 s

-- The last k digits of n, highest first.
unfoldable pub digits_of : ℕ → ℕ → List ℕ
digits_of zero n = []
digits_of (suc k) n = digits_of k (n / 16) ++ (digit_of (n % 16) ∷ [])

-- What is left in a buffer after the last k digits of n are written at its start: the buffer itself where it has no room for them.
unfoldable pub put_digits : ℕ → ℕ → List ℕ → List ℕ
put_digits k n out = elim (nat_le k (length out)) [ true ↦ digits_of k n ++ drop k out | false ↦ out ]

-- ---- a text in capitals

-- A small letter a to f as its capital, any other character as it is.
unfoldable pub capital : ℕ → ℕ
capital c = cond (within 97 102 c) (c - 32) c

-- The same at every character of a line or a file.
abbrev pub capitals : List ℕ → List ℕ
capitals s = map capital s
