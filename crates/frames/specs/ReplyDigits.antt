-- The digits of replies: document 01, 'Frames', and document 02, T-05 and T-06.
-- Definitions only; how many digits there are is in ReplyDigitLaws.
use Rattle.std.specs.Prelude.{List, [], ◌∷◌, ◌++◌, ℕ, ◌+◌, ◌*◌, length}
use Rattle.parts.specs.Parts.{largest_of}
use Rattle.digits.specs.Digits.{digits_of}

-- A single number, a count or the residue of a run: 00, then the number.
unfoldable pub single_digits : ℕ → List ℕ
single_digits x = digits_of 2 0 ++ digits_of 16 x

-- Values of `width` bytes each, one after the other; part numbers have two, and letters one.
unfoldable pub values_digits : ℕ → List ℕ → List ℕ
values_digits width [] = []
values_digits width (x ∷ xs) = digits_of (2 * width) x ++ values_digits width xs

abbrev pub numbers_digits : List ℕ → List ℕ
numbers_digits numbers = values_digits 2 numbers

-- a and b of the largest part of a record, one byte each.
abbrev pub largest_digits : List ℕ → List ℕ
largest_digits numbers = digits_of 2 (largest_of numbers).a ++ digits_of 2 (largest_of numbers).b

-- A record: the number of its parts, a and b of the largest, the part numbers. It stands in replies and in lines.
unfoldable pub record_digits : List ℕ → List ℕ
record_digits numbers = digits_of 2 (length numbers) ++ (largest_digits numbers ++ numbers_digits numbers)

-- What stands before the record in a chain's reply: 00, n and the position.
unfoldable pub head_digits : ℕ → ℕ → List ℕ
head_digits n position = digits_of 2 0 ++ digits_of 16 n ++ digits_of 16 position

-- At which byte of the reply the position stands, at which the record, which begins with the number of parts, and in it a and b, and
-- the first part number.
abbrev pub position_at : ℕ
position_at = 1 + 8

abbrev pub record_at : ℕ
record_at = position_at + 8

abbrev pub largest_at : ℕ
largest_at = record_at + 1

abbrev pub numbers_at : ℕ
numbers_at = largest_at + 2

-- A chain: its head, then its record.
unfoldable pub chain_digits : ℕ → ℕ → List ℕ → List ℕ
chain_digits n position numbers = head_digits n position ++ record_digits numbers

-- A chain and its price.
unfoldable pub priced_digits : ℕ → ℕ → List ℕ → ℕ → List ℕ
priced_digits n position numbers price = chain_digits n position numbers ++ digits_of 8 price

-- The letters of a tree word: 00, how many there are, then the letters.
unfoldable pub letters_digits : List ℕ → List ℕ
letters_digits letters = digits_of 2 0 ++ digits_of 2 (length letters) ++ values_digits 1 letters

-- At which byte of it their number stands, and at which the first letter.
abbrev pub letters_count_at : ℕ
letters_count_at = 1

abbrev pub letters_at : ℕ
letters_at = letters_count_at + 1
