-- Theory of the digits of replies: how many there are, a test that they all pass, those of a record piece by piece, and those of one
-- value more.
use Rattle.std.specs.Prelude.{◌≡◌, refl, Bool, true, List, [], ◌∷◌, ◌++◌, ℕ, ◌+◌, ◌*◌, ◌<◌, length, get_or, take}
use Rattle.std.proofs.Common.{append-nil, append_assoc, mul-zero, mul-suc, add-one, arith, length-append, take-suc}
use Rattle.chains.specs.Chains.{Part}
use Rattle.parts.specs.Parts.{largest_of}
use Rattle.digits.specs.Digits.{every, digits_of}
use Rattle.digits.proofs.DigitLaws.{every_append, length_digits}
use Rattle.frames.specs.ReplyDigits.{single_digits, values_digits, numbers_digits, largest_digits, record_digits, head_digits}
use Rattle.frames.specs.ReplyDigits.{record_at, numbers_at, chain_digits, priced_digits, letters_digits, letters_at}

pub length_single : (x : ℕ) → length (single_digits x) ≡ 18
unfolding single_digits
length_single x = simp (length-append, length_digits)

pub length_values : (width : ℕ) (xs : List ℕ) → length (values_digits width xs) ≡ 2 * width * length xs
unfolding values_digits
length_values width [] = rw mul-zero
length_values width (x ∷ xs) = simp (length-append, length_digits, length_values width xs, mul-suc) (omega arith)

pub length_head : (n position : ℕ) → length (head_digits n position) ≡ 2 * record_at
unfolding head_digits
length_head n position = simp (length-append, length_digits)

pub length_largest : (numbers : List ℕ) → length (largest_digits numbers) ≡ 4
length_largest numbers = simp (length-append, length_digits)

pub length_record : (numbers : List ℕ) → length (record_digits numbers) ≡ 2 * (3 + 2 * length numbers)
unfolding record_digits
length_record numbers = simp (length-append, length_digits, length_values) (omega arith)

-- Its digits one after the other, where p is the largest part.
pub record_pieces : (p : Part) (numbers : List ℕ) → p ≡ largest_of numbers
    → digits_of 2 (length numbers) ++ digits_of 2 p.a ++ digits_of 2 p.b ++ numbers_digits numbers ≡ record_digits numbers
unfolding record_digits
record_pieces p numbers e = rw e (simp append_assoc)

pub length_chain : (n position : ℕ) (numbers : List ℕ)
    → length (chain_digits n position numbers) ≡ 2 * (numbers_at + 2 * length numbers)
unfolding chain_digits
length_chain n position numbers = simp (length-append, length_head, length_record) (omega arith)

pub length_priced : (n position : ℕ) (numbers : List ℕ) (price : ℕ)
    → length (priced_digits n position numbers price) ≡ 2 * (numbers_at + 2 * length numbers + 4)
unfolding priced_digits
length_priced n position numbers price = simp (length-append, length_chain, length_digits) (omega arith)

pub length_letters : (letters : List ℕ) → length (letters_digits letters) ≡ 2 * (letters_at + length letters)
unfolding letters_digits
length_letters letters = simp (length-append, length_digits, length_values) (omega arith)

pub every_values : (p : ℕ → Bool) → ((k n : ℕ) → every p (digits_of k n) ≡ true) → (width : ℕ) (xs : List ℕ)
    → every p (values_digits width xs) ≡ true
unfolding values_digits every
every_values p h width [] = refl
every_values p h width (x ∷ xs) = simp (every_append, h, every_values p h width xs)

values_snoc : (width : ℕ) (xs : List ℕ) (x : ℕ)
    → values_digits width (xs ++ (x ∷ [])) ≡ values_digits width xs ++ digits_of (2 * width) x
unfolding values_digits
values_snoc width [] x = append-nil (digits_of (2 * width) x)
values_snoc width (y ∷ xs) x = rw (values_snoc width xs x, append_assoc)

pub values_more : (width : ℕ) (xs : List ℕ) (i : ℕ) → i < length xs
    → values_digits width (take (i + 1) xs) ≡ values_digits width (take i xs) ++ digits_of (2 * width) (get_or xs i 0)
values_more width xs i h = rw (add-one, take-suc xs i 0) (values_snoc width (take i xs) (get_or xs i 0))
