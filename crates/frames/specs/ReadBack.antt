-- Digits that were written, read back as the fields of a line: what a person or a program finds in a reply.
--
-- In this order: a field after others, and the first one; values one after the other; a single number, a record, a chain, a chain
-- with its price, and letters.
use Rattle.std.specs.Prelude.{◌≡◌, refl, ℕ, zero, suc, ◌+◌, ◌*◌, ◌^◌, ◌≤◌, ◌<◌, drop, get_or}
use Rattle.std.proofs.Common.{sym, ap, ◌∙◌, add-zero, add_assoc, mul-add, mod-eq_of_lt, length-append, length-drop, take_at}
use mathlib.Core.List.{List, [], ◌∷◌, ◌++◌, append-nil, append_assoc}
use native.Mathlib.Omega.{arith}
use Rattle.std.proofs.Math.ListN.{length}
use Rattle.std.proofs.lemmas.List.{take-append-le, drop-append-le}
use Rattle.std.proofs.Math.Seq.{drop-append-add}
use Rattle.parts.specs.Parts.{largest_of}
use Rattle.parts.proofs.Largest.{largest_small}
use Rattle.digits.specs.Digits.{digits_of}
use Rattle.digits.proofs.DigitLaws.{length_digits, number_digits}
use Rattle.lines.specs.Lines.{field, fields}
use Rattle.frames.specs.ReplyDigits.{single_digits, values_digits, numbers_digits, largest_digits, record_digits, head_digits}
use Rattle.frames.specs.ReplyDigits.{position_at, record_at, largest_at, numbers_at, chain_digits, priced_digits, letters_digits}
use Rattle.frames.specs.ReplyDigits.{letters_count_at, letters_at}
use Rattle.frames.specs.ReplyDigitLaws.{length_head, length_chain}

-- ---- one field

-- The first a bytes are passed over.
pub field_after : (a at k : ℕ) (xs l : List ℕ) → length xs ≡ 2 * a → field (xs ++ l) (a + at) k ≡ field l at k
unfolding field
field_after a at k xs l e = rw (mul-add 2 a at, ← e, drop-append-add xs l (2 * at))

-- What follows the field is left out.
pub field_within : (line more : List ℕ) (at k : ℕ) → 2 * at + 2 * k ≤ length line → field (line ++ more) at k ≡ field line at k
unfolding field
field_within line more at k h =
    rw (
      drop-append-le (2 * at) line more (omega arith),
      take-append-le (2 * k) (drop (2 * at) line) more (rw length-drop (omega arith)),
    )

-- A value of k bytes that fits.
pub field_first : (k n : ℕ) (l : List ℕ) → n < 16 ^ (2 * k) → field (digits_of (2 * k) n ++ l) 0 k ≡ n
unfolding field
field_first k n l h =
    rw (take_at (digits_of (2 * k) n) l (2 * k) (length_digits (2 * k) n)) (number_digits (2 * k) n ∙ mod-eq_of_lt h)

-- ---- values one after the other

-- Every value fits into `width` bytes.
abbrev pub Fitting : ℕ → List ℕ → Type 0
Fitting width xs = (i : ℕ) → i < length xs → get_or xs i 0 < 16 ^ (2 * width)

pub fields_after : (a at width k : ℕ) (xs l : List ℕ) → length xs ≡ 2 * a → fields (xs ++ l) (a + at) width k ≡ fields l at width k
unfolding fields
fields_after a at width zero xs l e = refl
fields_after a at width (suc k) xs l e =
    rw (field_after a at width xs l e, add_assoc, fields_after a (at + width) width k xs l e)

pub fields_first : (width : ℕ) (xs l : List ℕ) → Fitting width xs → fields (values_digits width xs ++ l) 0 width (length xs) ≡ xs
unfolding fields values_digits
fields_first width [] l h = refl
fields_first width (x ∷ xs) l h =
    let d = digits_of (2 * width) x in
    let rest = values_digits width xs ++ l in
    let z : 0 + width ≡ width + 0 = omega arith in
    ap (λ (ys : List ℕ). fields ys 0 width (suc (length xs))) (append_assoc d (values_digits width xs) l)
    ∙ rw (
      field_first width x rest (h 0 (omega arith)),
      z,
      fields_after width 0 width (length xs) d rest
          (length_digits (2 * width) x),
    )
    (ap (λ (ys : List ℕ). x ∷ ys) (fields_first width xs l (λ i g. h (suc i) (omega arith))))

-- ---- replies

pub single_read : (x : ℕ) → x < 2 ^ 64 → (field (single_digits x) 0 1 ≡ 0) × (field (single_digits x) 1 8 ≡ x)
unfolding single_digits
single_read x h = (
  field_first 1 0 (digits_of 16 x) (omega arith),
  rw (← append-nil (digits_of 16 x))
      (field_after 1 0 8 (digits_of 2 0) (digits_of 16 x ++ []) (length_digits 2 0) ∙ field_first 8 x [] (omega arith)),
)

-- What a record's digits are read back as, where they stand first and `rest` after them: how many parts it has, a and b of the
-- largest, their numbers.
module _ (numbers rest : List ℕ) (few : length numbers ≤ 255) where
  count_read : field (record_digits numbers ++ rest) 0 1 ≡ length numbers
  unfolding record_digits
  count_read = rw append_assoc (field_first 1 (length numbers) _ (omega arith))

  pub a_read : field (record_digits numbers ++ rest) 1 1 ≡ (largest_of numbers).a
  unfolding record_digits
  a_read =
      let small = largest_small numbers in
      rw append_assoc
      (field_after 1 0 1 (digits_of 2 (length numbers)) _ (length_digits 2 (length numbers))
      ∙ simp append_assoc (field_first 1 (largest_of numbers).a _ (omega arith)))

  pub b_read : field (record_digits numbers ++ rest) 2 1 ≡ (largest_of numbers).b
  unfolding record_digits
  b_read =
      let small = largest_small numbers in
      let a = digits_of 2 (largest_of numbers).a in
      rw append_assoc
      (field_after 1 1 1 (digits_of 2 (length numbers)) _ (length_digits 2 (length numbers))
      ∙ simp append_assoc (field_after 1 0 1 a _ (length_digits 2 (largest_of numbers).a) ∙ field_first 1 (largest_of numbers).b _ (omega arith)))

  numbers_read : Fitting 2 numbers → fields (record_digits numbers ++ rest) 3 2 (length numbers) ≡ numbers
  unfolding record_digits
  numbers_read fit =
      let head = digits_of 2 (length numbers) ++ largest_digits numbers in
      let long : length head ≡ 2 * 3 = simp (length-append, length_digits) in
      let whole : record_digits numbers ++ rest ≡ head ++ (numbers_digits numbers ++ rest) = simp append_assoc in
      rw whole (fields_after 3 0 2 (length numbers) head (numbers_digits numbers ++ rest) long ∙ fields_first 2 numbers rest fit)

-- What a chain's digits are read back as: 00, n, its position, and its record.
pub record ChainRead (n position : ℕ) (numbers ds : List ℕ) : Type 0 where
  pub zero_first : field ds 0 1 ≡ 0
  pub number : field ds 1 8 ≡ n
  pub position_read : field ds position_at 8 ≡ position
  pub parts : field ds record_at 1 ≡ length numbers
  pub largest_a : field ds largest_at 1 ≡ (largest_of numbers).a
  pub largest_b : field ds (largest_at + 1) 1 ≡ (largest_of numbers).b
  pub each : fields ds numbers_at 2 (length numbers) ≡ numbers

module _ (n position : ℕ) (numbers rest : List ℕ) (f : n < 2 ^ 64) (g : position < 2 ^ 64) (few : length numbers ≤ 64)
    (fit : Fitting 2 numbers) where
  pub chain_read : ChainRead n position numbers (chain_digits n position numbers ++ rest)
  unfolding chain_digits head_digits
  chain_read =
      let ds = chain_digits n position numbers ++ rest in
      let a = digits_of 2 0 in
      let b = digits_of 16 n in
      let c = digits_of 16 position in
      let after = record_digits numbers ++ rest in
      let whole : ds ≡ a ++ (b ++ (c ++ after)) = simp append_assoc in
      let after_a : (at k : ℕ) → field ds (1 + at) k ≡ field (b ++ (c ++ after)) at k =
      λ at k. rw whole (field_after 1 at k a (b ++ (c ++ after)) (length_digits 2 0)) in
      let in_record : (at k : ℕ) → field ds (record_at + at) k ≡ field after at k =
      λ at k. rw append_assoc (field_after record_at at k (head_digits n position) after (length_head n position)) in
      let most : length numbers ≤ 255 = omega arith in
      record {
        zero_first = rw whole (field_first 1 0 (b ++ (c ++ after)) (omega arith));
        number = after_a 0 8 ∙ field_first 8 n (c ++ after) (omega arith);
        position_read = after_a 8 8 ∙ field_after 8 0 8 b (c ++ after) (length_digits 16 n) ∙ field_first 8 position after (omega arith);
        parts = in_record 0 1 ∙ count_read numbers rest most;
        largest_a = in_record 1 1 ∙ a_read numbers rest most;
        largest_b = in_record 2 1 ∙ b_read numbers rest most;
        each = rw append_assoc (fields_after record_at 3 2 (length numbers) (head_digits n position) after (length_head n position))
            ∙ numbers_read numbers rest most fit;
      }

-- The price follows the last part number.
pub price_read : (n position : ℕ) (numbers : List ℕ) (price : ℕ) → price < 2 ^ 32
    → field (priced_digits n position numbers price) (numbers_at + 2 * length numbers) 4 ≡ price
unfolding priced_digits
price_read n position numbers price h =
    let at = numbers_at + 2 * length numbers in
    let ds = chain_digits n position numbers in
    let long : length ds ≡ 2 * at = length_chain n position numbers in
    rw (← append-nil (digits_of 8 price), ← add-zero at)
    (field_after at 0 4 ds (digits_of 8 price ++ []) long ∙ field_first 4 price [] (omega arith))

-- What the digits of letters are read back as: 00, how many letters there are, the letters.
pub record LettersRead (letters ds : List ℕ) : Type 0 where
  pub zero_first : field ds 0 1 ≡ 0
  pub count : field ds letters_count_at 1 ≡ length letters
  pub each : fields ds letters_at 1 (length letters) ≡ letters

pub letters_read : (letters : List ℕ) → length letters ≤ 255 → Fitting 1 letters → LettersRead letters (letters_digits letters)
unfolding letters_digits
letters_read letters few fit =
    let a = digits_of 2 0 in
    let b = digits_of 2 (length letters) in
    let c = values_digits 1 letters in
    let head : length (a ++ b) ≡ 2 * letters_at = simp (length-append, length_digits) in
    record {
      zero_first = rw append_assoc (field_first 1 0 (b ++ c) (omega arith));
      count = rw append_assoc (field_after 1 0 1 a (b ++ c) (length_digits 2 0) ∙ field_first 1 (length letters) c (omega arith));
      each = fields_after letters_at 0 1 (length letters) (a ++ b) c head
          ∙ ap (λ (l : List ℕ). fields l 0 1 (length letters)) (sym (append-nil c))
          ∙ fields_first 1 letters [] fit;
    }
