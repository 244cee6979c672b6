-- A line before it is served: its fields and items, which lines are refused by their shape, and what reading the items of a line
-- gives. Document 01, 'Frames' and 'What a refused line or call gets'. A line is a list of characters, without its byte 10.
-- Definitions only.
use Rattle.std.specs.Prelude.{◌≡◌, Bool, true, cond, Option, Some, None, Result, Ok, Err, ◌||◌, List, [], ◌∷◌, ◌++◌, ℕ, zero, suc, ◌+◌, ◌*◌, ◌%◌, ◌≤◌, ◌<◌, eqb, ltb, length, take, drop}
use Rattle.digits.specs.Digits.{all_digits, number_of}
use Rattle.refusals.specs.Refusals.{number_of as refusal_number}
use Rattle.refusals.specs.declared.Refusal.{Refusal}
use Rattle.refusals.specs.declared.Refusal.TheVariants.{LittleLent, BadLength, NoDigit, UnknownKind}
use Rattle.lines.specs.Kinds.{Kind, row_of, kind_of}

-- ---- fields of a line: two digits a byte

-- The value of k bytes from byte `at` on, highest first.
unfoldable pub field : List ℕ → ℕ → ℕ → ℕ
field line at k = number_of (take (2 * k) (drop (2 * at) line))

-- k values of `width` bytes each, from byte `at` on.
unfoldable pub fields : List ℕ → ℕ → ℕ → ℕ → List ℕ
fields line at width zero = []
fields line at width (suc k) = field line at width ∷ fields line (at + width) width k

-- ---- a line of a kind

-- How many items it says it has.
unfoldable pub count_in : Kind → List ℕ → ℕ
count_in k line = field line (row_of k).count_at 1

-- How many bytes it must have.
unfoldable pub bytes_in : Kind → List ℕ → ℕ
bytes_in k line = (row_of k).before + (row_of k).width * count_in k line

-- Its items: as many as it says.
unfoldable pub items_in : Kind → List ℕ → List ℕ
items_in k line = fields line (row_of k).before (row_of k).width (count_in k line)

-- ---- which lines are refused before they are served

-- No characters, an odd number or above 514.
unfoldable pub bad_length : ℕ → Bool
bad_length n = eqb n 0 || (eqb (n % 2) 1 || ltb 514 n)

-- A line of a kind, by its length.
unfoldable pub shape_of_kind : List ℕ → Option Kind → Result Kind Refusal
shape_of_kind line None = Err UnknownKind
shape_of_kind line (Some k) = cond (eqb (length line) (2 * bytes_in k line)) (Ok k) (Err BadLength)

-- The shape of a line: its kind, or its refusal. In document 01's order: the line's length in general, its characters, its kind, the
-- length of its kind.
unfoldable pub shape_of : List ℕ → Result Kind Refusal
shape_of line =
    cond (bad_length (length line)) (Err BadLength)
    (cond (all_digits line) (shape_of_kind line (kind_of (field line 0 1))) (Err NoDigit))

-- The same in numbers: the byte of the kind, or the number of the refusal.
unfoldable pub shape_code : Result Kind Refusal → Result ℕ ℕ
shape_code (Err r) = Err (refusal_number r)
shape_code (Ok k) = Ok (row_of k).byte

-- A length that is not refused in general: some characters, an even number, at most 514.
pub record Proper (n : ℕ) : Type 0 where
  pub some_there : 0 < n
  pub even : n % 2 ≡ 0
  pub most : n ≤ 514

-- A line that is fit, of a kind.
pub record Fit (line : List ℕ) (k : Kind) : Type 0 where
  pub proper : Proper (length line)
  pub digits : all_digits line ≡ true
  pub kind : kind_of (field line 0 1) ≡ Some k
  pub long : length line ≡ 2 * bytes_in k line

-- ---- reading the items of a line

-- Items of `width` bytes in a line of a kind: there is no such kind where the kind has no such items, and the length is bad where the
-- line is shorter than its kind.
unfoldable pub items_of_kind : ℕ → List ℕ → Option Kind → Result (List ℕ) Refusal
items_of_kind width line None = Err UnknownKind
items_of_kind width line (Some k) =
    cond (eqb (row_of k).width width)
    (cond (ltb (length line) (2 * bytes_in k line)) (Err BadLength) (Ok (items_in k line)))
    (Err UnknownKind)

-- They are read into 255 places or more, as many as a count can ask for; fewer are refused first.
unfoldable pub read_items : ℕ → List ℕ → ℕ → Result (List ℕ) Refusal
read_items width line places = cond (ltb places 255) (Err LittleLent) (items_of_kind width line (kind_of (field line 0 1)))

-- How many there are, or the refusal.
unfoldable pub items_count : Result (List ℕ) Refusal → Result ℕ Refusal
items_count (Err r) = Err r
items_count (Ok xs) = Ok (length xs)

-- The places at exit: the items, and later places as they were; all as they were where the items are not read.
unfoldable pub items_left : Result (List ℕ) Refusal → List ℕ → List ℕ
items_left (Err r) entry = entry
items_left (Ok xs) entry = xs ++ drop (length xs) entry
