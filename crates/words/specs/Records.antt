-- A burned record: part numbers, largest part first (document 01, 'Frames' and the refusals 8, 9, 10).
-- In order: its parts; what a record must be in 003's terms; the tests, and what a record gets by them. Definitions only: that it
-- gets its sum exactly if it is what it must be is in RecordLaws, which refusal it gets when is in Refusals.
use Rattle.std.specs.Prelude.{Result, Ok, Err, Bool, true, false, cond, ◌&&◌, ◌||◌, not, List, [], ◌∷◌, map, ℕ, ◌%◌, ◌^◌, ◌≤◌, ◌<◌, ltb, leb, eqb, length, get_or}
use Rattle.chains.specs.Chains.{Part, value, total, ChainOf}
use Rattle.refusals.specs.declared.Refusal.{Refusal}
use Rattle.refusals.specs.declared.Refusal.TheVariants.{UnknownPart, NotChained, TooLarge}
use Rattle.parts.specs.Parts.{part_at, limit}

-- The parts of a record.
unfoldable pub record_parts : List ℕ → List Part
record_parts numbers = map part_at numbers

-- ---- what it must be

-- Every number of a record is in the part table.
unfoldable pub InTable : List ℕ → Type 0
InTable l = (i : ℕ) → i < length l → get_or l i 0 < 1344

-- At most 64 numbers, all in the table, whose parts are a chain of n, a number below 2^64.
pub record Burned (l : List ℕ) (n : ℕ) : Type 0 where
  pub few : length l ≤ 64
  pub known : InTable l
  pub chain : ChainOf n (record_parts l)
  pub fits : n < 2 ^ 64

-- ---- what it gets

-- Some number is 1,344 or more.
unfoldable pub beyond : List ℕ → Bool
beyond [] = false
beyond (i ∷ is) = leb 1344 i || beyond is

-- The test of 003's chain condition: each part is a proper multiple of the next. RecordLaws says that it is `Chained`.
unfoldable pub chained_test : List Part → Bool
chained_test [] = true
chained_test (p ∷ []) = true
chained_test (p ∷ q ∷ c) = (ltb (value q) (value p) && eqb (value p % value q) 0) && chained_test (q ∷ c)

-- What a record gets: 8 for a number of 1,344 or more or above 64 parts, 9 for a part that is no proper multiple of the next, 10
-- for a sum of 2^64 or more, each looked for in the whole record before the next; else the sum.
unfoldable pub judged_of : List ℕ → Result ℕ Refusal
judged_of l =
    cond (ltb 64 (length l) || beyond l) (Err UnknownPart)
    (cond (not (chained_test (record_parts l))) (Err NotChained)
    (cond (leb limit (total (record_parts l))) (Err TooLarge)
    (Ok (total (record_parts l)))))
