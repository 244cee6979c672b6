-- Part numbers: document 01, 'Parts and chains'. A part's number is its index in the part table, from 0.
-- Definitions only; the theory is in Numbers.
use Rattle.std.specs.Prelude.{Bool, true, false, cond, Option, Some, None, ◌&&◌, List, [], ◌∷◌, map, ℕ, zero, suc, ◌+◌, ◌^◌, ◌/◌, ◌%◌, ltb, eqb, get_or}
use Rattle.chains.specs.Chains.{Part, value}
use Rattle.chains.specs.Listing.{one_if}
use Rattle.parts.specs.Table.{parts}

-- Parts and numbers are below this.
abbrev pub limit : ℕ
limit = 2 ^ 64

-- ---- from a number to its part

-- How often q divides v, looking k times at most.
unfoldable pub times : ℕ → ℕ → ℕ → ℕ
times zero q v = 0
times (suc k) q v =
    let more = suc (times k q (v / q)) in
    elim (eqb (v % q) 0) [ true ↦ more | false ↦ 0 ]

-- The part of a number: the exponents of 2 and 3 in that entry of the table.
unfoldable pub part_at : ℕ → Part
part_at i = record { a = times 64 2 (get_or parts i 0); b = times 64 3 (get_or parts i 0) }

-- The answer of `exponents_at`: the part with a number; 0 and 0 where no part has it.
unfoldable pub exponents_at : ℕ → Part
exponents_at i = cond (ltb i 1344) (part_at i) (record { a = 0; b = 0 })

-- The largest part of a chain, which comes first. The empty chain has none, and a and b are 0.
unfoldable pub largest_part : List Part → Part
largest_part [] = record { a = 0; b = 0 }
largest_part (p ∷ c) = p

-- That of a record, by its part numbers.
unfoldable pub largest_of : List ℕ → Part
largest_of numbers = largest_part (map exponents_at numbers)

-- Whether two parts are the same: the test of `is_largest`.
unfoldable pub same_part : Part → Part → Bool
same_part p q = eqb p.a q.a && eqb p.b q.b

-- ---- from a part to its number

-- How many numbers of a list are smaller than v.
unfoldable pub smaller : ℕ → List ℕ → ℕ
smaller v [] = 0
smaller v (x ∷ xs) = one_if (ltb x v) + smaller v xs

-- A part's number: how many entries of the table are smaller.
unfoldable pub part_number : Part → ℕ
part_number p = smaller (value p) parts

-- The answer of `number_of`: the part's number, or none where 2^a × 3^b is 2^64 or more.
unfoldable pub number_of : Part → Option ℕ
number_of p = cond (ltb (value p) limit) (Some (part_number p)) None

-- ---- sums

-- The sum of the entries of a table that a list of numbers names.
unfoldable pub sum_at : List ℕ → List ℕ → ℕ
sum_at t [] = 0
sum_at t (i ∷ is) = get_or t i 0 + sum_at t is

-- The answer of `sum_of`: a number below 2^64, or that it is larger.
unfoldable pub sum_of : ℕ → Option ℕ
sum_of n = cond (ltb n limit) (Some n) None
