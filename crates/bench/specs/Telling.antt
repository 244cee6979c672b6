-- What `tell_rows` may be lent and what it tells; the parts of rows.
-- Definitions only. The laws are in TellingLaws.
use Rattle.std.specs.Prelude.{◌≡◌, cond, List, [], ◌∷◌, ◌++◌, map, ℕ, zero, suc, ◌≤◌, ◌<◌, ◌-◌, ◌^◌, leb, get_or, length, take}
use Rattle.chains.specs.Chains.{Part, Chained, total}
use Rattle.lent.specs.Lent.{zeros, filled}
use Rattle.moves.specs.Rows.{rows_of, Rows}
use Rattle.parts.specs.Parts.{part_number}

-- ---- what it may be lent

-- The rows of a chain of a number below 2^64, and at least 64 places, of which the first 64 are zero.
pub record Tellable (rows places : List ℕ) : Type 0 where
  pub chain : List Part
  pub chained : Chained chain
  pub fits : total chain < 2 ^ 64
  pub is : rows ≡ rows_of 41 chain
  pub room : 64 ≤ length places
  pub clear : take 64 places ≡ zeros 64

-- ---- what it tells

-- The number of parts, and the numbers of the parts, largest part first, in the first 64 places.
pub record ToldRows (c : List Part) (told : ℕ) (entry exit : List ℕ) : Type 0 where
  pub count : told ≡ length c
  pub numbers : exit ≡ filled 64 (map part_number c) entry

-- ---- the parts of a row and of rows

-- The parts of row b, largest first, of which x has a 1 for each; those with a below k.
unfoldable pub row_parts : ℕ → ℕ → ℕ → List Part
row_parts zero b x = []
row_parts (suc k) b x =
    let with : List Part = record { a = k; b = b } ∷ row_parts k b (x - 2 ^ k) in
    let without : List Part = row_parts k b x in
    cond (leb (2 ^ k) x) with without

-- The parts of the rows below k, largest first.
unfoldable pub parts_below : ℕ → Rows → List Part
parts_below zero l = []
parts_below (suc k) l = row_parts 64 k (get_or l k 0) ++ parts_below k l

-- The numbers of the parts of a row.
abbrev pub row_numbers : ℕ → ℕ → List ℕ
row_numbers b x = map part_number (row_parts 64 b x)
