-- The table of counts. A cell holds how many words the free reader can go on with at its rest.
-- Definitions only: the meaning of a cell, the rows in the scratch, and what the live columns of a row ask. The laws are in CellLaws.
use Rattle.std.specs.Prelude.{◌≡◌, ℕ, ◌/◌, ◌^◌, ◌<◌, true, List}
use Rattle.chains.specs.Listing.{ways}
use Rattle.grid.specs.Grid.{Meaning, RowFrom, RowAsked, RowsFrom, RowsFilled}

-- The point itself makes no difference.
abbrev pub count_cell : Meaning
count_cell a b m x = x ≡ ways true m

-- The rows of n from row k on stand in the scratch: rows 0 to 5 in blocks of their own, from the start of the scratch on.
abbrev pub CountRows : ℕ → ℕ → List ℕ → Type 0
CountRows n k l = RowsFrom 0 6 count_cell n k l

-- The same, and what stands behind the scratch is as it was at entry.
abbrev pub CountsFilled : ℕ → ℕ → List ℕ → List ℕ → Type 0
CountsFilled n k entry l = RowsFilled 0 6 count_cell n k entry l

-- What the columns below `top` of row b ask: the part, in which the columns from `top` on are filled; the rest at `top` is 1.
pub record LiveAsked (b m q up top : ℕ) (part : List ℕ) : Type 0 where
  pub asked : RowAsked count_cell b m q up part
  pub last : top < 64
  pub at_top : m / 2 ^ top ≡ 1
  pub filled : RowFrom count_cell b m top part
