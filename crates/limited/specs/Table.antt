-- A table with a block of 130 numbers for each of the 1,344 points below 2^64: document 02, T-10. In a block the number of the free reader,
-- at the start and after b has risen, stands at k where k parts are still allowed, that of the reader after a has risen at 65 + k. The
-- blocks stand row by row: row b begins at block `start b` and has `width b` blocks, as many as there are points 2^a × 3^b below 2^64.
--
-- What the numbers of a block mean is a parameter, so the same laws serve counts and keys. A block is filled where something is left of
-- n, and there for fewer than `top` parts.
--
-- In this order: a block; a row; the rows in the memory. Definitions only; the laws are in TableLaws.
use Rattle.std.specs.Prelude.{◌≡◌, Bool, true, false, List, ℕ, zero, suc, ◌+◌, ◌-◌, ◌*◌, ◌^◌, ◌/◌, ◌%◌, ◌≤◌, ◌<◌, length, get_or, drop}
use Rattle.lent.specs.Lent.{OnlyFirst}
use Rattle.limited.specs.Services.{table_size}

-- ---- a block

-- What the numbers of a block mean: by the reader, as in `words_at`, and the parts allowed.
abbrev pub Block : Type 0
Block = Bool → ℕ → ℕ

-- The numbers for fewer than j parts of the block at the start of l are right.
pub record UpTo (g : Block) (j : ℕ) (l : List ℕ) : Type 0 where
  pub free : (k : ℕ) → k < j → get_or l k 0 ≡ g true k
  pub after_a : (k : ℕ) → k < j → get_or l (65 + k) 0 ≡ g false k

-- What filling a block is lent, for the rest m: it begins there. At a rest of 2 or more the block to the right stands at 130, and where b
-- can rise the block above at `up`. Both are right for fewer than `top` parts.
pub record BlockLent (right above : Block) (m up top : ℕ) (l : List ℕ) : Type 0 where
  pub room : 130 ≤ length l
  pub far : 130 ≤ up
  pub right_room : 2 ≤ m → 260 ≤ length l
  pub right_is : 2 ≤ m → UpTo right top (drop 130 l)
  pub above_room : 2 ≤ m → m % 3 ≤ 1 → up + 130 ≤ length l
  pub above_is : 2 ≤ m → m % 3 ≤ 1 → UpTo above top (drop up l)

-- It is filled for fewer than j parts, and what stands behind the block is as it was at entry.
pub record Filled (g : Block) (j : ℕ) (entry l : List ℕ) : Type 0 where
  pub below : UpTo g j l
  pub same : length l ≡ length entry
  pub later : drop 130 l ≡ drop 130 entry

-- ---- a row

-- What the blocks of a row mean: by column and rest.
abbrev pub Row : Type 0
Row = ℕ → ℕ → Block

-- The columns from j on of the row at the start of l are right wherever something is left; m is the rest of its first column.
pub record RowFrom (R : Row) (m top j : ℕ) (l : List ℕ) : Type 0 where
  pub at : (i : ℕ) → j ≤ i → 1 ≤ m / 2 ^ i → UpTo (R i (m / 2 ^ i)) top (drop (130 * i) l)

-- What filling a row is lent: it begins there, and the row above, which is right, at `up`.
pub record RowLent (above : Row) (m up top : ℕ) (l : List ℕ) : Type 0 where
  pub room : (i : ℕ) → 1 ≤ m / 2 ^ i → (130 * suc i ≤ length l) × (130 * suc i ≤ up)
  pub above_room : (i : ℕ) → 1 ≤ m / 3 / 2 ^ i → up + 130 * suc i ≤ length l
  pub above_is : RowFrom above (m / 3) top 0 (drop up l)

-- The columns from j on are filled, and from `up` on all is as it was at entry.
pub record RowFilled (R : Row) (m up top j : ℕ) (entry l : List ℕ) : Type 0 where
  pub row : RowFrom R m top j l
  pub same : length l ≡ length entry
  pub later : drop up l ≡ drop up entry

-- ---- the rows in the memory

-- How many points of row b are below 2^64: 3^b has 1623 b / 1024 binary digits after the first.
unfoldable pub width : ℕ → ℕ
width b = 64 - 1623 * b / 1024

-- How many blocks stand before row b.
unfoldable pub start : ℕ → ℕ
start zero = 0
start (suc b) = start b + width b

-- The rows of n from row b on are right, where `G b` says what row b means.
pub record RowsFrom (G : ℕ → Row) (n top b : ℕ) (l : List ℕ) : Type 0 where
  pub row : (i : ℕ) → b ≤ i → i < 41 → RowFrom (G i) (n / 3 ^ i) top 0 (drop (130 * start i) l)

-- They are filled, and what stands behind the table is as it was at entry.
pub record TableFilled (G : ℕ → Row) (n top b : ℕ) (entry l : List ℕ) : Type 0 where
  pub rows : RowsFrom G n top b l
  pub used : OnlyFirst table_size entry l
