-- The scratch of 512 numbers (document 02, T-03): eight blocks of 64.
--
-- A table over the points (a, b) with a below 64 and b below 41 has one number a point: that of the free reader, at the start and
-- after b has risen. A row is one block, with column a at a. The rows below `keep` have blocks of their own, from `first` on. Row
-- `keep` and those above it take turns in the block behind these: each is filled over the row above it. The last block has the rests
-- of the rows' first columns.
--
-- What a number means is a relation of its point, its rest and the number.
-- Definitions only: rests; rows that are right; what a row step asks and leaves; the rows in the scratch. The laws by which rows are
-- filled and read are in Fill, those of rests in Rests, those of their remainders by three in MaskLaws.
use Rattle.std.specs.Prelude.{◌≡◌, cond, List, [], ◌∷◌, ℕ, zero, suc, ◌+◌, ◌*◌, ◌^◌, ◌/◌, ◌≤◌, ◌<◌, min, max, eqb, length, get_or, drop}
use Rattle.lent.specs.Lent.{scratch_size, OnlyFirst}

-- The rest at the point (a, b) of the table of n.
abbrev pub rest_at : ℕ → ℕ → ℕ → ℕ
rest_at n a b = n / 3 ^ b / 2 ^ a

-- The rests of the first columns of k rows, the first of which has the rest m,
unfoldable pub rests_of : ℕ → ℕ → List ℕ
rests_of m zero = []
rests_of m (suc k) = m ∷ rests_of (m / 3) k

-- and in how many of these rows something is left.
unfoldable pub live_rows : ℕ → ℕ → ℕ
live_rows m zero = 0
live_rows m (suc k) = cond (eqb m 0) 0 (suc (live_rows (m / 3) k))

-- Whether a number is right: of a, b, the rest and the number.
abbrev pub Meaning : Type 1
Meaning = ℕ → ℕ → ℕ → ℕ → Type 0

-- The columns from j on of row b, at the start of l, are right wherever something is left, where m is the rest of the row's first
-- column. Cells whose rest is 0 are unspecified: no walk comes there, and where filling reads one, above a rest of 2, no number
-- depends on it.
pub record RowFrom (G : Meaning) (b m j : ℕ) (l : List ℕ) : Type 0 where
  pub cell : (i : ℕ) → j ≤ i → i < 64 → 1 ≤ m / 2 ^ i → G i b (m / 2 ^ i) (get_or l i 0)

-- Row b, whole.
abbrev pub Row : Meaning → ℕ → ℕ → List ℕ → Type 0
Row G b m l = RowFrom G b m 0 l

-- ---- filling a row

-- What a row step is lent: the part of the scratch that begins at its row, with the row above, which is right, at `up`. At 0 the row
-- is filled over the row above. q is the rest of that row's first column.
pub record RowAsked (G : Meaning) (b m q up : ℕ) (part : List ℕ) : Type 0 where
  pub third : q ≡ m / 3
  pub room : up + 64 ≤ length part
  pub apart : 0 < up → 64 ≤ up
  pub above : Row G (suc b) q (drop up part)

-- The columns from j on are filled, and what stands behind the row is as it was at entry.
pub record RowFilled (G : Meaning) (b m j : ℕ) (entry part : List ℕ) : Type 0 where
  pub row : RowFrom G b m j part
  pub same : length part ≡ length entry
  pub later : drop 64 part ≡ drop 64 entry

-- While it is filled from its last column down, the columns below k of the row above are as they were at entry.
pub record Ahead (up k : ℕ) (entry part : List ℕ) : Type 0 where
  pub unread : (i : ℕ) → i < k → get_or part (up + i) 0 ≡ get_or entry (up + i) 0

-- ---- the rows in the scratch

-- Where row b begins.
abbrev pub row_place : ℕ → ℕ → ℕ → ℕ
row_place first keep b = first + 64 * min b keep

-- Where the rests begin. There are 42: row 40 is the last, and its step asks for the rest of the row above it.
abbrev pub rests_place : ℕ
rests_place = 448

-- The rows of n are filled from the last one down to row k. Row k is there, and above it those up to row `keep`.
pub record RowsFrom (first keep : ℕ) (G : Meaning) (n k : ℕ) (l : List ℕ) : Type 0 where
  pub size : scratch_size ≤ length l
  pub rests : (j : ℕ) → j < 42 → get_or l (rests_place + j) 0 ≡ n / 3 ^ j
  pub row : (j : ℕ) → k ≤ j → j ≤ max k keep → Row G j (n / 3 ^ j) (drop (row_place first keep j) l)

-- The same, and what stands behind the scratch is as it was at entry.
pub record RowsFilled (first keep : ℕ) (G : Meaning) (n k : ℕ) (entry l : List ℕ) : Type 0 where
  pub rows : RowsFrom first keep G n k l
  pub used : OnlyFirst scratch_size entry l
