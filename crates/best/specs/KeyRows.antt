-- What the calls that fill the rows of keys ask and leave. Each row is filled over the one above it, and its turns are told in one
-- number.
--
-- In this order: a run of cells with no word; the columns of a row below one that is filled; the row step; the rows in the scratch.
-- Definitions only; the laws are in KeyRowsLaws.
use Rattle.std.specs.Prelude.{◌≡◌, ℕ, suc, ◌+◌, ◌-◌, ◌/◌, ◌%◌, ◌^◌, ◌<◌, ◌≤◌, true, false, List, length, drop, slice_index}
use Rattle.lent.specs.Lent.{scratch_size, OnlyFirst}
use Rattle.grid.specs.Grid.{RowFrom, RowAsked, RowFilled, RowsFrom}
use Rattle.best.specs.declared.keys.Row.{Row}
use Rattle.best.specs.KeyTable.{no_key, key_cell, Uncut, free_key, turn_at, Turns}

-- ---- a run with no word

-- No word from `from` up to but without `end`; what stands before these and behind the row is as it was.
pub record NoKeys (from end : ℕ) (entry l : List ℕ) : Type 0 where
  pub keys : (i : ℕ) → from ≤ i → i < end → slice_index l i ≡ no_key
  pub before : (i : ℕ) → i < from → slice_index l i ≡ slice_index entry i
  pub same : length l ≡ length entry
  pub later : drop 64 l ≡ drop 64 entry

-- ---- the columns below one that is filled

-- What filling the columns below `start` asks: those from `start` on are filled, those below still hold the row above, `right`
-- stands for the key of the reader after a has risen in column `start`, and the rest there is at least 1.
pub record BelowAsked (costs : List ℕ) (A B b m q start right : ℕ) (part : List ℕ) : Type 0 where
  pub third : q ≡ m / 3
  pub room : 64 ≤ length part
  pub above : (i : ℕ) → i < start → 1 ≤ q / 2 ^ i → free_key costs A B i (suc b) (q / 2 ^ i) (slice_index part i)
  pub last : start < 64
  pub left : 2 ^ start ≤ m
  pub filled : RowFrom (free_key costs A B) b m start part
  pub first : Uncut (key_cell costs A B start b false (m / 2 ^ start)) start right

-- The columns from k on are filled, `after` stands for the key of the reader after a has risen in column k, and `turns` has the
-- turns from there on.
pub record Below (costs : List ℕ) (A B b m start : ℕ) (entry part : List ℕ) (k after turns : ℕ) : Type 0 where
  pub filled : RowFilled (free_key costs A B) b m k entry part
  pub ahead : (i : ℕ) → i < k → slice_index part i ≡ slice_index entry i
  pub number : Uncut (key_cell costs A B k b false (m / 2 ^ k)) k after
  pub within : k ≤ start
  pub turned : (i : ℕ) → k ≤ i → i < start → key_cell costs A B i b true (m / 2 ^ i) < no_key
      → turns / 2 ^ (i - k) % 2 ≡ turn_at costs A B i b (m / 2 ^ i)
  pub few : turns < 2 ^ (start - k)

-- All of them are.
pub record BelowFilled (costs : List ℕ) (A B b m start : ℕ) (entry part : List ℕ) (turns : ℕ) : Type 0 where
  pub filled : RowFilled (free_key costs A B) b m 0 entry part
  pub turned : (i : ℕ) → i < start → key_cell costs A B i b true (m / 2 ^ i) < no_key
      → turns / 2 ^ i % 2 ≡ turn_at costs A B i b (m / 2 ^ i)

-- ---- the row step

-- Row b in the scratch: the rest of its first column, and that of the row above.
abbrev pub row_of : List ℕ → ℕ → Row
row_of l b = record { b = b; m = slice_index l (448 + b); q = slice_index l (449 + b) }

-- What it asks.
abbrev pub RowOfKeys : List ℕ → ℕ → ℕ → ℕ → ℕ → ℕ → List ℕ → Type 0
RowOfKeys costs A B b m q part = RowAsked (free_key costs A B) b m q 0 part

-- The same of a row within the limit on triplings, where the rest of the column `top` is 1.
pub record LiveRow (costs : List ℕ) (A B b m q top : ℕ) (part : List ℕ) : Type 0 where
  pub asked : RowAsked (free_key costs A B) b m q 0 part
  pub lo : 2 ^ top ≤ m
  pub hi : m < 2 ^ suc top
  pub last : top < 64
  pub within : b ≤ B

-- What it leaves: the row, and its turns.
pub record RowTold (costs : List ℕ) (A B b m : ℕ) (entry part : List ℕ) (turns : ℕ) : Type 0 where
  pub filled : RowFilled (free_key costs A B) b m 0 entry part
  pub told : Turns costs A B b m turns

-- ---- the rows in the scratch

-- The rows of n are filled down to row k, and their turns are told: those of row b stand at 128 + b.
pub record KeysFrom (costs : List ℕ) (A B n k : ℕ) (l : List ℕ) : Type 0 where
  pub rows : RowsFrom 64 0 (free_key costs A B) n k l
  pub turns : (b : ℕ) → k ≤ b → b < 41 → Turns costs A B b (n / 3 ^ b) (slice_index l (128 + b))

-- The same, and what stands behind the scratch is as it was at entry.
pub record KeysFilled (costs : List ℕ) (A B n k : ℕ) (entry l : List ℕ) : Type 0 where
  pub keys : KeysFrom costs A B n k l
  pub used : OnlyFirst scratch_size entry l

-- What row k asks.
pub record KeysAsked (costs : List ℕ) (A B n k : ℕ) (l : List ℕ) : Type 0 where
  pub keys : KeysFrom costs A B n (suc k) l
  pub last : k < 41
