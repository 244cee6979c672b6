-- The walk from a position to its word: what its steps ask, tell and keep. Only private functions cite these definitions, but for
-- `word_at`.
-- Definitions only. The laws are in ForwardLaws.
use Rattle.std.specs.Prelude.{◌≡◌, ℕ, ◌+◌, ◌/◌, ◌^◌, ◌<◌, ◌≤◌, Bool, false, List, [], take, drop, slice_index_or}
use Rattle.chains.specs.Words.{Word}
use Rattle.chains.specs.Listing.{words_at, list_of, count, ways, one_if}
use Rattle.words.specs.Packed.{bits, rise, mark}
use Rattle.grid.specs.Grid.{rest_at}
use Rattle.counting.specs.Table.{CountRows}

-- The word at the position i of the list of n.
abbrev pub word_at : ℕ → ℕ → Word
word_at n i = slice_index_or (list_of n) i []

-- The walk along that word has passed `at` letters; `rest` is left of n, and the letters from there on are the word at the position
-- `left` of the list at that rest, which has `total` words.
pub record Walked (n i at free rest total left : ℕ) : Type 0 where
  pub a : ℕ
  pub b : ℕ
  pub index : a + b ≡ at
  pub here : rest ≡ rest_at n a b
  pub some : 1 ≤ rest
  pub reader : Bool
  pub told : free ≡ one_if reader
  pub number : total ≡ ways reader rest
  pub within : left < total
  pub follows : drop at (word_at n i) ≡ slice_index_or (words_at reader rest) left []

-- The same, with the letters passed in two numbers.
pub record Passed (n i at free rest total left rises marks : ℕ) : Type 0 where
  pub walked : Walked n i at free rest total left
  pub rising : rises ≡ bits rise (take at (word_at n i))
  pub marking : marks ≡ bits mark (take at (word_at n i))
  pub rises_low : rises < 2 ^ at
  pub marks_low : marks < 2 ^ at

-- The rows 1 to 6 of m stand in the scratch, and the walk stands at their point (a, b), or has just left them.
pub record RowsFor (m a b rest : ℕ) (scratch : List ℕ) : Type 0 where
  pub rows : CountRows m 1 scratch
  pub near : rest ≡ rest_at m a b
  pub low : b ≤ 6
  pub small : m < 2 ^ 64

-- What a step asks: a letter after the next is left, and the rows are there.
pub record Ready (n i at m a b free rest total left rises marks : ℕ) (scratch : List ℕ) : Type 0 where
  pub passed : Passed n i at free rest total left rises marks
  pub rows : RowsFor m a b rest scratch
  pub inside : b < 6
  pub more : 2 ≤ rest

-- What the number of words with a rise of b asks,
pub record RaisedAsked (m a b free rest : ℕ) (scratch : List ℕ) : Type 0 where
  pub rows : RowsFor m a b rest scratch
  pub inside : b < 6
  pub more : 2 ≤ rest
  pub flag : free ≤ 1

-- and what it is: the other words begin with a rise of a.
pub record RaisedTold (free rest r : ℕ) : Type 0 where
  pub both : (g : Bool) → free ≡ one_if g → ways g rest ≡ ways false (rest / 2) + r

-- New rows leave the walk where it stands.
pub record SameWalk (free rest total left rises marks free' rest' total' left' rises' marks' : ℕ) : Type 0 where
  pub free_is : free' ≡ free
  pub rest_is : rest' ≡ rest
  pub total_is : total' ≡ total
  pub left_is : left' ≡ left
  pub rises_is : rises' ≡ rises
  pub marks_is : marks' ≡ marks

-- What the walk starts from: the rows of n, its count k, and a position of the list.
pub record Start (n k i : ℕ) (scratch : List ℕ) : Type 0 where
  pub rows : CountRows n 0 scratch
  pub number : k ≡ count n
  pub within : i < count n

-- What it finds.
pub record Found (n i rises marks : ℕ) : Type 0 where
  pub rising : rises ≡ bits rise (word_at n i)
  pub marking : marks ≡ bits mark (word_at n i)
