-- The walk back from a word to its position: what its steps ask, tell and keep. Only private functions cite these definitions.
-- Definitions only. The laws are in BackLaws.
use Rattle.std.specs.Prelude.{◌≡◌, ℕ, zero, suc, ◌+◌, ◌-◌, ◌*◌, ◌/◌, ◌^◌, ◌<◌, ◌≤◌, Bool, false, List, length, take, drop, count_ones, slice_index}
use mathlib.Core.List.{Memᴰ}
use Rattle.chains.specs.Words.{Word}
use Rattle.chains.specs.Listing.{words_at, list_of, count_before, ways}
use Rattle.words.specs.Packed.{bits, rise}
use Rattle.grid.specs.Grid.{rest_at}
use Rattle.counting.specs.Table.{CountRows, CountsFilled}

-- The highest bit of x that is 1, and x without it.
pub record TopOf (x bit below : ℕ) : Type 0 where
  pub low : 2 ^ bit ≤ x
  pub high : x < 2 ^ suc bit
  pub less : below ≡ x - 2 ^ bit

-- What the walk asks: the rows of n from row b on, where b rises as often as the path has ones.
pub record BackAsked (n path b : ℕ) (scratch : List ℕ) : Type 0 where
  pub rows : CountRows n b scratch
  pub rises : b ≡ count_ones path
  pub low : b ≤ 40

-- ---- along a word

-- The path of the first i letters: a bit where b rises.
abbrev pub path_to : Word → ℕ → ℕ
path_to w i = bits rise (take i w)

-- How many words begin with a rise of a at the point that the first letters of a path lead to, i of them.
abbrev pub turned : ℕ → ℕ → ℕ → ℕ
turned n path i = ways false (rest_at n (i - count_ones path) (count_ones path) / 2)

-- How many words of the list of n stand before w by its first i letters: at each rise of b, those with a rise of a there.
unfoldable pub before_by : ℕ → Word → ℕ → ℕ
before_by n w zero = 0
before_by n w (suc i) = before_by n w i + rise (slice_index w i) * turned n (path_to w i) i

-- The walk forward along a word of the list of n stands at (a, b), and `before` words of the list stand before the word by the
-- letters passed.
pub record RankWalked (n : ℕ) (letters : Word) (a b before : ℕ) : Type 0 where
  pub reader : Bool
  pub member : Memᴰ (drop (a + b) letters) (words_at reader (rest_at n a b))
  pub counted : before + count_before (drop (a + b) letters) (words_at reader (rest_at n a b)) ≡ count_before letters (list_of n)
  pub fits : count_before letters (list_of n) < 2 ^ 64

-- The walk back has the first letters of w before it, some of them fewer than all, whose path is `left`; `before` words of the list
-- stand before w by the letters behind it.
pub record BackAt (n : ℕ) (w : Word) (left before : ℕ) : Type 0 where
  pub index : ℕ
  pub low : index < length w
  pub path : left ≡ path_to w index
  pub counted : before + before_by n w index ≡ count_before w (list_of n)

-- The highest bit of the path of the first j letters: there b rises last, and the words with a rise of a there are the last that
-- these letters count.
pub record RiseAt (n : ℕ) (w : Word) (j bit below : ℕ) : Type 0 where
  pub within : bit < j
  pub rises : 2 ≤ slice_index w bit
  pub path : below ≡ path_to w bit
  pub counted : before_by n w j ≡ before_by n w bit + turned n below bit

-- The walk back along a path keeps: the rows from `row` on, which is how often b rises in what is left of the path; and where the
-- path is that of a word of the list, without its last letter, the words counted.
pub record Going (n path : ℕ) (entry scratch : List ℕ) (left row before : ℕ) : Type 0 where
  pub rows : CountsFilled n row entry scratch
  pub rises : row ≡ count_ones left
  pub low : row ≤ 40
  pub along : (w : Word) → Memᴰ w (list_of n) → 0 < length w → path ≡ path_to w (length w - 1) → BackAt n w left before
