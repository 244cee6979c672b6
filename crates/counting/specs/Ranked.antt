-- What the calls answer that lead from a word to its position and from a position to its word: document 01, 'Services and memory'.
-- A word is told in two numbers (words, Packed).
-- Definitions only. The laws are in RankedLaws.
use Rattle.std.specs.Prelude.{Option, Some, None, Result, Ok, Err}
use Rattle.std.specs.Prelude.{◌≡◌, ℕ, ◌+◌, ◌≤◌, cond, List, length, nat_le}
use mathlib.Core.List.{Memᴰ}
use Rattle.chains.specs.Words.{Word}
use Rattle.chains.specs.Listing.{list_of, count, count_before}
use Rattle.lent.specs.Lent.{scratch_size, little_scratch}
use Rattle.refusals.specs.declared.Refusal.{Refusal}
use Rattle.refusals.specs.declared.Refusal.TheVariants.{LittleLent}
use Rattle.words.specs.Packed.{bits, rise, mark}
use Rattle.counting.specs.declared.Listed.{Listed}
use Rattle.counting.specs.Forward.{word_at}

-- A position i, and refusal 1 where the scratch is too small.
unfoldable pub position_at : List ℕ → ℕ → Result ℕ Refusal
position_at scratch i = cond (little_scratch scratch) (Err LittleLent) (Ok i)

-- What is told for a path: a position. Where b rises so in a word of the list of n, it is the word's, the number of words before it.
-- Where it rises so in none, there is no position to tell, and the number is left open.
pub record PositionTold (n rises : ℕ) (scratch : List ℕ) (r : Result ℕ Refusal) : Type 0 where
  pub position : ℕ
  pub answer : r ≡ position_at scratch position
  pub exact : scratch_size ≤ length scratch → (w : Word) → Memᴰ w (list_of n) → rises ≡ bits rise w
      → position ≡ count_before w (list_of n)

-- The word at the position i of the list of n, or none where the list has ended.
unfoldable pub listed_at : ℕ → ℕ → Option Listed
listed_at n i =
    cond (nat_le (count n) i) None (Some (record { position = i; rises = bits rise (word_at n i); marks = bits mark (word_at n i) }))

-- Refusal 1 first.
unfoldable pub lent_list : List ℕ → Option Listed → Result (Option Listed) Refusal
lent_list scratch r = cond (little_scratch scratch) (Err LittleLent) (Ok r)

-- The word that is told after a path: the one at a position, which is the next one's where b rises so in a word of the list of n.
pub record NextTold (n rises : ℕ) (scratch : List ℕ) (r : Result (Option Listed) Refusal) : Type 0 where
  pub position : ℕ
  pub answer : r ≡ lent_list scratch (listed_at n position)
  pub exact : scratch_size ≤ length scratch → (w : Word) → Memᴰ w (list_of n) → rises ≡ bits rise w
      → position ≡ count_before w (list_of n) + 1
