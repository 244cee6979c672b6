-- What the private functions of this crate tell and leave behind. What the services answer is in Services.
-- Definitions only. The laws are in the proofs, Answers.
use Rattle.std.specs.Prelude.{Result, Ok}
use Rattle.std.specs.Prelude.{◌≡◌, ℕ, ◌<◌}
use mathlib.Core.List.{List, Memᴰ}
use Rattle.chains.specs.Words.{Word}
use Rattle.chains.specs.Listing.{list_of, count, count_before}
use Rattle.refusals.specs.declared.Refusal.{Refusal}
use Rattle.words.specs.Packed.{bits, rise, mark}
use Rattle.counting.specs.Forward.{word_at}
use Rattle.ranking.specs.declared.Placed.{Placed}
use Rattle.ranking.specs.declared.Found.{Found}
use Rattle.ranking.specs.Services.{Outcome, answer_of, places_left}

-- n, and the position of a word in its list.
unfoldable pub placed_at : ℕ → Word → Result Placed Refusal
placed_at n w = Ok (record { n = n; position = count_before w (list_of n) })

-- Two numbers hold a word of the list of n.
pub record TwoNumbers (n : ℕ) (w : Word) (rises marks : ℕ) : Type 0 where
  pub member : Memᴰ w (list_of n)
  pub rising : rises ≡ bits rise w
  pub marking : marks ≡ bits mark w

-- They hold the word at a position.
pub record At (n position rises marks : ℕ) : Type 0 where
  pub within : position < count n
  pub rising : rises ≡ bits rise (word_at n position)
  pub marking : marks ≡ bits mark (word_at n position)

-- The answer, and the places at exit, are those of an outcome.
pub record Given (o : Outcome) (r : Result Found Refusal) (entry exit : List ℕ) : Type 0 where
  pub answer : r ≡ answer_of o
  pub left : exit ≡ places_left o entry
