-- Choosing: what it finds, and what is told of that. Definitions only; why it finds that is in ChoosingLaws.
use Rattle.std.specs.Prelude.{◌≡◌, ℕ, ◌≤◌, true, T, List, length, Result, Ok, Err}
use Rattle.std.proofs.Math.Option.{Option, none, some}
use Rattle.std.specs.Prelude as std
use Rattle.chains.specs.Chains.{Part}
use Rattle.chains.specs.Words.{Word, chain_of, reads}
use Rattle.chains.specs.Best.{Prices, price, Limits, Measure, best_chain}
use Rattle.words.specs.Packed.{bits, rise, mark, packed_chain, parts_left}
use Rattle.refusals.specs.declared.Refusal.{Refusal}
use Rattle.refusals.specs.declared.Refusal.TheVariants.{NoChainFits}
use Rattle.best.specs.declared.Chosen.{Chosen}
use Rattle.best.specs.declared.terms.Priced.{Priced}

-- There is a chosen chain, which costs p, and two numbers have the bits of its word.
pub record WordOf (chosen : Option (List Part)) (cost : Measure) (rises marks p : ℕ) : Type 0 where
  pub word : Word
  pub rising : rises ≡ bits rise word
  pub marking : marks ≡ bits mark word
  pub good : T (reads true word)
  pub few : length word ≤ 64
  pub chain : chosen ≡ some (chain_of word)
  pub told : p ≡ cost (chain_of word)

-- It is the best chain of n.
abbrev pub WordChosen : ℕ → Limits → Prices → ℕ → ℕ → ℕ → Type 0
WordChosen n lim π rises marks p = WordOf (best_chain n lim (price π)) (price π) rises marks p

-- What a choice says: the word of the chosen chain, or that there is none.
abbrev pub Finds : Option (List Part) → Measure → std.Option Priced → Type 0
Finds chosen cost (std.Some w) = WordOf chosen cost w.word.rises w.word.marks w.price
Finds chosen cost std.None = chosen ≡ none

-- Here it is the best chain of n within the limits.
abbrev pub ChosenBy : ℕ → Limits → Prices → std.Option Priced → Type 0
ChosenBy n lim π choice = Finds (best_chain n lim (price π)) (price π) choice

-- What is told of a choice, and what stands in the places then.
unfoldable pub told_of : std.Option Priced → Result Chosen Refusal
told_of (std.Some w) = Ok (record { k = length (packed_chain w.word.rises w.word.marks); price = w.price })
told_of std.None = Err NoChainFits

unfoldable pub told_places : std.Option Priced → List ℕ → List ℕ
told_places (std.Some w) entry = parts_left w.word.rises w.word.marks entry
told_places std.None entry = entry
