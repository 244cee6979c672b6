-- Choosing the cheapest chain: what it finds. Definitions only; why it finds that is in ChoosingLaws.
use Rattle.std.specs.Prelude.{ℕ, Option}
use Rattle.chains.specs.Best.{Prices, price, Limits, cheapest_chain}
use Rattle.best.specs.Choosing.{WordOf, Finds}
use Rattle.best.specs.declared.terms.Priced.{Priced}

-- Two numbers have the bits of the word of the cheapest chain of n, which has the price p.
abbrev pub WordChosen : ℕ → Limits → Prices → ℕ → ℕ → ℕ → Type 0
WordChosen n lim π rises marks p = WordOf (cheapest_chain n lim (price π)) (price π) rises marks p

-- What a choice says: the word of the cheapest chain within the limits, or that there is none.
abbrev pub ChosenBy : ℕ → Limits → Prices → Option Priced → Type 0
ChosenBy n lim π choice = Finds (cheapest_chain n lim (price π)) (price π) choice
