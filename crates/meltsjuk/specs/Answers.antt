-- What the functions for C and Rust answer: a service's answer, case by case, as a number and as numbers put where the caller asks.
-- A refusal leaves those as they were. Document 01, 'What a refused line or call gets', and document 02 have the refusals' numbers;
-- of all but the reply 0 says that the call was served.
--
-- In this order: the reply to a line, answers, a chain that is found, the best chain and the cheapest, placing, tree words, the bench.
-- Definitions only.
use Rattle.std.specs.Prelude.{Bool, true, false, List, ℕ, length, Result, Ok, Err}
use Rattle.chains.specs.Words.{Word}
use Rattle.chains.specs.Listing.{position}
use Rattle.chains.specs.Best.{Prices, Limits, price}
use Rattle.ranking.specs.Services.{Outcome, refused, gives, lent, lent_of, lent_scratch, of_record}
use Rattle.refusals.specs.declared.Refusal.{Refusal}
use Rattle.refusals.specs.Refusals.{number_of}
use Rattle.trees.specs.Answers.{of_tree, TreeWord, no_tree, tree_word, record_tree, lent_tree}
use Rattle.best.specs.Chosen.{best_outcome}
use Rattle.limited.specs.Services.{table_size, cheapest_outcome}
use Rattle.bench.specs.declared.Walked.{Walked}
use Rattle.bench.specs.declared.Told.{Told}
use Rattle.frames.specs.Replies.{reply_of}

-- ---- the reply to a line

-- How many digits the reply to a line has, or refusal 1 where too little is lent. A reply has at least two digits (AnswerLaws), so
-- 1 is no length.
abbrev pub digits_or_refusal : Bool → List ℕ → ℕ
digits_or_refusal true line = 1
digits_or_refusal false line = length (reply_of line)

-- ---- answers

-- 0 where a service did what it was asked, else the number of the refusal.
abbrev pub status : {T : Type 0} → Result T Refusal → ℕ
status (Ok t) = 0
status (Err r) = number_of r

-- The number that is told, or x where it is refused.
abbrev pub value_or : Result ℕ Refusal → ℕ → ℕ
value_or (Ok m) x = m
value_or (Err r) x = x

-- ---- a chain that is found

abbrev pub outcome_status : Outcome → ℕ
outcome_status (refused r) = number_of r
outcome_status (gives n c) = 0

-- The number n that the chain sums to, its position in the list of n and its number of parts, or x where it is refused.
abbrev pub number_or : Outcome → ℕ → ℕ
number_or (refused r) x = x
number_or (gives n c) x = n

abbrev pub position_or : Outcome → ℕ → ℕ
position_or (refused r) x = x
position_or (gives n c) x = position n c

abbrev pub parts_or : Outcome → ℕ → ℕ
parts_or (refused r) x = x
parts_or (gives n c) x = length c

-- ---- the best chain and the cheapest

-- What is asked with: C hands the limits and the prices over as numbers.
abbrev pub limits_of : ℕ → ℕ → ℕ → Limits
limits_of K A B = record { K = K; A = A; B = B }

abbrev pub prices_of : ℕ → ℕ → ℕ → ℕ → Prices
prices_of d t s2 s3 = record { d = d; t = t; s2 = s2; s3 = s3 }

-- What is asked for: the best chain of n within the limits, and refusal 1 first, where too little is lent.
abbrev pub best_asked : List ℕ → List ℕ → ℕ → Limits → Prices → Outcome
best_asked scratch places n lim π = lent scratch places (best_outcome n lim (price π))

-- The same of the cheapest chain, for which more is lent.
abbrev pub cheapest_asked : List ℕ → List ℕ → ℕ → Limits → Prices → Outcome
cheapest_asked scratch places n lim π = lent_of table_size scratch places (cheapest_outcome n lim (price π))

-- The price of such a chain, or x where it is refused.
abbrev pub price_or : Prices → Outcome → ℕ → ℕ
price_or π (refused r) x = x
price_or π (gives n c) x = price π c

-- ---- placing

-- What is asked for: the chain of a record, and refusal 1 first, where the scratch is too small.
abbrev pub place_asked : List ℕ → List ℕ → Outcome
place_asked scratch numbers = lent_scratch scratch (of_record numbers)

-- ---- tree words

-- What is asked for: the chain of a tree word, or the tree word of a record's chain; and refusal 1 first, where too little is
-- lent.
abbrev pub tree_chain_asked : List ℕ → List ℕ → Word → Outcome
tree_chain_asked scratch places letters = lent scratch places (of_tree letters)

abbrev pub tree_asked : List ℕ → List ℕ → TreeWord
tree_asked places numbers = lent_tree places (record_tree numbers)

abbrev pub tree_status : TreeWord → ℕ
tree_status (no_tree r) = number_of r
tree_status (tree_word w) = 0

-- How many letters the tree word has, or x where it is refused.
abbrev pub letters_or : TreeWord → ℕ → ℕ
letters_or (no_tree r) x = x
letters_or (tree_word w) x = length w

-- ---- the bench

-- The number of moves, and of parts of the chain that the walk ends with, or x where it is refused.
abbrev pub moves_or : Result Walked Refusal → ℕ → ℕ
moves_or (Ok w) x = w.moves
moves_or (Err r) x = x

abbrev pub walked_parts_or : Result Walked Refusal → ℕ → ℕ
walked_parts_or (Ok w) x = w.k
walked_parts_or (Err r) x = x

-- The bench's number, and the number of parts of its present chain, or x where it is refused.
abbrev pub told_number_or : Result Told Refusal → ℕ → ℕ
told_number_or (Ok t) x = t.n
told_number_or (Err r) x = x

abbrev pub told_parts_or : Result Told Refusal → ℕ → ℕ
told_parts_or (Ok t) x = t.k
told_parts_or (Err r) x = x
