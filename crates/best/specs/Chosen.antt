-- What choosing and the best chain answer: document 01, 'Services and memory', and refusals 1 and 5; document 02, T-04 and T-09.
--
-- Both have one outcome, like the services of ranking, and what is left in the lent memory follows from that. They differ in what
-- they tell of it. The cost of a chain is `price π`, where π are the prices that the service is given.
-- Definitions only. That the outcome is the best chain of demand 3 is in Demand3; that choosing and then placing tell what the best
-- chain tells is in Placing.
use Rattle.std.specs.Prelude.{ℕ, List, length, Result, Ok, Err}
use Rattle.std.proofs.Math.Option.{Option, none, some}
use Rattle.chains.specs.Chains.{Part}
use Rattle.chains.specs.Listing.{position}
use Rattle.chains.specs.Best.{Prices, Limits, best_chain}
use Rattle.refusals.specs.declared.Refusal.{Refusal}
use Rattle.refusals.specs.declared.Refusal.TheVariants.{NoChainFits}
use Rattle.ranking.specs.Services.{Outcome, refused, gives}
use Rattle.best.specs.declared.Limits as given
use Rattle.best.specs.declared.Prices as asked
use Rattle.best.specs.declared.Chosen.{Chosen}
use Rattle.best.specs.declared.Best.{Best}

-- What the code's structs stand for.
abbrev pub limits_of : given.Limits → Limits
limits_of l = record { K = l.parts; A = l.doublings; B = l.triplings }

abbrev pub prices_of : asked.Prices → Prices
prices_of p = record { d = p.doubling; t = p.tripling; s2 = p.addition_2; s3 = p.addition_3 }

-- A chain of n, if there is one, and else refusal 5.
unfoldable pub or_none : ℕ → Option (List Part) → Outcome
or_none n none = refused NoChainFits
or_none n (some c) = gives n c

-- The best chain of n within the limits, by what a chain costs.
unfoldable pub best_outcome : ℕ → Limits → (List Part → ℕ) → Outcome
best_outcome n lim cost = or_none n (best_chain n lim cost)

-- Choosing tells how many parts there are and what they cost, or the refusal;
unfoldable pub chosen_of : (List Part → ℕ) → Outcome → Result Chosen Refusal
chosen_of cost (refused r) = Err r
chosen_of cost (gives n c) = Ok (record { k = length c; price = cost c })

-- the best chain tells the position too.
unfoldable pub best_of : (List Part → ℕ) → Outcome → Result Best Refusal
best_of cost (refused r) = Err r
best_of cost (gives n c) = Ok (record { position = position n c; k = length c; price = cost c })
