-- What the cheapest chain and the count of chains with at most K parts answer and leave: document 02, T-10.
--
-- The cheapest chain has an outcome, as choosing has, and tells of it what choosing tells (`chosen_of` in best). Refusal 1 and what is left
-- in the lent memory follow the rule of all services, with a larger size (`lent_of` in ranking, `memory_left` in lent).
-- Definitions only. That the outcome is the cheapest chain, and what the count agrees with, is in Promises.
use Rattle.std.specs.Prelude.{cond, List, ℕ, Result, Ok, Err}
use Rattle.chains.specs.Best.{Limits, Measure, cheapest_chain, count_up_to}
use Rattle.lent.specs.Lent.{fewer}
use Rattle.refusals.specs.declared.Refusal.{Refusal}
use Rattle.refusals.specs.declared.Refusal.TheVariants.{LittleLent}
use Rattle.ranking.specs.Services.{Outcome}
use Rattle.best.specs.Chosen.{or_none}

-- How many numbers both services are lent: 1,344 points, two readers, and 0 to 64 parts. The code says it once too, as `TABLE`.
abbrev pub table_size : ℕ
table_size = 174720

-- The cheapest chain of n within the limits, by what a chain costs, and else refusal 5.
unfoldable pub cheapest_outcome : ℕ → Limits → Measure → Outcome
cheapest_outcome n lim cost = or_none n (cheapest_chain n lim cost)

-- The count of chains of n with at most K parts, and refusal 1 where too little is lent.
unfoldable pub counted_up_to : ℕ → ℕ → List ℕ → Result ℕ Refusal
counted_up_to K n scratch = cond (fewer table_size scratch) (Err LittleLent) (Ok (count_up_to K n))
