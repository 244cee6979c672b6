-- Demand 3: the best chain is a chain of n within the limits, and every other such chain has more parts, or as many and a higher
-- price, or the same and a later position; it is refused with 5 exactly where no chain of n is within the limits.
--
-- In this order: what demand 3 asks of an answer and of the places; the outcome (`given_is_best`, `refused_none`), and what a
-- caller gets where enough is lent, the answer and the places, from choosing (`chosen_demand_3`) and from the best chain
-- (`demand_3`); the number 0; limits above 64, 63 and 40; the same price for every addition.
use Rattle.std.specs.Prelude.{◌≡◌, ℕ, ◌^◌, ◌<◌, ◌↔◌, List, [], map, length, Result, Ok, Err}
use Rattle.std.proofs.Math.Path.{refl}
use Rattle.std.proofs.Common.{ap, arith}
use Rattle.std.proofs.Math.Option.{Option, none, some}
use Rattle.lent.specs.Lent.{filled, Enough}
use Rattle.chains.specs.Chains.{Part}
use Rattle.chains.specs.Listing.{position}
use Rattle.chains.specs.Best.{Prices, price, Limits, cut, NoneFits, IsBest, best_chain}
use Rattle.chains.proofs.BestLaws.{first_unique, best_chain_lem, best_none, first_of_zero, first_cut}
use Rattle.chains.specs.OnePrice.{earlier_price, s_for_both}
use Rattle.chains.proofs.OnePrice.{one_price, one_price_chosen}
use Rattle.parts.specs.Parts.{part_number}
use Rattle.refusals.specs.declared.Refusal.{Refusal}
use Rattle.refusals.specs.declared.Refusal.TheVariants.{NoChainFits}
use Rattle.ranking.specs.Services.{Outcome, refused, gives, lent, places_left}
use Rattle.ranking.specs.RoundTrips.{lent_all}
use Rattle.best.specs.declared.Chosen.{Chosen}
use Rattle.best.specs.declared.Best.{Best}
use Rattle.best.specs.Chosen.{or_none, best_outcome, chosen_of, best_of}

-- The best chain stands in the places at exit, and its number of parts and its price are told: k and p.
pub record ChosenTold (n : ℕ) (lim : Limits) (π : Prices) (entry exit : List ℕ) (k p : ℕ) : Type 0 where
  pub chain : List Part
  pub best : IsBest n lim (price π) chain
  pub told_parts : k ≡ length chain
  pub told_price : p ≡ price π chain
  pub stands : exit ≡ filled 64 (map part_number chain) entry

-- The same, and its position is told: i.
pub record BestTold (n : ℕ) (lim : Limits) (π : Prices) (entry exit : List ℕ) (i k p : ℕ) : Type 0 where
  pub told : ChosenTold n lim π entry exit k p
  pub told_position : i ≡ position n told.chain

-- No chain is within the limits: it is refused with 5, and the places are as they were.
abbrev pub NoneTold : ℕ → Limits → List ℕ → List ℕ → Refusal → Type 0
NoneTold n lim entry exit r = (r ≡ NoChainFits) × NoneFits n lim × (exit ≡ entry)

-- What demand 3 asks of an answer, and of the places at exit, where `entry` stood in them: of choosing, but for the position,
abbrev pub Chooses : ℕ → Limits → Prices → List ℕ → List ℕ → Result Chosen Refusal → Type 0
Chooses n lim π entry exit (Ok told) = ChosenTold n lim π entry exit told.k told.price
Chooses n lim π entry exit (Err r) = NoneTold n lim entry exit r

-- and of the best chain.
abbrev pub Meets : ℕ → Limits → Prices → List ℕ → List ℕ → Result Best Refusal → Type 0
Meets n lim π entry exit (Ok told) = BestTold n lim π entry exit told.position told.k told.price
Meets n lim π entry exit (Err r) = NoneTold n lim entry exit r

-- ---- the outcome

module _ (n : ℕ) (lim : Limits) (π : Prices) where
  -- The outcome is one of two.
  data Told : Outcome → Type 0 where
    fitting : (c : List Part) → IsBest n lim (price π) c → Told (gives n c)
    nothing : NoneFits n lim → Told (refused NoChainFits)

  told : Told (best_outcome n lim (price π))
  unfolding best_outcome or_none
  told = go (best_chain n lim (price π)) refl
    where
      go : (o : Option (List Part)) → best_chain n lim (price π) ≡ o → Told (or_none n o)
      go none e = nothing ((best_none n lim (price π)).0 e)
      go (some c) e = fitting c ((best_chain_lem n lim (price π) c).0 e)

  -- What it gives is the best chain of n within the limits,
  pub given_best : (m : ℕ) (c : List Part) → best_outcome n lim (price π) ≡ gives m c → (m ≡ n) × IsBest n lim (price π) c
  given_best m c = go (best_outcome n lim (price π)) told
    where
      go : (o : Outcome) → Told o → o ≡ gives m c → (m ≡ n) × IsBest n lim (price π) c
      go o (fitting c' b) e = let same : c' ≡ c = cc in (cc, rw same at b)
      go o (nothing f) e = let z : ◌≡◌ {A = ℕ} 0 1 = cc in absurd (omega arith)

  -- and that is given;
  pub given_is_best : (c : List Part) → (best_outcome n lim (price π) ≡ gives n c) ↔ IsBest n lim (price π) c
  given_is_best c = (λ e. (given_best n c e).1, is_given (best_outcome n lim (price π)) told)
    where
      is_given : (o : Outcome) → Told o → IsBest n lim (price π) c → o ≡ gives n c
      is_given o (fitting c' b') b = ap (gives n) (first_unique n lim length (price π) c' c b' b)
      is_given o (nothing f) b = absurd (f c b.chain b.within)

  -- it refuses with 5 exactly where there is none.
  pub refused_none : (best_outcome n lim (price π) ≡ refused NoChainFits) ↔ NoneFits n lim
  refused_none = (is_none (best_outcome n lim (price π)) told, is_refused (best_outcome n lim (price π)) told)
    where
      is_none : (o : Outcome) → Told o → o ≡ refused NoChainFits → NoneFits n lim
      is_none o (fitting c b) e = let z : ◌≡◌ {A = ℕ} 0 1 = cc in absurd (omega arith)
      is_none o (nothing f) e = f

      is_refused : (o : Outcome) → Told o → NoneFits n lim → o ≡ refused NoChainFits
      is_refused o (fitting c b) f = absurd (f c b.chain b.within)
      is_refused o (nothing f) g = refl

  -- The answer and the places at exit, as the contracts of `choose_chain` and `best_chain` have them.
  module _ {s p : List ℕ} (h : Enough 64 s p) where
    pub chosen_demand_3 : Chooses n lim π p (places_left (lent s p (best_outcome n lim (price π))) p)
        (chosen_of (price π) (lent s p (best_outcome n lim (price π))))
    unfolding chosen_of places_left
    chosen_demand_3 = rw (lent_all s p (best_outcome n lim (price π)) h) (go (best_outcome n lim (price π)) told)
      where
        go : (o : Outcome) → Told o → Chooses n lim π p (places_left o p) (chosen_of (price π) o)
        go o (fitting c b) = record { chain = c; best = b; told_parts = refl; told_price = refl; stands = refl }
        go o (nothing f) = (refl, f, refl)

    pub demand_3 : Meets n lim π p (places_left (lent s p (best_outcome n lim (price π))) p)
        (best_of (price π) (lent s p (best_outcome n lim (price π))))
    unfolding best_of places_left
    demand_3 = rw (lent_all s p (best_outcome n lim (price π)) h) (go (best_outcome n lim (price π)) told)
      where
        go : (o : Outcome) → Told o → Meets n lim π p (places_left o p) (best_of (price π) o)
        go o (fitting c b) =
            record {
              told = record { chain = c; best = b; told_parts = refl; told_price = refl; stands = refl };
              told_position = refl;
            }
        go o (nothing f) = (refl, f, refl)

-- ---- the number 0

-- The empty chain, for all limits and prices.
pub zero_given : (lim : Limits) (π : Prices) → best_outcome 0 lim (price π) ≡ gives 0 []
unfolding best_outcome or_none
zero_given lim π = rw (first_of_zero lim length (price π))

-- ---- limits above 64, 63 and 40 exclude nothing

pub limits_cut : {n : ℕ} → n < 2 ^ 64 → (lim : Limits) (π : Prices) → best_outcome n lim (price π) ≡ best_outcome n (cut lim) (price π)
unfolding best_outcome
limits_cut {n} fits lim π = rw (first_cut n lim length (price π) fits)

-- ---- the same price for every addition

-- With the same price for both additions all is as it was by document 01's price, before T-04.
module _ (n : ℕ) (lim : Limits) (d t s : ℕ) where
  -- The same outcome,
  pub one_price_outcome : best_outcome n lim (price (s_for_both d t s)) ≡ best_outcome n lim (earlier_price d t s)
  unfolding best_outcome
  one_price_outcome = rw (one_price_chosen n lim d t s)

  -- the same cost of the chain that is given,
  pub one_price_given : (m : ℕ) (c : List Part) → best_outcome n lim (price (s_for_both d t s)) ≡ gives m c
      → price (s_for_both d t s) c ≡ earlier_price d t s c
  one_price_given m c = go (best_outcome n lim (price (s_for_both d t s))) (told n lim (s_for_both d t s))
    where
      go : (o : Outcome) → Told n lim (s_for_both d t s) o → o ≡ gives m c → price (s_for_both d t s) c ≡ earlier_price d t s c
      go o (fitting c' b) e = let same : c' ≡ c = cc in one_price d t s c (rw same at b.chain.chained)
      go o (nothing f) e = let z : ◌≡◌ {A = ℕ} 0 1 = cc in absurd (omega arith)

  -- and the same answer.
  pub one_price_told : best_of (price (s_for_both d t s)) (best_outcome n lim (price (s_for_both d t s)))
      ≡ best_of (earlier_price d t s) (best_outcome n lim (earlier_price d t s))
  unfolding best_of
  one_price_told = rw (← one_price_outcome) (go (best_outcome n lim (price (s_for_both d t s))) refl)
    where
      go : (o : Outcome) → best_outcome n lim (price (s_for_both d t s)) ≡ o
          → best_of (price (s_for_both d t s)) o ≡ best_of (earlier_price d t s) o
      go (refused r) e = refl
      go (gives m c) e = rw (one_price_given m c e)
