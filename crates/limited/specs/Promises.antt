-- What T-10 of document 02 asks of the two services, as theorems on the answers that their contracts name.
--
-- The cheapest chain: it is given exactly if it is the cheapest of all chains of n within the limits (`given_is_cheapest`), and refusal 5
-- exactly where none is within them (`refused_none`); what a caller gets where enough is lent (`cheapest_met`); no chain within the limits
-- is cheaper (`none_cheaper_given`); the number 0; limits above 64, 63 and 40; prices of 0; refusal 1. The count: it is the table
-- count's with K of 64 or more (`counts_agree`); the number 0; it is 0 exactly where no chain has so few parts (`counted_none`); refusal 1.
use Rattle.std.proofs.Math.Path.{◌≡◌, refl, ap}
use Rattle.std.proofs.Common.{sym, ◌∙◌, arith}
use Rattle.std.specs.Prelude.{◌↔◌, ◌⊎◌, List, [], ◌∷◌, Result, Ok, Err, map, ℕ, ◌^◌, ◌≤◌, ◌<◌, length}
use Rattle.std.proofs.Math.Option.{Option, none, some}
use Rattle.lent.specs.Lent.{filled, scratch_size, Lends}
use Rattle.lent.specs.LentLaws.{scratch_little, scratch_enough}
use Rattle.chains.specs.Chains.{Part, ChainOf}
use Rattle.chains.specs.Best.{Prices, additions, price, Limits, cut, Within, NoneFits, IsCheapest, cheapest_chain, count_up_to}
use Rattle.chains.proofs.BestLaws.{cheapest_chain_lem, cheapest_none, none_cheaper, same_cost, first_of_zero, first_cut}
use Rattle.chains.proofs.PartLimit.{count_up_to_all, count_up_to_zero, count_up_to_none}
use Rattle.parts.specs.Parts.{part_number}
use Rattle.refusals.specs.declared.Refusal.{Refusal}
use Rattle.refusals.specs.declared.Refusal.TheVariants.{LittleLent, NoChainFits}
use Rattle.counting.specs.TableCount.{counted_of}
use Rattle.counting.specs.TableLaws.{counted_served}
use Rattle.ranking.specs.Services.{refused, gives, lent_of, places_left}
use Rattle.ranking.specs.Refusals.{lent_too_little}
use Rattle.ranking.specs.RoundTrips.{lent_all}
use Rattle.best.specs.declared.Chosen.{Chosen}
use Rattle.best.specs.Chosen.{or_none, best_outcome, chosen_of}
use Rattle.best.specs.Demand3.{NoneTold}
use Rattle.limited.specs.Services.{table_size, cheapest_outcome, counted_up_to}

-- ---- the cheapest chain

-- It stands in the places at exit, and its number of parts and its price are told: k and p.
pub record CheapestTold (n : ℕ) (lim : Limits) (π : Prices) (entry exit : List ℕ) (k p : ℕ) : Type 0 where
  pub chain : List Part
  pub cheapest : IsCheapest n lim (price π) chain
  pub told_parts : k ≡ length chain
  pub told_price : p ≡ price π chain
  pub stands : exit ≡ filled 64 (map part_number chain) entry

-- What is asked of an answer, and of the places at exit, where `entry` stood in them.
abbrev pub Meets : ℕ → Limits → Prices → List ℕ → List ℕ → Result Chosen Refusal → Type 0
Meets n lim π entry exit (Ok told) = CheapestTold n lim π entry exit told.k told.price
Meets n lim π entry exit (Err r) = NoneTold n lim entry exit r

module _ (n : ℕ) (lim : Limits) (π : Prices) where
  -- What is given is the cheapest chain of n within the limits, and that is given;
  pub given_is_cheapest : (c : List Part) → (cheapest_outcome n lim (price π) ≡ gives n c) ↔ IsCheapest n lim (price π) c
  unfolding cheapest_outcome or_none
  given_is_cheapest c = (
    λ e. (cheapest_chain_lem n lim (price π) c).0 (go (cheapest_chain n lim (price π)) e),
    λ b. rw ((cheapest_chain_lem n lim (price π) c).1 b),
  )
    where
      go : (o : Option (List Part)) → or_none n o ≡ gives n c → o ≡ some c
      go none e = let z : ◌≡◌ {A = ℕ} 0 1 = cc in absurd (omega arith)
      go (some c') e = let same : c' ≡ c = cc in ap some same

  -- it is refused with 5 exactly where no chain is within them.
  pub refused_none : (cheapest_outcome n lim (price π) ≡ refused NoChainFits) ↔ NoneFits n lim
  unfolding cheapest_outcome or_none
  refused_none = (
    λ e. (cheapest_none n lim (price π)).0 (go (cheapest_chain n lim (price π)) e),
    λ f. rw ((cheapest_none n lim (price π)).1 f),
  )
    where
      go : (o : Option (List Part)) → or_none n o ≡ refused NoChainFits → o ≡ none
      go none e = refl
      go (some c) e = let z : ◌≡◌ {A = ℕ} 0 1 = cc in absurd (omega arith)

  -- No chain within the limits is cheaper than the one given.
  pub none_cheaper_given : (c : List Part) → cheapest_outcome n lim (price π) ≡ gives n c
      → (c' : List Part) → ChainOf n c' → Within lim c' → price π c ≤ price π c'
  none_cheaper_given c e = none_cheaper n lim (price π) c ((given_is_cheapest c).0 e)

  -- The answer and the places at exit, as the contract of `cheapest_chain` has them.
  module _ {s p : List ℕ} (h : Lends table_size 64 s p) where
    pub cheapest_met : Meets n lim π p (places_left (lent_of table_size s p (cheapest_outcome n lim (price π))) p)
        (chosen_of (price π) (lent_of table_size s p (cheapest_outcome n lim (price π))))
    unfolding cheapest_outcome or_none chosen_of places_left
    cheapest_met =
        rw (lent_all s p (cheapest_outcome n lim (price π)) h) (go (cheapest_chain n lim (price π)) refl)
      where
        go : (o : Option (List Part)) → cheapest_chain n lim (price π) ≡ o
            → Meets n lim π p (places_left (or_none n o) p) (chosen_of (price π) (or_none n o))
        go none e = (refl, (cheapest_none n lim (price π)).0 e, refl)
        go (some c) e =
            record {
              chain = c;
              cheapest = (cheapest_chain_lem n lim (price π) c).0 e;
              told_parts = refl;
              told_price = refl;
              stands = refl;
            }

-- The number 0 has the empty chain, for all limits and prices.
pub zero_given : (lim : Limits) (π : Prices) → cheapest_outcome 0 lim (price π) ≡ gives 0 []
unfolding cheapest_outcome or_none
zero_given lim π = rw (first_of_zero lim (price π) length)

-- Limits above 64, 63 and 40 exclude nothing.
pub limits_cut : {n : ℕ} → n < 2 ^ 64 → (lim : Limits) (π : Prices)
    → cheapest_outcome n lim (price π) ≡ cheapest_outcome n (cut lim) (price π)
unfolding cheapest_outcome
limits_cut {n} fits lim π = rw (first_cut n lim (price π) length fits)

-- Without prices it is the best chain.
pub no_prices : (n : ℕ) (lim : Limits) (π : Prices) → (π.d ≡ 0) × (π.t ≡ 0) × (π.s2 ≡ 0) × (π.s3 ≡ 0)
    → cheapest_outcome n lim (price π) ≡ best_outcome n lim (price π)
unfolding cheapest_outcome best_outcome price additions
no_prices n lim π free = rw (same_cost n lim (price π) (λ c c' h h'. nothing c ∙ sym (nothing c')))
  where
    nothing : (c : List Part) → price π c ≡ 0
    nothing [] = refl
    nothing (p ∷ c) = rw (free.0, free.1, free.2, free.3) (omega arith)

-- Refusal 1, exactly where too little is lent.
pub cheapest_too_little : (n : ℕ) (lim : Limits) (π : Prices) (s p : List ℕ)
    → (lent_of table_size s p (cheapest_outcome n lim (price π)) ≡ refused LittleLent) ↔ ((length s < table_size) ⊎ (length p < 64))
unfolding cheapest_outcome or_none
cheapest_too_little n lim π s p =
    lent_too_little table_size s p (cheapest_outcome n lim (price π)) (never (cheapest_chain n lim (price π)))
  where
    never : (o : Option (List Part)) → or_none n o ≡ refused LittleLent → ⊥
    never none e = let z : ◌≡◌ {A = ℕ} 0 1 = cc in absurd (omega arith)
    never (some c) e = let z : ◌≡◌ {A = ℕ} 0 1 = cc in absurd (omega arith)

-- ---- the count

module _ (K n : ℕ) (s : List ℕ) (h : table_size ≤ length s) where
  pub up_to_served : counted_up_to K n s ≡ Ok (count_up_to K n)
  unfolding counted_up_to
  up_to_served = rw (scratch_enough s h)

  -- With K of 64 or more it is the table count's answer.
  pub counts_agree : n < 2 ^ 64 → 64 ≤ K → (t : List ℕ) → scratch_size ≤ length t → counted_up_to K n s ≡ counted_of n t
  counts_agree fits k t room =
      up_to_served ∙ ap Ok (count_up_to_all K n fits k) ∙ sym (counted_served n t room)

  -- It is 0 exactly where no chain of n has at most K parts.
  pub counted_none : (counted_up_to K n s ≡ Ok 0) ↔ ((c : List Part) → ChainOf n c → length c ≤ K → ⊥)
  counted_none = (
    λ e. (count_up_to_none K n).0 (let z : count_up_to K n ≡ 0 = cc (up_to_served, e) in z),
    λ f. up_to_served ∙ ap Ok ((count_up_to_none K n).1 f),
  )

-- The number 0 has one chain for every K.
pub zero_counted : (K : ℕ) (s : List ℕ) → table_size ≤ length s → counted_up_to K 0 s ≡ Ok 1
zero_counted K s h = up_to_served K 0 s h ∙ ap Ok (count_up_to_zero K)

pub up_to_refused : (K n : ℕ) (s : List ℕ) → length s < table_size → counted_up_to K n s ≡ Err LittleLent
unfolding counted_up_to
up_to_refused K n s h = rw (scratch_little s h)
