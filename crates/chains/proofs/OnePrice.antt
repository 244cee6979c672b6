-- One price for every addition: document 02, T-04. Where s2 and s3 are the same, a chain's price is the one that document 01 gave
-- it before (`one_price`), and so a chain is best by the one exactly if it is best by the other (`best_by_one_price`).
--
-- The earlier price is in specs/OnePrice.antt. The best chain as a function stands last (`one_price_chosen`).
use Rattle.std.specs.Prelude.{◌≡◌, refl, ◌↔◌, Bool, true, false, cond, List, [], ◌∷◌, ℕ, ◌*◌, ltb, length}
use Rattle.std.proofs.Common.{sym, mul-suc, arith}
use Rattle.std.proofs.Math.Option.{Option, none, some}
use Rattle.chains.specs.Chains.{Part, Chained, ChainOf}
use Rattle.chains.specs.Best.{price, Limits, Ahead, IsBest, best_chain}
use Rattle.chains.specs.OnePrice.{earlier_price, s_for_both}
use Rattle.chains.proofs.BestLaws.{Answers, answers, is_first}
use Rattle.chains.specs.Neighbours.{by_neighbours}
use Rattle.chains.proofs.PriceLaws.{price_by_neighbours}

same_each : (d t s : ℕ) (p : Part) (c : List Part) → by_neighbours (s_for_both d t s) p c ≡ s * length c
unfolding by_neighbours
same_each d t s p [] = omega arith
same_each d t s p (q ∷ c) = omega (arith, go (ltb q.b p.b), same_each d t s q c, mul-suc s (length c))
  where
    go : (x : Bool) → cond x s s ≡ s
    go true = refl
    go false = refl

pub one_price : (d t s : ℕ) (c : List Part) → Chained c → price (s_for_both d t s) c ≡ earlier_price d t s c
unfolding price earlier_price
one_price d t s [] h = refl
one_price d t s (p ∷ c) h = omega (arith, price_by_neighbours (s_for_both d t s) p c h, same_each d t s p c)

-- ---- costs that agree on the chains of n

-- A chain that is best by the one is best by the other.
same_best : (n : ℕ) (lim : Limits) (f g : List Part → ℕ) → ((c : List Part) → ChainOf n c → f c ≡ g c)
    → (c : List Part) → IsBest n lim f c → IsBest n lim g c
unfolding Ahead
same_best n lim f g same c b =
    record {
      chain = b.chain;
      within = b.within;
      first = λ c' h w d. rw (← same c b.chain, ← same c' h) (b.first c' h w d);
    }

-- ---- the best chain

module _ (n : ℕ) (lim : Limits) (d t s : ℕ) where
  same : (c : List Part) → ChainOf n c → price (s_for_both d t s) c ≡ earlier_price d t s c
  same c h = one_price d t s c h.chained

  there : (c : List Part) → IsBest n lim (price (s_for_both d t s)) c → IsBest n lim (earlier_price d t s) c
  there = same_best n lim (price (s_for_both d t s)) (earlier_price d t s) same

  pub best_by_one_price : (c : List Part) → IsBest n lim (price (s_for_both d t s)) c ↔ IsBest n lim (earlier_price d t s) c
  best_by_one_price c =
      (there c, same_best n lim (earlier_price d t s) (price (s_for_both d t s)) (λ c' h. sym (same c' h)) c)

  pub one_price_chosen : best_chain n lim (price (s_for_both d t s)) ≡ best_chain n lim (earlier_price d t s)
  one_price_chosen = go (best_chain n lim (price (s_for_both d t s))) (answers n lim length (price (s_for_both d t s)))
    where
      go : (o : Option (List Part)) → Answers n lim length (price (s_for_both d t s)) o → o ≡ best_chain n lim (earlier_price d t s)
      go none f = is_first n lim length (earlier_price d t s) none f
      go (some c) b = is_first n lim length (earlier_price d t s) (some c) (there c b)
