-- The additions of a chain, part by part. That a chain costs so much is a theorem, `price_by_neighbours`.
use Rattle.std.specs.Prelude.{cond, List, [], ◌∷◌, ℕ, ◌+◌, ltb}
use Rattle.chains.specs.Chains.{Part}
use Rattle.chains.specs.Best.{Prices}

module _ (π : Prices) where
  -- The additions of the parts c below p, largest first: s3 at a part if the next larger one has more factors 3, else s2.
  unfoldable pub by_neighbours : Part → List Part → ℕ
  by_neighbours p [] = 0
  by_neighbours p (q ∷ c) = cond (ltb q.b p.b) π.s3 π.s2 + by_neighbours q c
