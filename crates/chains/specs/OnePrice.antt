-- The price that document 01 gave a chain, and prices with the same for every addition. The laws are in proofs/OnePrice.antt.
use Rattle.std.specs.Prelude.{List, [], ◌∷◌, ℕ, ◌+◌, ◌*◌, length}
use Rattle.chains.specs.Chains.{Part}
use Rattle.chains.specs.Best.{Prices}

-- Document 01's price of a chain: d × a + t × b + s × (k − 1), where 2^a × 3^b is the largest part and k the number of parts. The
-- empty chain costs 0.
unfoldable pub earlier_price : ℕ → ℕ → ℕ → List Part → ℕ
earlier_price d t s [] = 0
earlier_price d t s (p ∷ c) = d * p.a + t * p.b + s * length c

-- The prices with s for every addition.
abbrev pub s_for_both : ℕ → ℕ → ℕ → Prices
s_for_both d t s = record { d = d; t = t; s2 = s; s3 = s }
