-- The numbers that 003's proposition 5 names for one chain and for two, told by the number alone: document 02, T-11.
-- Definitions only. That these are exactly the numbers with one chain and with two is in FewLaws, what that means for the list of n in
-- FewLists, and how many such numbers are below 2^64 in FewNumbers.
use Rattle.std.specs.Prelude.{◌≡◌, ◌⊎◌, ◌≢◌, List, [], ◌∷◌, ◌++◌, ℕ, zero, suc, ◌*◌, ◌-◌, ◌^◌}
use Rattle.chains.specs.Chains.{Part, ChainOf}

-- n is c × 2^a − 1, with a from 0.
unfoldable pub OneBelow : ℕ → ℕ → Type 0
OneBelow c n = (a : ℕ) × (n ≡ c * 2 ^ a - 1)

-- Named for one chain: 0, 1 and 3 × 2^a − 1.
unfoldable pub NamedForOne : ℕ → Type 0
NamedForOne n = (n ≡ 0) ⊎ (n ≡ 1) ⊎ OneBelow 3 n

-- Named for two: 3, 4, 6, 7, 9 × 2^a − 1 and 15 × 2^a − 1.
unfoldable pub NamedForTwo : ℕ → Type 0
NamedForTwo n = (n ≡ 3) ⊎ (n ≡ 4) ⊎ (n ≡ 6) ⊎ (n ≡ 7) ⊎ OneBelow 9 n ⊎ OneBelow 15 n

-- n has the chain c and no other.
unfoldable pub OnlyChain : ℕ → List Part → Type 0
OnlyChain n c = ChainOf n c × ((e : List Part) → ChainOf n e → e ≡ c)

-- n has the chains c and d, which differ, and no other.
unfoldable pub OnlyChains : ℕ → List Part → List Part → Type 0
OnlyChains n c d = ChainOf n c × ChainOf n d × (c ≢ d) × ((e : List Part) → ChainOf n e → (e ≡ c) ⊎ (e ≡ d))

-- The numbers c × 2^a − 1 for all a below k.
unfoldable pub family : ℕ → ℕ → List ℕ
family c zero = []
family c (suc a) = (c * 2 ^ a - 1) ∷ family c a

-- The numbers below 2^64 that are named for one chain, and those for two.
unfoldable pub with_one : List ℕ
with_one = 0 ∷ 1 ∷ family 3 63

unfoldable pub with_two : List ℕ
with_two = 3 ∷ 4 ∷ 6 ∷ 7 ∷ (family 9 61 ++ family 15 61)
