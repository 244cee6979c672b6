-- Price, limits, the best chain and the cheapest: document 01, 'Parts and chains' and 'Services and memory'; document 02, T-04 and
-- T-10; demand 3.
--
-- In this order: prices and limits; how many chains have at most K parts; what makes a chain the first of all by two measures, and so
-- the best (`IsBest`) or the cheapest (`IsCheapest`); that chain as a function (`best_chain`, `cheapest_chain`). The last two are defined
-- for any `cost` of a chain. The services use `price π`, where π are the prices that they are given.
-- Definitions only. That the functions give these chains, and none exactly where none is within the limits, is in BestLaws; laws of the
-- price are in PriceLaws, those of the count in PartLimit.
use Rattle.std.specs.Prelude.{◌≡◌, ◌⊎◌, ◌≢◌, Bool, true, cond, ◌&&◌, ◌||◌, List, [], ◌∷◌, ℕ, suc, ◌+◌, ◌-◌, ◌*◌, ◌≤◌, ◌<◌, min, ltb, leb, eqb, length}
use Rattle.std.proofs.Math.Option.{Option, none, some}
use Rattle.chains.specs.Chains.{Part, ChainOf}
use Rattle.chains.specs.Words.{Word, word_of, chain_of}
use Rattle.chains.specs.Listing.{keep, list_of, position}

-- ---- prices and limits

-- The prices of a doubling, of a tripling, of an addition at a point with letter 1, and of one at a point with letter 3.
pub record Prices : Type 0 where
  pub d : ℕ
  pub t : ℕ
  pub s2 : ℕ
  pub s3 : ℕ

-- How often a letter stands in a word.
unfoldable pub occurs : ℕ → Word → ℕ
occurs l [] = 0
occurs l (x ∷ w) = cond (eqb x l) (suc (occurs l w)) (occurs l w)

-- What the additions of a word cost: s2 at each letter 1, s3 at each letter 3 but the last. The last point is the largest part, to
-- which the others are added.
unfoldable pub additions : Prices → Word → ℕ
additions π w = π.s2 * occurs 1 w + π.s3 * (occurs 3 w - 1)

-- The price of a chain: d × a + t × b, where 2^a × 3^b is the largest part, and what the additions of its word cost. The empty
-- chain costs 0.
unfoldable pub price : Prices → List Part → ℕ
price π [] = 0
price π (p ∷ c) = π.d * p.a + π.t * p.b + additions π (word_of (p ∷ c))

-- The limits: K on parts, A on doublings, B on triplings.
pub record Limits : Type 0 where
  pub K : ℕ
  pub A : ℕ
  pub B : ℕ

-- c is within the limits. The empty chain is within any.
unfoldable pub Within : Limits → List Part → Type 0
Within lim [] = Unit {0}
Within lim (p ∷ c) = (length (p ∷ c) ≤ lim.K) × (p.a ≤ lim.A) × (p.b ≤ lim.B)

-- The limits cut down to 64, 63 and 40: values above these exclude nothing.
unfoldable pub cut : Limits → Limits
cut lim = record { K = min lim.K 64; A = min lim.A 63; B = min lim.B 40 }

-- No chain of n is within the limits.
abbrev pub NoneFits : ℕ → Limits → Type 0
NoneFits n lim = (c : List Part) → ChainOf n c → Within lim c → ⊥

-- ---- chains with at most K parts

-- Their words, in the order of the list of n,
unfoldable pub list_up_to : ℕ → ℕ → List Word
list_up_to K n = keep (λ (w : Word). leb (length (chain_of w)) K) (list_of n)

-- and how many they are.
unfoldable pub count_up_to : ℕ → ℕ → ℕ
count_up_to K n = length (list_up_to K n)

-- ---- what makes a chain the first of all

-- What chains are compared by, as the number of parts or a cost.
abbrev pub Measure : Type 0
Measure = List Part → ℕ

-- c goes before c', both chains of n: it has less of the first measure, or as much and less of the second, or the same and an earlier
-- position.
unfoldable pub Ahead : ℕ → Measure → Measure → List Part → List Part → Type 0
Ahead n major minor c c' =
    (major c < major c')
    ⊎ ((major c ≡ major c') × ((minor c < minor c') ⊎ ((minor c ≡ minor c') × (position n c < position n c'))))

-- Of the chains of n within the limits c is the first: it goes before every other one.
pub record IsFirst (n : ℕ) (lim : Limits) (major minor : Measure) (c : List Part) : Type 0 where
  pub chain : ChainOf n c
  pub within : Within lim c
  pub first : (c' : List Part) → ChainOf n c' → Within lim c' → c' ≢ c → Ahead n major minor c c'

-- The best chain: every other one has more parts, or as many and a higher cost, or the same and a later position.
abbrev pub IsBest : ℕ → Limits → Measure → List Part → Type 0
IsBest n lim cost c = IsFirst n lim length cost c

-- The cheapest chain: every other one has a higher cost, or the same and more parts, or as many and a later position.
abbrev pub IsCheapest : ℕ → Limits → Measure → List Part → Type 0
IsCheapest n lim cost c = IsFirst n lim cost length c

-- ---- the first chain

-- The test of the limits.
unfoldable pub is_within : Limits → List Part → Bool
is_within lim [] = true
is_within lim (p ∷ c) = leb (length (p ∷ c)) lim.K && (leb p.a lim.A && leb p.b lim.B)

-- c has less of the first measure than c', or as much and less of the second.
unfoldable pub lower : Measure → Measure → List Part → List Part → Bool
lower major minor c c' = ltb (major c) (major c') || (eqb (major c) (major c') && ltb (minor c) (minor c'))

-- Of c and a chain that stands after it, if there is one: the later one only if it is lower.
unfoldable pub sooner : Measure → Measure → List Part → Option (List Part) → Option (List Part)
sooner major minor c none = some c
sooner major minor c (some c') = cond (lower major minor c' c) (some c') (some c)

-- Of the chains of a list of words that are within the limits, the first than which none is lower.
unfoldable pub first_among : Limits → Measure → Measure → List Word → Option (List Part)
first_among lim major minor [] = none
first_among lim major minor (w ∷ ws) =
    let later = first_among lim major minor ws in
    cond (is_within lim (chain_of w)) (sooner major minor (chain_of w) later) later

-- The first chain of n within the limits, if there is one:
unfoldable pub first_chain : ℕ → Limits → Measure → Measure → Option (List Part)
first_chain n lim major minor = first_among lim major minor (list_of n)

-- the best one, which has the fewest parts and then the lowest cost,
abbrev pub best_chain : ℕ → Limits → Measure → Option (List Part)
best_chain n lim cost = first_chain n lim length cost

-- and the cheapest, which has the lowest cost and then the fewest parts.
abbrev pub cheapest_chain : ℕ → Limits → Measure → Option (List Part)
cheapest_chain n lim cost = first_chain n lim cost length
