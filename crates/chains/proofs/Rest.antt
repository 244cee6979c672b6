-- The rest at a point of the walk, on which the tables over the points stand.
-- The parts met before the point (a, b) sum to less than 2^a × 3^b. So what is left there, divided by 2^a × 3^b, is the floor of
-- n / (2^a × 3^b), whichever chain of n is walked. In order: the point after some letters; a word cut in two there; the rest, of
-- words and of chains. That the letters at a rest are its remainders is in Listing and Steps.
use Rattle.std.specs.Prelude.{◌≡◌, refl, List, [], ◌∷◌, ◌++◌, ℕ, zero, suc, ◌+◌, ◌*◌, ◌/◌, ◌<◌}
use Rattle.std.proofs.Common.{ap, ◌∙◌, arith}
use Rattle.std.proofs.Math.Nat.{add-mul-div_left, div-eq_of_lt}
use Rattle.chains.specs.Chains.{Part, value, total, ChainOf}
use Rattle.chains.specs.Words.{Word, origin, word_of, right, up, chain_from, chain_of}
use Rattle.chains.proofs.Divides.{value_pos}
use Rattle.chains.proofs.RoundTrip.{chain_word_chain}
use Rattle.chains.proofs.Weight.{weight, value_right, value_up, total_chain_from, total_chain_of}

-- Where the walk stands after the letters u from the point p on: a rises at 0 and 1, b at 2 and 3.
unfoldable pub point_after : Part → Word → Part
point_after p [] = p
point_after p (zero ∷ u) = point_after (right p) u
point_after p (suc zero ∷ u) = point_after (right p) u
point_after p (suc (suc zero) ∷ u) = point_after (up p) u
point_after p (suc (suc (suc zero)) ∷ u) = point_after (up p) u
point_after p (suc (suc (suc (suc x))) ∷ u) = point_after p u

-- The letters u, then those from the point after them on.
pub chain_from_append :
    (p : Part) (met : List Part) (u v : Word) → chain_from p met (u ++ v) ≡ chain_from (point_after p u) (chain_from p met u) v
unfolding chain_from point_after
chain_from_append p met [] v = refl
chain_from_append p met (zero ∷ u) v = chain_from_append (right p) met u v
chain_from_append p met (suc zero ∷ u) v = chain_from_append (right p) (p ∷ met) u v
chain_from_append p met (suc (suc zero) ∷ u) v = chain_from_append (up p) met u v
chain_from_append p met (suc (suc (suc zero)) ∷ u) v = chain_from_append (up p) (p ∷ met) u v
chain_from_append p met (suc (suc (suc (suc x))) ∷ u) v = chain_from_append p met u v

-- The parts met before a point sum to less than its value.
met_below : (p : Part) (met : List Part) (u : Word) → total met < value p → total (chain_from p met u) < value (point_after p u)
unfolding chain_from point_after total
met_below p met [] h = h
met_below p met (zero ∷ u) h = met_below (right p) met u (omega (arith, value_right p))
met_below p met (suc zero ∷ u) h = met_below (right p) (p ∷ met) u (omega (arith, value_right p))
met_below p met (suc (suc zero) ∷ u) h = met_below (up p) met u (omega (arith, value_up p))
met_below p met (suc (suc (suc zero)) ∷ u) h = met_below (up p) (p ∷ met) u (omega (arith, value_up p))
met_below p met (suc (suc (suc (suc x))) ∷ u) h = met_below p met u h

-- The same of weights: a word by its first letters and the point after them.
pub weight_append : (u v : Word) → weight (u ++ v) ≡ weight u + value (point_after origin u) * weight v
unfolding chain_of
weight_append u v = rw (← total_chain_of (u ++ v), chain_from_append, total_chain_from, total_chain_of u)

pub weight_below : (u : Word) → weight u < value (point_after origin u)
unfolding chain_of total value
weight_below u = rw (← total_chain_of u) (met_below origin [] u (omega arith))

-- The rest at a point, of any word.
pub rest_at : (u v : Word) → weight v ≡ total (chain_of (u ++ v)) / value (point_after origin u)
rest_at u v =
    let p : Part = point_after origin u in
    rw (total_chain_of, weight_append, add-mul-div_left (weight u) (weight v) (value_pos p), div-eq_of_lt (weight_below u))
    (omega arith)

-- The same for what follows, so that an edit of `rest_at` fails at its own proof.
rest_there : (u v : Word) → weight v ≡ total (chain_of (u ++ v)) / value (point_after origin u)
rest_there u v =
    let p : Part = point_after origin u in
    rw (total_chain_of, weight_append, add-mul-div_left (weight u) (weight v) (value_pos p), div-eq_of_lt (weight_below u))
    (omega arith)

-- The rest at a point of a chain's walk.
pub rest_of : (n : ℕ) (c : List Part) (u v : Word) → ChainOf n c → word_of c ≡ u ++ v → weight v ≡ n / value (point_after origin u)
rest_of n c u v h e =
    rest_there u v ∙ ap (λ (m : ℕ). m / value (point_after origin u)) (rw (← e, chain_word_chain c h.chained) h.sums)
