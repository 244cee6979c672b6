-- The number that a word stands for, read from its first letter on, and that it is the sum of the word's chain.
-- A step of the walk doubles or triples what the later letters stand for; a letter 1 or 3 adds one.
-- Which words stand for n is in Members.
use Rattle.std.specs.Prelude.{◌≡◌, List, [], ◌∷◌, ℕ, zero, suc, ◌+◌, ◌*◌}
use Rattle.std.proofs.Common.{◌∙◌, pow-suc, arith}
use Rattle.chains.specs.Chains.{Part, value, total}
use Rattle.chains.specs.Words.{Word, origin, right, up, chain_from, chain_of}

-- Letters above 3 mark no part and move to no point.
unfoldable pub weight : Word → ℕ
weight [] = 0
weight (zero ∷ w) = 2 * weight w
weight (suc zero ∷ w) = 1 + 2 * weight w
weight (suc (suc zero) ∷ w) = 3 * weight w
weight (suc (suc (suc zero)) ∷ w) = 1 + 3 * weight w
weight (suc (suc (suc (suc x))) ∷ w) = weight w

-- Where a rises the value doubles, where b rises it triples.
pub value_right : (p : Part) → value (right p) ≡ 2 * value p
unfolding value right
value_right p = rw pow-suc (omega arith)

pub value_up : (p : Part) → value (up p) ≡ 3 * value p
unfolding value up
value_up p = rw pow-suc (omega arith)

-- The parts that w marks from p on, with those met so far.
pub total_chain_from : (p : Part) (met : List Part) (w : Word) → total (chain_from p met w) ≡ total met + value p * weight w
unfolding chain_from total weight
total_chain_from p met [] = omega arith
total_chain_from p met (zero ∷ w) = total_chain_from (right p) met w ∙ rw value_right (omega arith)
total_chain_from p met (suc zero ∷ w) = total_chain_from (right p) (p ∷ met) w ∙ rw value_right (omega arith)
total_chain_from p met (suc (suc zero) ∷ w) = total_chain_from (up p) met w ∙ rw value_up (omega arith)
total_chain_from p met (suc (suc (suc zero)) ∷ w) = total_chain_from (up p) (p ∷ met) w ∙ rw value_up (omega arith)
total_chain_from p met (suc (suc (suc (suc x))) ∷ w) = total_chain_from p met w

-- The sum of a word's chain is the number that the word stands for.
pub total_chain_of : (w : Word) → total (chain_of w) ≡ weight w
unfolding chain_of total value
total_chain_of w = total_chain_from origin [] w ∙ omega arith
