-- The run of a chain on residues: document 02, T-02.
--
-- A chain's path goes from (0, 0) up to the largest part. The run follows it back from the largest part, with a residue modulo m:
-- it doubles the residue where a has risen, triples it where b has risen, and adds x at each part.
-- Definitions only; that the run of every chain of n is n × x modulo m is in RunLaws.
use Rattle.std.specs.Prelude.{ℕ, zero, suc, ◌+◌, ◌*◌, ◌%◌, List, [], ◌∷◌}
use Rattle.chains.specs.Chains.{Part}
use Rattle.chains.specs.Words.{Word, word_of}

-- Doubling, tripling and adding x, each modulo m.
unfoldable pub doubled : ℕ → ℕ → ℕ
doubled m r = 2 * r % m

unfoldable pub tripled : ℕ → ℕ → ℕ
tripled m r = 3 * r % m

unfoldable pub added : ℕ → ℕ → ℕ → ℕ
added m x r = (r + x) % m

-- The run along a word, from its last letter back. Before any letter the residue is 0. So at the last letter, the 3 of the largest
-- part, it becomes x. Letters above 3, which no chain's word has, mark no part and move to no point.
unfoldable pub run : ℕ → ℕ → Word → ℕ
run m x [] = 0
run m x (zero ∷ w) = doubled m (run m x w)
run m x (suc zero ∷ w) = added m x (doubled m (run m x w))
run m x (suc (suc zero) ∷ w) = tripled m (run m x w)
run m x (suc (suc (suc zero)) ∷ w) = added m x (tripled m (run m x w))
run m x (suc (suc (suc (suc l))) ∷ w) = run m x w

-- The run of a chain.
unfoldable pub chain_run : ℕ → ℕ → List Part → ℕ
chain_run m x c = run m x (word_of c)
