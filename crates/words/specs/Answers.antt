-- What the weighing answers, at all inputs: document 01, 'Path words', 'Services and memory'. What the readers answer is in the crate
-- chains, in Words.
use Rattle.std.specs.Prelude.{Option, Some, None, cond, ℕ, ◌^◌, ltb}
use Rattle.chains.specs.Chains.{total}
use Rattle.chains.specs.Words.{Word, chain_of}

-- A number, or that it is 2^64 or more.
unfoldable pub sized : ℕ → Option ℕ
sized n = cond (ltb n (2 ^ 64)) (Some n) None

-- The sum of the parts that a word marks, or that it is 2^64 or more.
unfoldable pub weighed_of : Word → Option ℕ
weighed_of w = sized (total (chain_of w))
