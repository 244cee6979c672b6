-- `is_chain` knows of the rows from i on that they are laid out as a chain, their lowest one bit and their sum, at most n; a row that does
-- not fit below these refuses every chain of n.
use Rattle.std.proofs.Common.{drop}
use Rattle.bench.proofs.ChainTest.{Looked}
use Rattle.bench.proofs.rows.is_chain.Given as goal

abbrev pub invariant-loop-i : goal.invariant-loop-i
invariant-loop-i l = Looked l.n l.least l.sum (drop l.i l.rows)
