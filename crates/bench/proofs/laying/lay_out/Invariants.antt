-- The rows are those of the parts from the i-th number on.
use Rattle.bench.proofs.Opening.{LaidFrom}
use Rattle.bench.proofs.laying.lay_out.Given as goal

abbrev pub invariant-loop-i : goal.invariant-loop-i
invariant-loop-i l = LaidFrom l.numbers l.n l.i l.rows
