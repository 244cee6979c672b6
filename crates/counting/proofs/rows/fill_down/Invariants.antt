-- `rows::fill_down` meets its contract: the rows from i on are filled, from those in which nothing is left down to k.
use Rattle.std.proofs.Common.{max}
use Rattle.counting.specs.Table.{CountsFilled}
use Rattle.counting.proofs.rows.fill_down.Given as goal

abbrev pub invariant-loop-b : goal.invariant-loop-b
invariant-loop-b l = CountsFilled l.n (max l.b l.k) l.initial.scratch l.scratch
