-- `rows::count_in` meets its contract: the first cell of row 0 has the count, but for the number 0.
use Rattle.std.proofs.Common.{sym, arith}
use Rattle.chains.proofs.Counts.{count_0}
use Rattle.counting.specs.CellLaws.{count_in_lem}
use Rattle.counting.proofs.rows.count_in.Goals as goal

pub returns-then-n-eq0 : goal.returns-then-n-eq0
returns-then-n-eq0 c =
    rw c.if-n-eq0.true (sym count_0)

pub bounds-scratch-0 : goal.bounds-scratch-0
bounds-scratch-0 c =
    omega (arith, c.requires.size)

pub returns : goal.returns
returns c =
    count_in_lem _ _ (omega (arith, c.if-n-eq0.false)) c.requires
