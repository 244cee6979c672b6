-- `forward::with_rows` meets its contract: the rest is the number of the new rows, and the walk stands at their first point.
use Rattle.std.proofs.Common.{refl, arith}
use Rattle.counting.specs.ForwardLaws.{rows_again}
use Rattle.counting.proofs.forward.with_rows.Goals as goal

pub returns-then-w-lt6 : goal.returns-then-w-lt6
returns-then-w-lt6 c =
    (c.requires, c.if-w-lt6.true, record { free_is = refl; rest_is = refl; total_is = refl; left_is = refl; rises_is = refl; marks_is = refl })

pub returns : goal.returns
returns c = (
  rows_again c.requires c.fill_down.ensures,
  omega arith,
  record { free_is = refl; rest_is = refl; total_is = refl; left_is = refl; rises_is = refl; marks_is = refl },
)
