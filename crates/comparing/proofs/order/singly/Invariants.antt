-- Behind equal letters the order of two words is that of what is left of them.
use mathlib.Core.Path.{◌≡◌}
use lib.ListN.{drop}
use Rattle.comparing.specs.Answers.{order_of}
use Rattle.comparing.proofs.order.singly.Given as goal

abbrev pub invariant-loop-i : goal.invariant-loop-i
invariant-loop-i l = order_of (drop l.from l.u) (drop l.from l.v) ≡ order_of (drop l.i l.u) (drop l.i l.v)
