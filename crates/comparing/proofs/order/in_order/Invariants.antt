-- Eight letters stand as one letter would, their number: while both words have eight left, the order is that of what is left behind
-- equal eights; then the tails decide.
use mathlib.Core.Path.{◌≡◌}
use Prim.Native.Nat.{◌*◌}
use lib.ListN.{drop}
use Rattle.comparing.specs.Answers.{order_of}
use Rattle.comparing.proofs.order.in_order.Given as goal

abbrev pub invariant-loop-k : goal.invariant-loop-k
invariant-loop-k l = order_of l.u l.v ≡ order_of (drop (8 * l.k) l.u) (drop (8 * l.k) l.v)
