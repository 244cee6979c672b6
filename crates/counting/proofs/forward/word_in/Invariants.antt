-- `forward::word_in` meets its contract: at each turn the walk passes a letter of the word, in rows that are there.
use Rattle.std.proofs.Common.{ℕ, ◌-◌, List}
use Rattle.counting.specs.Forward.{Passed, RowsFor}
use Rattle.counting.proofs.forward.word_in.Given as goal

-- The walk has passed `at` letters, and stands in the rows of m.
pub record Going (n i : ℕ) (scratch : List ℕ) (at m a b free rest total left rises marks : ℕ) : Type 0 where
  pub passed : Passed n i at free rest total left rises marks
  pub rows : RowsFor m a b rest scratch

abbrev pub invariant-loop-w : goal.invariant-loop-w
invariant-loop-w l = Going l.n l.i l.scratch l.at l.w.m l.w.a l.w.b l.w.free l.w.rest l.w.total l.w.left l.w.rises l.w.marks

abbrev pub decreases-loop-w : goal.decreases-loop-w
decreases-loop-w l = 64 - l.at
