-- `rows::fill_live` meets its contract. Each turn fills one column more from the one right of it, whose number for the reader after
-- a has risen is carried along, and from the row above, of which only columns that are not filled over yet are read. The bits of
-- the masks are the factors by which the number above counts or not. Each sum is a number of ways, which is at most the rest, so
-- nothing wraps.
use Rattle.std.proofs.Common.{◌≡◌, ℕ, ◌/◌, ◌^◌, ◌<◌, ◌≤◌, false, List}
use Rattle.chains.specs.Listing.{ways}
use Rattle.grid.specs.Grid.{RowFilled, Ahead}
use Rattle.counting.specs.Table.{count_cell}
use Rattle.counting.proofs.rows.fill_live.Given as goal

-- The columns from a on are filled, and `right` is column a's number for the reader after a has risen.
pub record Filling (b m up : ℕ) (entry part : List ℕ) (right a : ℕ) : Type 0 where
  pub filled : RowFilled count_cell b m a entry part
  pub ahead : Ahead up a entry part
  pub last : a < 64
  pub live : 1 ≤ m / 2 ^ a
  pub carried : right ≡ ways false (m / 2 ^ a)

abbrev pub invariant-loop-a : goal.invariant-loop-a
invariant-loop-a l = Filling l.b l.m l.up l.initial.part l.part l.right l.a
