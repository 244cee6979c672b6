-- `rows::fill_row` meets its contract. The last live column has the rest 1, and behind it nothing is left; then come those below
-- it. In a row with the rest 0 nothing is left at all.
use Rattle.std.proofs.Common.{◌≡◌, ℕ, suc, ◌+◌, ◌-◌, ◌*◌, ◌/◌, ◌^◌, ◌<◌, ◌≤◌, true, List, set, sym, arith}
use Rattle.counting.specs.CellLaws.{cell_at_1}
use Rattle.grid.specs.Grid.{RowAsked, RowFilled}
use Rattle.grid.specs.Rests.{rest_at_top}
use Rattle.grid.specs.Fill.{dead_columns, column, filled_on, asked_top}
use Rattle.counting.specs.Table.{count_cell, LiveAsked}
use Rattle.counting.proofs.rows.fill_row.Goals as goal

-- The column `top`: behind it, from live = top + 1 on, nothing is left.
module _ {b m q up live : ℕ} {part : List ℕ} (r : RowAsked count_cell b m q up part)
    (l : (live ≤ 64) × (m < 2 ^ live) × (2 ^ live ≤ 2 * m + 1)) (h : 0 < live) where
  at_top : m / 2 ^ (live - 1) ≡ 1
  at_top =
      let e : live ≡ suc (live - 1) = omega arith in
      let low : 2 ^ suc (live - 1) ≤ 2 * m + 1 = rw e at l.2 in
      let high : m < 2 ^ suc (live - 1) = rw e at l.1 in
      rest_at_top m (live - 1) (omega arith) high

  top_filled : RowFilled count_cell b m (live - 1) part (set part (live - 1) 1)
  top_filled =
      column count_cell 1 (omega arith) l.0 (omega (arith, r.room)) (rw at_top (sym (cell_at_1 true)))
      (dead_columns count_cell b m live part l.1)

  live_asked : LiveAsked b m q up (live - 1) (set part (live - 1) 1)
  live_asked =
      record {
        asked = asked_top count_cell 1 r at_top (omega (arith, l.0));
        last = omega (arith, l.0);
        at_top = at_top;
        filled = top_filled.row;
      }

pub returns-then-live-eq0 : goal.returns-then-live-eq0
returns-then-live-eq0 c =
    let args = c.args in
    let e : c.live_columns-live.result ≡ 0 = omega arith in
    rw e at (dead_columns count_cell args.b args.m c.live_columns-live.result args.part.now c.live_columns-live.ensures.1)

pub bounds-part-top : goal.bounds-part-top
bounds-part-top c =
    omega (arith, c.live_columns-live.ensures.0, c.requires.room)

pub fill_live-requires : goal.fill_live-requires
fill_live-requires c =
    live_asked c.requires c.live_columns-live.ensures (omega arith)

pub returns : goal.returns
returns c =
    filled_on count_cell (top_filled c.requires c.live_columns-live.ensures (omega arith)) c.fill_live.ensures

pub shape_of-part : goal.shape_of-part
shape_of-part c =
    (returns c).same
