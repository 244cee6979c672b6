-- `fill_rows` fills the rows from the last one down: at each turn those from b on are filled, and row b begins at `at`.
use Rattle.std.proofs.Common.{◌≡◌, ℕ, suc, ◌+◌, ◌-◌, ◌*◌, ◌/◌, ◌≤◌, ◌<◌, ap, ◌∙◌, arith}
use Rattle.limited.specs.Table.{width, start}
use Rattle.std.proofs.Math.Nat.{one-le-pow}
use Rattle.limited.specs.TableLaws.{start_next, start_last, start_low, three_fits, rows_none, row_lent, row_more}
use Rattle.limited.proofs.table.fill_rows.Goals as goal

-- Row b − 1 is next.
next : (b at up : ℕ) → 0 < b → b ≤ 41 → at ≡ 130 * start b → up ≡ 130 * width (b - 1)
    → (at ≡ up + 130 * start (b - 1)) × (at ≤ 174720)
next b at up h k ea eu =
    let s : start b ≡ start (b - 1) + width (b - 1) = ap start {x = b} {y = suc (b - 1)} (omega arith) ∙ start_next (b - 1) in
    (omega arith, omega (arith, start_low b k))

pub loop-b-init : goal.loop-b-init
loop-b-init g c =
    record { filled = rows_none _ _ _ _; place = omega (arith, start_last) }

pub overflow_sub-at : goal.overflow_sub-at
overflow_sub-at g c =
    omega (arith, next _ _ _ c.loop-b-test.true c.loop-b.auto.b c.loop-b.invariant.place c.row_size-up.ensures)

pub pow-requires : goal.pow-requires
pow-requires g c =
    three_fits _ (omega (arith, c.loop-b.auto.b))

pub nonzero_div-first : goal.nonzero_div-first
nonzero_div-first g c =
    rw c.pow.ensures (one-le-pow (c.loop-b.b - 1) 3 (omega arith))

pub offset_bounds-scratch-at : goal.offset_bounds-scratch-at
offset_bounds-scratch-at g c =
    omega (arith, next _ _ _ c.loop-b-test.true c.loop-b.auto.b c.loop-b.invariant.place c.row_size-up.ensures)

pub slice_bounds-fill_row-count : goal.slice_bounds-fill_row-count
slice_bounds-fill_row-count g c =
    omega (arith, next _ _ _ c.loop-b-test.true c.loop-b.auto.b c.loop-b.invariant.place c.row_size-up.ensures)

pub slice_bounds-fill_row-start : goal.slice_bounds-fill_row-start
slice_bounds-fill_row-start g c =
    omega (arith, next _ _ _ c.loop-b-test.true c.loop-b.auto.b c.loop-b.invariant.place c.row_size-up.ensures)

pub fill_row-requires-clause-lent : goal.fill_row-requires-clause-lent
fill_row-requires-clause-lent g c =
    let i = c.loop-b.invariant in
    row_lent c.ranges.n.fits (omega arith) (c.loop-b.b - 1) c.loop-b.b (omega arith) c.loop-b.auto.b i.filled
    _ _ _ (omega (arith, next _ _ _ c.loop-b-test.true c.loop-b.auto.b c.loop-b.invariant.place c.row_size-up.ensures)) (ap (λ (x : ℕ). c.args.n / x) c.pow.ensures) c.row_size-up.ensures (omega arith)

pub loop-b-preserved : goal.loop-b-preserved
loop-b-preserved g c =
    let i = c.loop-b.invariant in
    record {
      filled =
          row_more c.ranges.n.fits (omega arith) (c.loop-b.b - 1) c.loop-b.b (omega arith) c.loop-b.auto.b i.filled
          _ _ _ (omega (arith, next _ _ _ c.loop-b-test.true c.loop-b.auto.b c.loop-b.invariant.place c.row_size-up.ensures)) (ap (λ (x : ℕ). c.args.n / x) c.pow.ensures) c.row_size-up.ensures (omega arith) _ c.fill_row.ensures;
      place = omega (arith, next _ _ _ c.loop-b-test.true c.loop-b.auto.b c.loop-b.invariant.place c.row_size-up.ensures);
    }
