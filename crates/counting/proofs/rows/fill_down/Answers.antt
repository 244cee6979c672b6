-- `rows::fill_down` meets its contract: the rows from i on are filled, from those in which nothing is left down to k.
use Rattle.std.proofs.Common.{◌≡◌, ℕ, suc, ◌-◌, ◌<◌, ◌≤◌, max, List, arith, rules}
use Rattle.lent.specs.LentLaws.{used_none, used_on}
use Rattle.grid.specs.Fill.{rows_few, rows_begin}
use Rattle.counting.specs.Table.{count_cell, CountRows, CountsFilled}
use Rattle.counting.proofs.rows.fill_down.Goals as goal

-- Row i − 1 is next.
next : {n i : ℕ} {entry l : List ℕ} (k : ℕ) → CountsFilled n (max i k) entry l → i ≤ 41 → k < i → CountRows n (suc (i - 1)) l × (i - 1 < 41)
next {i = i} k f h g =
    let e : max i k ≡ suc (i - 1) = omega arith in
    (rw e at f.rows, omega arith)

-- It is filled.
more : {n i : ℕ} {entry between l : List ℕ} (k : ℕ) → CountsFilled n (max i k) entry between → k < i → CountsFilled n (i - 1) between l
    → CountsFilled n (max (i - 1) k) entry l
more {i = i} k f h g =
    let e : max (i - 1) k ≡ i - 1 = omega arith in
    rw e (record { rows = g.rows; used = used_on f.used g.used })

pub loop-b-init : goal.loop-b-init
loop-b-init c =
    let r = c.put_rests-rows.ensures in
    record { rows = (rows_begin 0 6 count_cell (omega arith) c.args.scratch.now (omega arith) (search rules) r.value r.part_after (max c.put_rests-rows.result c.args.k) (omega arith)).rows; used = used_none }

pub fill_next-requires : goal.fill_next-requires
fill_next-requires c =
    let r = c.put_rests-rows.ensures in
    next _ c.loop-b.invariant
    (omega (arith, c.loop-b.auto.b, rows_few 0 6 count_cell (omega arith) c.args.scratch.now (omega arith) (search rules) r.value r.part_after))
    c.loop-b-test.true

pub loop-b-preserved : goal.loop-b-preserved
loop-b-preserved c = more _ c.loop-b.invariant c.loop-b-test.true c.fill_next.ensures

pub returns : goal.returns
returns c =
    let r = c.put_rests-rows.ensures in
    let f = rows_begin 0 6 count_cell (omega arith) c.args.scratch.now (omega arith) (search rules) r.value r.part_after c.put_rests-rows.result (omega arith) in
    let e : max c.loop-b.b c.args.k ≡ c.args.k = omega arith in
    record { rows = rw e at c.loop-b.invariant.rows; used = used_on f.used c.loop-b.invariant.used }
