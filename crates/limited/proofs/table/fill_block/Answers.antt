-- `fill_block` fills its block: at each turn the cells for fewer than k parts are right.
use Rattle.std.proofs.Common.{◌≡◌, suc, add-one, arith}
use Rattle.limited.specs.TableLaws.{filled_more, cell_still}
use Rattle.limited.proofs.table.fill_block.Goals as goal

pub cell-cell-requires : goal.cell-cell-requires
cell-cell-requires g c =
    cell_still _ c.requires c.loop-k.invariant (omega arith)

pub loop-k-preserved : goal.loop-k-preserved
loop-k-preserved g c =
    let e = c.cell-cell.ensures in
    let p = c.requires in
    rw add-one (filled_more (omega (arith, p.few)) p.lent.room e.free e.after_a c.loop-k.invariant)

pub returns-2 : goal.returns-2
returns-2 g c =
    let e = c.cell-cell.ensures in
    let p = c.requires in
    let last : suc c.args.most ≡ suc c.loop-k.k = omega arith in
    rw last (filled_more (omega (arith, p.few)) p.lent.room e.free e.after_a c.loop-k.invariant)
