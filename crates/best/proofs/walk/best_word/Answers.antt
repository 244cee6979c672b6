-- `best_word` tells the best word row by row: the bits of the letters up to the walk's point are told. Each row leads to a later
-- row or column.
use Rattle.std.proofs.Common.{arith}
use Rattle.best.specs.WalkLaws.{walk_begun, walk_low, ends_fit, walk_ended}
use Rattle.best.proofs.walk.best_word.Goals as goal

pub loop-w-init : goal.loop-w-init
loop-w-init c =
    walk_begun c.requires

pub overflow_add-w : goal.overflow_add-w
overflow_add-w c =
    omega (arith, walk_low c.loop-w.invariant c.ranges.n.fits)

pub offset_bounds-scratch-w : goal.offset_bounds-scratch-w
offset_bounds-scratch-w c =
    omega (arith, walk_low c.loop-w.invariant c.ranges.n.fits)

pub bounds-scratch-w : goal.bounds-scratch-w
bounds-scratch-w c =
    omega (arith, walk_low c.loop-w.invariant c.ranges.n.fits, c.requires.turned.size)

pub walk_row-w-requires : goal.walk_row-w-requires
walk_row-w-requires c =
    let b = walk_low c.loop-w.invariant c.ranges.n.fits in
    record {
      turned = c.requires.turned;
      walked = c.loop-w.invariant;
      more = omega (arith, c.requires.turned.rests c.loop-w.w.b (omega arith), c.loop-w-test.true);
    }

pub loop-w-smaller : goal.loop-w-smaller
loop-w-smaller c =
    omega (arith, c.walk_row-w.ensures.b_bound)

pub loop-w-preserved : goal.loop-w-preserved
loop-w-preserved c =
    c.walk_row-w.ensures.walked_to

pub overflow_shl-last : goal.overflow_shl-last
overflow_shl-last c =
    omega (arith, walk_low c.loop-w.invariant c.ranges.n.fits)

pub overflow_add-result : goal.overflow_add-result
overflow_add-result c =
    omega (arith, ends_fit c.loop-w.invariant c.ranges.n.fits)

pub overflow_add-result-2 : goal.overflow_add-result-2
overflow_add-result-2 c =
    omega (arith, ends_fit c.loop-w.invariant c.ranges.n.fits)

pub returns : goal.returns
returns c =
    let told = (let b = walk_low c.loop-w.invariant c.ranges.n.fits in
    walk_ended c.loop-w.invariant c.ranges.n.fits
    (omega (arith, c.requires.turned.rests c.loop-w.w.b (omega arith), c.loop-w-test.false))) in
    record { rises_value = told.0; marks_value = told.1 }
