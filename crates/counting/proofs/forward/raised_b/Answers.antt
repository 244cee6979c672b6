-- `forward::raised_b` meets its contract: a factor of 0 or 1 says whether the number above counts.
use Rattle.std.proofs.Common.{◌+◌, ◌*◌, ◌%◌, get_or, arith}
use Rattle.counting.specs.ForwardLaws.{raised_told, raised_low, raised_above, factor_low, times_low}
use Rattle.counting.proofs.forward.raised_b.Goals as goal

pub overflow_mul-above : goal.overflow_mul-above
overflow_mul-above c =
    omega (arith, c.requires.inside)

pub overflow_add-above : goal.overflow_add-above
overflow_add-above c =
    omega (arith, c.requires.inside)

pub overflow_add-above-2 : goal.overflow_add-above-2
overflow_add-above-2 c =
    omega (arith, c.requires.inside, raised_low c.requires)

pub offset_bounds-scratch-b : goal.offset_bounds-scratch-b
offset_bounds-scratch-b c =
    omega (arith, c.requires.inside, raised_low c.requires)

pub bounds-scratch-b : goal.bounds-scratch-b
bounds-scratch-b c =
    let r = c.requires in omega (arith, r.inside, raised_low r, r.rows.rows.size)

pub overflow_mul-result : goal.overflow_mul-result
overflow_mul-result c =
    omega (arith, (factor_low (c.args.rest % 3) c.args.free (omega arith) c.requires.flag).0)

pub overflow_add-result : goal.overflow_add-result
overflow_add-result c =
    omega (arith, (factor_low (c.args.rest % 3) c.args.free (omega arith) c.requires.flag).1)

pub overflow_mul-result-2 : goal.overflow_mul-result-2
overflow_mul-result-2 c =
    let at = 64 * c.args.b + 64 + c.args.a in
    omega (
      arith,
      times_low (get_or c.args.scratch.now at 0) _ (factor_low (c.args.rest % 3) c.args.free (omega arith) c.requires.flag).1,
    )

pub returns : goal.returns
returns c =
    raised_told _ _ _ c.requires.more (raised_above c.requires)
