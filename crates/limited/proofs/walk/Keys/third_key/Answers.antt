-- `third_key` reads the block above only where b may rise, and there something is left.
use native.Mathlib.Omega.{arith}
use Rattle.limited.specs.WalkLaws.{bounds, above_in, above_fits, third_1, third_0, third_0_fits, third_shut, third_2}
use Rattle.limited.proofs.walk.Keys.third_key.Goals as goal

pub row_size-up-requires : goal.row_size-up-requires
row_size-up-requires c =
    omega (arith, bounds c.args.self.now.keyed c.requires)

pub overflow_add-result : goal.overflow_add-result
overflow_add-result c =
    omega (arith, c.row_size-up.ensures, bounds c.args.self.now.keyed c.requires)

pub overflow_add-result-then-w-eq1 : goal.overflow_add-result-then-w-eq1
overflow_add-result-then-w-eq1 c =
    omega (arith, c.row_size-up.ensures, bounds c.args.self.now.keyed c.requires)

pub overflow_sub-result : goal.overflow_sub-result
overflow_sub-result c =
    omega (arith, c.row_size-up.ensures, bounds c.args.self.now.keyed c.requires)

pub offset_bounds-self-at : goal.offset_bounds-self-at
offset_bounds-self-at c =
    omega (arith, c.row_size-up.ensures, bounds c.args.self.now.keyed c.requires)

pub bounds-self-at : goal.bounds-self-at
bounds-self-at c =
    omega (
      arith,
      c.row_size-up.ensures,
      bounds c.args.self.now.keyed c.requires,
      above_in c.args.self.now.keyed c.requires (omega (arith, c.if-w-eq1.true)),
    )

pub overflow_add-result-then-w-eq1-2 : goal.overflow_add-result-then-w-eq1-2
overflow_add-result-then-w-eq1-2 c =
    let k = above_fits c.args.self.now.keyed c.requires (omega (arith, c.if-w-eq1.true)) 1 c.if-w-eq1.true in
    rw c.row_size-up.ensures (omega (arith, k, c.args.self.now.keyed.low.each 3))

pub returns-then-w-eq1 : goal.returns-then-w-eq1
returns-then-w-eq1 c =
    rw c.row_size-up.ensures (third_1 c.args.self.now.keyed c.requires c.if-w-eq1.true)

pub overflow_add-result-then-w : goal.overflow_add-result-then-w
overflow_add-result-then-w c =
    omega (arith, c.row_size-up.ensures, bounds c.args.self.now.keyed c.requires)

pub overflow_add-result-then-w-2 : goal.overflow_add-result-then-w-2
overflow_add-result-then-w-2 c =
    omega (arith, c.row_size-up.ensures, bounds c.args.self.now.keyed c.requires)

pub offset_bounds-self-at-then-w : goal.offset_bounds-self-at-then-w
offset_bounds-self-at-then-w c =
    omega (arith, c.row_size-up.ensures, bounds c.args.self.now.keyed c.requires)

pub bounds-self-at-then-w : goal.bounds-self-at-then-w
bounds-self-at-then-w c =
    omega (
      arith,
      c.row_size-up.ensures,
      bounds c.args.self.now.keyed c.requires,
      above_in c.args.self.now.keyed c.requires (omega (arith, c.if-w-eq0.true)),
    )

pub overflow_add-result-then-w-3 : goal.overflow_add-result-then-w-3
overflow_add-result-then-w-3 c =
    rw c.row_size-up.ensures
    (omega (arith, third_0_fits c.args.self.now.keyed c.requires c.if-w-eq0.true, c.args.self.now.keyed.low.each 2))

pub returns-then-w : goal.returns-then-w
returns-then-w c =
    rw c.row_size-up.ensures
    (third_0 c.args.self.now.keyed c.requires c.if-w-eq0.true c.if-w.true)

pub returns-else-w : goal.returns-else-w
returns-else-w c =
    third_shut c.args.self.now.keyed c.requires c.if-w-eq0.true c.if-w.false

pub returns-else-w-eq0 : goal.returns-else-w-eq0
returns-else-w-eq0 c =
    third_2 c.args.self.now.keyed c.requires c.if-w-eq0.false c.if-w-eq1.false
