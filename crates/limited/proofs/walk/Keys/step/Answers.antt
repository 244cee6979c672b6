-- `step` takes the letter that the smaller key follows, a rise of a where both are equal.
use Prim.Native.Nat.{◌%◌}
use native.Mathlib.Omega.{arith}
use Rattle.limited.specs.WalkLaws.{times_bit, bounds, right_in_lem, half_is, half_fits, may_rise, step_a, step_b}
use Rattle.limited.proofs.walk.Keys.step.Goals as goal

pub overflow_add-half : goal.overflow_add-half
overflow_add-half c =
    omega (arith, bounds c.args.self.now.keyed c.requires)

pub overflow_add-half-2 : goal.overflow_add-half-2
overflow_add-half-2 c =
    omega (arith, bounds c.args.self.now.keyed c.requires)

pub overflow_sub-half : goal.overflow_sub-half
overflow_sub-half c =
    omega (arith, bounds c.args.self.now.keyed c.requires)

pub offset_bounds-self-w : goal.offset_bounds-self-w
offset_bounds-self-w c =
    omega (arith, bounds c.args.self.now.keyed c.requires)

pub bounds-self-w : goal.bounds-self-w
bounds-self-w c =
    omega (arith, bounds c.args.self.now.keyed c.requires, right_in_lem c.args.self.now.keyed c.requires)

pub overflow_add-half-3 : goal.overflow_add-half-3
overflow_add-half-3 c =
    omega (arith, half_fits c.args.self.now.keyed c.requires)

pub overflow_add-result : goal.overflow_add-result
overflow_add-result c =
    omega (arith, bounds c.args.self.now.keyed c.requires)

pub overflow_add-result-then-half-third : goal.overflow_add-result-then-half-third
overflow_add-result-then-half-third c =
    omega (arith, bounds c.args.self.now.keyed c.requires)

pub overflow_sub-result : goal.overflow_sub-result
overflow_sub-result c =
    omega (arith, bounds c.args.self.now.keyed c.requires)

pub overflow_mul-result : goal.overflow_mul-result
overflow_mul-result c =
    omega (arith, bounds c.args.self.now.keyed c.requires)

pub overflow_mul-result-then-half-third : goal.overflow_mul-result-then-half-third
overflow_mul-result-then-half-third c =
    omega (arith, bounds c.args.self.now.keyed c.requires, times_bit c.args.w.letter (c.args.w.rest % 2) (omega arith))

pub overflow_add-result-then-half-third-2 : goal.overflow_add-result-then-half-third-2
overflow_add-result-then-half-third-2 c =
    omega (arith, bounds c.args.self.now.keyed c.requires, times_bit c.args.w.letter (c.args.w.rest % 2) (omega arith))

pub returns-then-half-third : goal.returns-then-half-third
returns-then-half-third c =
    step_a c.args.self.now.keyed c.requires (omega (arith, half_is c.args.self.now.keyed c.requires, c.third_key-third.ensures, c.if-half-third.true))

pub row_size-up-requires : goal.row_size-up-requires
row_size-up-requires c =
    omega (arith, bounds c.args.self.now.keyed c.requires)

pub overflow_add-result-2 : goal.overflow_add-result-2
overflow_add-result-2 c =
    omega (arith, c.row_size-up.ensures, bounds c.args.self.now.keyed c.requires)

pub overflow_add-result-3 : goal.overflow_add-result-3
overflow_add-result-3 c =
    omega (arith, c.row_size-up.ensures, bounds c.args.self.now.keyed c.requires)

-- Where b rises, the remainder by three is 0 or 1.
pub overflow_sub-result-2 : goal.overflow_sub-result-2
overflow_sub-result-2 c =
    omega (
      arith,
      bounds c.args.self.now.keyed c.requires,
      may_rise c.args.self.now.keyed c.requires
          (omega (arith, half_is c.args.self.now.keyed c.requires, c.third_key-third.ensures, c.if-half-third.false)),
    )

pub overflow_mul-result-2 : goal.overflow_mul-result-2
overflow_mul-result-2 c =
    omega (arith, bounds c.args.self.now.keyed c.requires)

pub overflow_add-result-4 : goal.overflow_add-result-4
overflow_add-result-4 c =
    omega (arith, bounds c.args.self.now.keyed c.requires)

pub overflow_mul-result-3 : goal.overflow_mul-result-3
overflow_mul-result-3 c =
    let may = may_rise c.args.self.now.keyed c.requires
    (omega (arith, half_is c.args.self.now.keyed c.requires, c.third_key-third.ensures, c.if-half-third.false)) in
    omega (arith, bounds c.args.self.now.keyed c.requires, times_bit c.args.w.letter _ may)

pub overflow_add-result-5 : goal.overflow_add-result-5
overflow_add-result-5 c =
    let may = may_rise c.args.self.now.keyed c.requires
    (omega (arith, half_is c.args.self.now.keyed c.requires, c.third_key-third.ensures, c.if-half-third.false)) in
    omega (arith, bounds c.args.self.now.keyed c.requires, times_bit c.args.w.letter _ may)

pub returns : goal.returns
returns c =
    rw c.row_size-up.ensures
    (step_b c.args.self.now.keyed c.requires
    (omega (arith, half_is c.args.self.now.keyed c.requires, c.third_key-third.ensures, c.if-half-third.false)))
