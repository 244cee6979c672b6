-- A turn adds the part before these, for which its row has room because the parts sum to less than 2^64.
use Rattle.std.proofs.Common.{arith}
use Rattle.bench.proofs.Opening.{Stepped, stepped, none_laid}
use Rattle.bench.proofs.laying.lay_out.Goals as goal
use Rattle.bench.proofs.laying.lay_out.Goals.{After-exponents_at-e}

turn :
    (c : After-exponents_at-e)
    → Stepped c.args.numbers.now c.args.n c.loop-i.i c.loop-i.rows c.exponents_at-e.result.a c.exponents_at-e.result.b
turn c = stepped c.loop-i.invariant c.loop-i-test.true c.exponents_at-e.ensures

pub loop-i-init : goal.loop-i-init
loop-i-init c = none_laid _ _ _ c.requires.0 c.requires.1

pub overflow_shl-rows : goal.overflow_shl-rows
overflow_shl-rows c = (turn (goal.at.overflow_shl-rows c).After-exponents_at-e).across

pub offset_bounds-rows-e : goal.offset_bounds-rows-e
offset_bounds-rows-e c = omega (arith, (turn (goal.at.offset_bounds-rows-e c).After-exponents_at-e).row)

pub bounds-rows-e : goal.bounds-rows-e
bounds-rows-e c = let t = turn (goal.at.bounds-rows-e c).After-exponents_at-e in omega (arith, t.row, t.rows)

pub overflow_add-rows : goal.overflow_add-rows
overflow_add-rows c = record { fits = (turn (goal.at.overflow_add-rows c).After-exponents_at-e).fits }

pub bounds-rows-e-in-loop-i : goal.bounds-rows-e-in-loop-i
bounds-rows-e-in-loop-i c = let t = turn (goal.at.bounds-rows-e-in-loop-i c).After-exponents_at-e in omega (arith, t.row, t.rows)

pub loop-i-preserved : goal.loop-i-preserved
loop-i-preserved c = (turn (goal.at.loop-i-preserved c).After-exponents_at-e).makes
