-- `forward::step` meets its contract: a rises or b does, by the position left.
use Rattle.std.proofs.Common.{ℕ, ◌%◌, List, arith, rules}
use Rattle.counting.specs.Forward.{Ready, RaisedAsked}
use Rattle.counting.specs.ForwardLaws.{flag_low, raised_low, passed_low, passed_both, passed_a, passed_b, rem_low, shifted, shifted_fits, rows_a, rows_b}
use Rattle.counting.proofs.forward.step.Goals as goal

asked : {n i at m a b free rest total left rises marks : ℕ} {l : List ℕ} → Ready n i at m a b free rest total left rises marks l
    → RaisedAsked m a b free rest l
asked r = record { rows = r.rows; inside = r.inside; more = r.more; flag = flag_low r.passed }

pub raised_b-raised-requires : goal.raised_b-raised-requires
raised_b-raised-requires c =
    asked c.requires

pub overflow_sub-rising : goal.overflow_sub-rising
overflow_sub-rising c =
    omega (arith, passed_both c.requires.passed c.requires.more c.raised_b-raised.ensures)

pub overflow_add-result : goal.overflow_add-result
overflow_add-result c =
    omega (arith, raised_low (asked c.requires))

pub overflow_shl-result : goal.overflow_shl-result
overflow_shl-result c =
    passed_low c.requires.passed (search rules)

pub overflow_add-result-then-w-rising : goal.overflow_add-result-then-w-rising
overflow_add-result-then-w-rising c =
    let p = c.requires.passed in
    record { fits = shifted_fits {y = c.args.w.rest % 2} p.marks_low (omega arith) (passed_low p (search rules)) }

pub returns-then-w-rising : goal.returns-then-w-rising
returns-then-w-rising c =
    let p = c.requires.passed in
    let last = passed_low p (search rules) in
    rw (shifted {y = c.args.w.rest % 2} p.marks_low (omega arith) last)
    (passed_a p c.requires.more c.raised_b-raised.ensures c.if-w-rising.true, rows_a c.requires.rows)

pub overflow_shl-result-2 : goal.overflow_shl-result-2
overflow_shl-result-2 c =
    passed_low c.requires.passed (search rules)

pub overflow_add-result-3 : goal.overflow_add-result-3
overflow_add-result-3 c =
    let p = c.requires.passed in
    record { fits = shifted_fits {y = 1} p.rises_low (omega arith) (passed_low p (search rules)) }

pub overflow_shl-result-3 : goal.overflow_shl-result-3
overflow_shl-result-3 c =
    passed_low c.requires.passed (search rules)

pub overflow_add-result-4 : goal.overflow_add-result-4
overflow_add-result-4 c =
    let p = c.requires.passed in
    record {
      fits = shifted_fits {y = c.args.w.rest % 3} p.marks_low
          (rem_low p c.requires.more c.raised_b-raised.ensures c.if-w-rising.false) (passed_low p (search rules));
    }

pub returns : goal.returns
returns c =
    let p = c.requires.passed in
    let last = passed_low p (search rules) in
    let low = rem_low p c.requires.more c.raised_b-raised.ensures c.if-w-rising.false in
    rw (shifted {y = 1} p.rises_low (omega arith) last, shifted {y = c.args.w.rest % 3} p.marks_low low last)
    (passed_b p c.requires.more c.raised_b-raised.ensures c.if-w-rising.false, rows_b c.requires.rows c.requires.inside)
