-- `forward::word_in` meets its contract: at each turn the walk passes a letter of the word, in rows that are there.
use Rattle.std.proofs.Common.{arith, rules}
use Rattle.counting.specs.ForwardLaws.{word_none, word_start, word_end, passed_low, shifted, shifted_fits, rows_start, same_passed}
use Rattle.counting.proofs.forward.word_in.Goals as goal

pub returns-then-n-eq0 : goal.returns-then-n-eq0
returns-then-n-eq0 c =
    word_none _ _ c.if-n-eq0.true

pub loop-w-init : goal.loop-w-init
loop-w-init c =
    record {
      passed = word_start (omega (arith, c.if-n-eq0.false)) c.requires.number c.requires.within;
      rows = rows_start c.requires.rows (search rules);
    }

pub with_rows-w-requires : goal.with_rows-w-requires
with_rows-w-requires c =
    c.loop-w.invariant.rows

pub step-w-requires : goal.step-w-requires
step-w-requires c =
    let (rows, inside, same) = c.with_rows-w.ensures in
    record {
      passed = same_passed c.loop-w.invariant.passed same;
      rows = rows;
      inside = inside;
      more = omega (arith, same.rest_is, c.loop-w-test.true);
    }

pub overflow_add-at : goal.overflow_add-at
overflow_add-at c =
    omega (arith, passed_low c.loop-w.invariant.passed (search rules))

pub loop-w-smaller : goal.loop-w-smaller
loop-w-smaller c =
    omega (arith, passed_low c.loop-w.invariant.passed (search rules))

pub loop-w-preserved : goal.loop-w-preserved
loop-w-preserved c =
    record {
      passed = c.step-w.ensures.0;
      rows = c.step-w.ensures.1;
    }

pub overflow_shl-result : goal.overflow_shl-result
overflow_shl-result c =
    passed_low c.loop-w.invariant.passed (search rules)

pub overflow_add-result : goal.overflow_add-result
overflow_add-result c =
    let p = c.loop-w.invariant.passed in
    record { fits = shifted_fits {y = 1} p.rises_low (omega arith) (passed_low p (search rules)) }

pub overflow_shl-result-2 : goal.overflow_shl-result-2
overflow_shl-result-2 c =
    passed_low c.loop-w.invariant.passed (search rules)

pub overflow_add-result-2 : goal.overflow_add-result-2
overflow_add-result-2 c =
    let p = c.loop-w.invariant.passed in
    record { fits = shifted_fits {y = 1} p.marks_low (omega arith) (passed_low p (search rules)) }

pub returns : goal.returns
returns c =
    let g = c.loop-w.invariant in
    let last = passed_low g.passed (search rules) in
    rw (shifted {y = 1} g.passed.rises_low (omega arith) last) (word_end g.passed c.loop-w-test.false)
