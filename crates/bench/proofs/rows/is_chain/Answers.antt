-- Each way out with `false` has a row that no chain of n has; at the end all rows are looked at.
use Rattle.std.proofs.Common.{arith}
use Rattle.bench.proofs.ChainTest.{none_looked, empty_looked, row_looked}
use Rattle.bench.proofs.ChainTest.{refuses, third_refused, wide_refused, sum_refused, chain_told}
use Rattle.bench.proofs.rows.is_chain.Goals as goal

pub loop-i-init : goal.loop-i-init
loop-i-init c = none_looked c.args.n 41 c.args.rows.now (omega arith)

pub returns-then-third-sum : goal.returns-then-third-sum
returns-then-third-sum c =
    let L = c.loop-i in
    refuses (λ w. third_refused c.args.rows.now L.i c.loop-i-test.true (omega arith) L.invariant c.ranges.n.fits w c.if-third-sum.true)

pub returns-then-least-x : goal.returns-then-least-x
returns-then-least-x c =
    let L = c.loop-i in
    refuses (λ w. wide_refused c.args.rows.now L.i c.loop-i-test.true (omega arith) L.invariant c.ranges.n.fits w (omega arith)
    c.if-least-x.true)

pub returns-then-n-sum : goal.returns-then-n-sum
returns-then-n-sum c =
    let L = c.loop-i in
    refuses (λ w. sum_refused c.args.rows.now L.i c.loop-i-test.true (omega arith) L.invariant c.ranges.n.fits w c.if-n-sum.true)

pub loop-i-preserved-then-x-ne0 : goal.loop-i-preserved-then-x-ne0
loop-i-preserved-then-x-ne0 c =
    let L = c.loop-i in
    row_looked c.args.rows.now L.i c.loop-i-test.true (omega arith) L.invariant c.low_bit-least.ensures c.if-x-ne0.true
    (omega arith) c.if-least-x.false (omega (arith, c.if-n-sum.false, c.if-third-sum.false))

pub loop-i-preserved : goal.loop-i-preserved
loop-i-preserved c =
    let L = c.loop-i in
    empty_looked c.args.rows.now L.i c.loop-i-test.true (omega arith) L.invariant c.if-x-ne0.false c.if-third-sum.false

pub returns : goal.returns
returns c =
    let L = c.loop-i in
    chain_told c.args.rows.now L.i L.invariant (omega (arith, c.loop-i-test.false)) c.ranges.n.fits (omega arith)
