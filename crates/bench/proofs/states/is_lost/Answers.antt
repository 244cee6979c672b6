-- `is_lost` says no for a name never saved; else it lends on the state under the name, and says whether that is no chain of n.
use Rattle.std.proofs.Common.{suc, ◌∙◌, arith}
use Rattle.bench.specs.Sound.{saved_in}
use Rattle.bench.proofs.ChainTest.{refuses}
use Rattle.bench.proofs.StateLaws.{state_chunk, state_lost}
use Rattle.bench.proofs.states.is_lost.Goals as goal

pub returns-then-bench-name-eq0 : goal.returns-then-bench-name-eq0
unfolding saved_in
returns-then-bench-name-eq0 c = refuses (λ e. e.0 c.if-bench-name-eq0.true)

pub returns : goal.returns
unfolding saved_in
returns c =
    let first = rw c.unwrap-rows.ensures at c.first_chunk.ensures.cases in
    let lent = first.same ∙ state_chunk (suc c.args.name) _ c.args.bench.now (omega arith) (omega (arith, c.requires)) in
    state_lost c.is_chain.result c.args.n _ _ lent c.if-bench-name-eq0.false c.is_chain.ensures
