-- `is_sound` looks at the present state, then at the names in turn.
use Rattle.std.proofs.Common.{refl, arith}
use Rattle.std.proofs.lemmas.Bool.Decides.{not_from_Decides}
use Rattle.bench.specs.Sound.{state_at}
use Rattle.bench.proofs.ChainTest.{refuses}
use Rattle.bench.proofs.StateLaws.{one_found, all_sound, present_unsound, saved_unsound}
use Rattle.bench.proofs.states.is_sound.Goals as goal

pub returns-then-not-is_chain : goal.returns-then-not-is_chain
unfolding state_at
returns-then-not-is_chain c =
    let first = rw c.unwrap.ensures at c.first_chunk.ensures.cases in
    refuses (present_unsound c.args.bench.now (rw first.same at (not_from_Decides _ c.is_chain.ensures c.if-not-is_chain.true)))

pub returns-then-is_lost : goal.returns-then-is_lost
returns-then-is_lost c =
    refuses (saved_unsound c.args.bench.now c.loop-name.name c.loop-name-test.true (c.is_lost.ensures.0 c.if-is_lost.true))

pub loop-name-preserved : goal.loop-name-preserved
loop-name-preserved c = one_found c.loop-name.invariant (omega arith) (not_from_Decides _ c.is_lost.ensures c.if-is_lost.false)

pub returns : goal.returns
unfolding state_at
returns c =
    let first = rw c.unwrap.ensures at c.first_chunk.ensures.cases in
    let present = rw first.same at c.is_chain.ensures.0 c.if-not-is_chain.false in
    (λ e. all_sound c.args.bench.now (omega arith) present c.loop-name.invariant (omega (arith, c.loop-name-test.false)), λ s. refl)
