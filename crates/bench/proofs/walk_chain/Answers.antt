-- The walk of the rows is the walk of the chain, and the binary chain at its end has as many parts as n has one bits.
use Rattle.std.proofs.lemmas.Result.{err_from_is_err_and}
use Rattle.bench.specs.Sound.{number_in, state_at}
use Rattle.bench.specs.Benches.{with_state}
use Rattle.bench.proofs.BenchLaws.{walk_unready, walk_made, sound_held}
use Rattle.bench.proofs.walk_chain.Goals as goal

pub returns-in_err-look : goal.returns-in_err-look
returns-in_err-look c =
    let p = err_from_is_err_and c.from_residual.result c.from_residual.ensures.1 in
    let told = walk_unready _ _ c.in_err-look.ensures in
    rw (p.1, p.2) (record { answer = told.0; bench = told.1 })

pub walk_down-moves-requires : goal.walk_down-moves-requires
unfolding state_at
walk_down-moves-requires c =
    let first = rw c.unwrap.ensures at c.first_chunk_mut.ensures.cases in
    rw first.same (sound_held _ c.in_ok-look.ensures.1)

pub returns : goal.returns
unfolding number_in state_at with_state
returns c =
    let sound = c.in_ok-look.ensures in
    let first = rw c.unwrap.ensures at c.first_chunk_mut.ensures.cases in
    let told = walk_made _ sound.0 sound.1 _ _ (rw first.same at c.walk_down-moves.ensures) in
    rw c.from-k.ensures (record { answer = told.0; bench = told.1 })
