-- The places are zeroed up to 64, and the part numbers of the chain that the present state is are put in front.
use Rattle.std.proofs.Common.{refl}
use Rattle.std.proofs.lemmas.Result.{err_from_is_err_and}
use Rattle.lent.specs.LentLaws.{cleared, zeros_by_fill}
use Rattle.bench.specs.Sound.{number_in, state_at}
use Rattle.bench.proofs.BenchLaws.{tell_few, tell_unready, tell_done, tellable}
use Rattle.bench.proofs.tell_chain.Goals as goal

pub returns-then-places-lt-PLACES : goal.returns-then-places-lt-PLACES
returns-then-places-lt-PLACES c =
    let told = tell_few _ _ c.if-places-lt-PLACES.true in
    record { answer = told.0; places = told.1 }

pub returns-in_err-look : goal.returns-in_err-look
returns-in_err-look c =
    let p = err_from_is_err_and c.from_residual.result c.from_residual.ensures.1 in
    let told = tell_unready _ _ c.if-places-lt-PLACES.false _ c.in_err-look.ensures in
    rw (p.1, p.2) (record { answer = told.0; places = told.1 })

pub tell_rows-k-requires : goal.tell_rows-k-requires
unfolding state_at
tell_rows-k-requires c =
    let first = rw c.unwrap.ensures at c.first_chunk.ensures.cases in
    rw first.same
    (tellable _ c.args.places.now _ c.if-places-lt-PLACES.false (zeros_by_fill _ c.fill.ensures.after) c.in_ok-look.ensures.1)

pub returns : goal.returns
unfolding number_in state_at
returns c =
    let l = c.args.places.now in
    let sound = c.in_ok-look.ensures in
    let first = rw c.unwrap.ensures at c.first_chunk.ensures.cases in
    let told = tell_done _ l c.if-places-lt-PLACES.false sound.0 sound.1 _ _ _
    (cleared 64 l l _ c.if-places-lt-PLACES.false refl (zeros_by_fill _ c.fill.ensures.after)) (rw first.same at c.tell_rows-k.ensures) in
    record { answer = told.0; places = told.1 }
