-- The present state of a sound bench is the rows of a chain, and a move of the rows is the move of the chain.
use Rattle.std.proofs.Common.{sym}
use Rattle.std.proofs.lemmas.Result.{err_from_is_err_and}
use Rattle.bench.specs.Sound.{state_at}
use Rattle.bench.specs.Benches.{with_state}
use Rattle.bench.proofs.BenchLaws.{sound_held, move_unready, move_unknown, move_told, passing}
use Rattle.bench.proofs.MovedRows.{known_kind}
use Rattle.bench.proofs.move_chain.Goals as goal

pub returns-in_err-look : goal.returns-in_err-look
returns-in_err-look c =
    passing _ _ (err_from_is_err_and _ c.from_residual.ensures.1) (move_unready _ _ _ _ _ c.in_err-look.ensures)

pub returns-in_err-kind : goal.returns-in_err-kind
returns-in_err-kind c =
    let sound = c.in_ok-look.ensures in
    passing _ _ (err_from_is_err_and _ c.from_residual-in_err-kind.ensures.1)
    (move_unknown _ _ _ _ _ sound.0 sound.1 (sym c.in_err-kind.ensures))

pub move_rows-requires : goal.move_rows-requires
unfolding state_at
move_rows-requires c =
    let first = rw c.unwrap.ensures at c.first_chunk_mut.ensures.cases in
    rw first.same (sound_held _ c.in_ok-look.ensures.1)

pub returns : goal.returns
unfolding state_at with_state
returns c =
    let sound = c.in_ok-look.ensures in
    let first = rw c.unwrap.ensures at c.first_chunk_mut.ensures.cases in
    let told = move_told c.args.kind c.args.row c.args.up c.args.bench.now c.in_ok-kind.kind _ c.move_rows.result c.move_rows.new.rows
    sound.0 sound.1 (known_kind _ _ (sym c.in_ok-kind.ensures)) c.from.ensures (rw first.same at c.move_rows.ensures) in
    record { answer = told.0; bench = told.1 }
