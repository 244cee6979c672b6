-- The present state is copied over the state of the name, and the name counts as saved.
use Rattle.std.proofs.Common.{arith}
use Rattle.std.proofs.lemmas.Result.{err_from_is_err_and}
use Rattle.bench.proofs.BenchLaws.{save_unready, save_refused, save_done, saved_as, passing, leaving}
use Rattle.bench.proofs.StateLaws.{first_copied}
use Rattle.bench.proofs.save_chain.Goals as goal

pub returns-in_err-look : goal.returns-in_err-look
returns-in_err-look c =
    passing _ _ (err_from_is_err_and _ c.from_residual.ensures.1) (save_unready _ _ _ c.in_err-look.ensures)

pub returns-in_err-i : goal.returns-in_err-i
returns-in_err-i c =
    let sound = c.in_ok-look.ensures in
    let i = c.in_err-i.ensures in
    passing _ _ (err_from_is_err_and _ c.from_residual-in_err-i.ensures.1) (rw i.0 (save_refused _ _ sound.0 sound.1 i.1))

pub returns : goal.returns
returns c =
    let sound = c.in_ok-look.ensures in
    let i = c.in_ok-i.ensures in
    let first = rw c.unwrap.ensures at c.first_chunk_mut.ensures.cases in
    let copied = first_copied c.args.bench.now (omega arith) (omega (arith, i.0, i.1)) first.same c.copy_state.ensures in
    leaving _ _ (save_done _ _ sound.0 sound.1 i.1) (rw i.0 (saved_as _ _ _ (rw i.0 at copied)))
