-- The state of the name is copied over the present one.
use Rattle.std.proofs.Common.{arith}
use Rattle.std.proofs.lemmas.Result.{err_from_is_err_and}
use Rattle.bench.specs.Sound.{saved_in}
use Rattle.bench.proofs.BenchLaws.{back_unready, back_refused, back_never, back_done, back_as, passing, refusing, leaving}
use Rattle.bench.proofs.StateLaws.{first_copied}
use Rattle.bench.proofs.come_back.Goals as goal

pub returns-in_err-look : goal.returns-in_err-look
returns-in_err-look c =
    passing _ _ (err_from_is_err_and _ c.from_residual.ensures.1) (back_unready _ _ _ c.in_err-look.ensures)

pub returns-in_err-i : goal.returns-in_err-i
returns-in_err-i c =
    let sound = c.in_ok-look.ensures in
    let i = c.in_err-i.ensures in
    passing _ _ (err_from_is_err_and _ c.from_residual-in_err-i.ensures.1) (rw i.0 (back_refused _ _ sound.0 sound.1 i.1))

pub returns-then-bench-i-eq0 : goal.returns-then-bench-i-eq0
unfolding saved_in
returns-then-bench-i-eq0 c =
    let sound = c.in_ok-look.ensures in
    let i = c.in_ok-i.ensures in
    refusing _ _ _ (back_never _ _ sound.0 sound.1 i.1 (rw i.0 at c.if-bench-i-eq0.true))

pub returns : goal.returns
unfolding saved_in
returns c =
    let sound = c.in_ok-look.ensures in
    let i = c.in_ok-i.ensures in
    let first = rw c.unwrap.ensures at c.first_chunk_mut.ensures.cases in
    let copied = first_copied c.args.bench.now (omega (arith, i.0, i.1)) (omega arith) first.same c.copy_state.ensures in
    leaving _ _ (back_done _ _ sound.0 sound.1 i.1 (rw i.0 at c.if-bench-i-eq0.false)) (back_as _ _ _ (rw i.0 at copied))
