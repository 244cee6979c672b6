-- `place_record` reads the record and tells the position alone.
use Rattle.std.proofs.Common.{sym, ◌∙◌}
use Rattle.std.proofs.lemmas.Result.{err_from_is_err_and}
use Rattle.ranking.proofs.Answers.{position_placed, position_refused}
use Rattle.ranking.proofs.place_record.Goals as goal

pub returns-in_err-placed : goal.returns-in_err-placed
returns-in_err-placed c =
    let p = err_from_is_err_and c.from_residual.result c.from_residual.ensures.1 in
    rw (p.1, p.2) (record {
      answer = position_refused _ (sym c.read_record.ensures.answer ∙ c.in_err-placed.was);
      scratch = c.read_record.ensures.scratch;
    })

pub returns : goal.returns
returns c =
    record { answer = position_placed _ (sym c.read_record.ensures.answer ∙ c.in_ok-placed.was); scratch = c.read_record.ensures.scratch }
