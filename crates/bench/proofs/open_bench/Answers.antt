-- A record gets its refusal, or a bench is laid out for its chain.
use Rattle.std.proofs.Common.{sym, ◌∙◌, take-append-drop}
use Rattle.std.proofs.lemmas.Result.{err_from_is_err_and}
use Rattle.words.specs.RecordLaws.{judged_sum}
use Rattle.bench.specs.Benches.{opened_as}
use Rattle.bench.proofs.BenchLaws.{open_little, open_judged, passing, refusing, leaving}
use Rattle.bench.proofs.Opening.{opened_over}
use Rattle.bench.proofs.open_bench.Goals as goal

pub returns-in_default : goal.returns-in_default
returns-in_default c = refusing _ _ _ (open_little _ _ c.in_default.ensures.cases)

pub returns-in_err-n : goal.returns-in_err-n
unfolding opened_as
returns-in_err-n c =
    let told = passing _ _ (err_from_is_err_and _ c.from_residual.ensures.1)
    (open_judged _ _ _ c.in-Some.ensures.cases.enough (sym c.judge_record.ensures ∙ c.in_err-n.was)) in
    record { answer = told.answer; bench = rw c.in-Some.ensures.cases.same (take-append-drop 378 c.args.bench.now) ∙ told.bench }

pub lay_bench-requires : goal.lay_bench-requires
lay_bench-requires c = (judged_sum _ _).0 (sym c.judge_record.ensures ∙ c.in_ok-n.was)

pub returns : goal.returns
unfolding opened_as
returns c =
    leaving _ _ (open_judged _ _ _ c.in-Some.ensures.cases.enough (sym c.judge_record.ensures ∙ c.in_ok-n.was)) (rw c.lay_bench.ensures (opened_over _ _ _))
