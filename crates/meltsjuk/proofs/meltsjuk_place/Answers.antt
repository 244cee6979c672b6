-- `meltsjuk_place` turns the answer of placing into numbers, case by case of its outcome.
use Rattle.std.specs.Prelude.{Ok, Err, Result}
use Rattle.std.proofs.Common.{◌≡◌, ap, ◌∙◌, ℕ}
use Rattle.refusals.specs.declared.Refusal.{Refusal}
use Rattle.ranking.specs.Services.{Outcome, refused, gives, position_of}
use Rattle.meltsjuk.specs.Answers.{status, value_or, outcome_status, position_or}
use Rattle.meltsjuk.proofs.meltsjuk_place.Goals as goal

-- a is the answer of placing, and x stood where the position is asked for.
told : (o : Outcome) (x : ℕ) (a : Result ℕ Refusal) → a ≡ position_of o
    → (status a ≡ outcome_status o) × (value_or a x ≡ position_or o x)
unfolding position_of
told (refused r) x a e = (ap status e, ap (λ t. value_or t x) e)
told (gives n c) x a e = (ap status e, ap (λ t. value_or t x) e)

pub returns-in-Ok : goal.returns-in-Ok
returns-in-Ok c =
    let (status, position) = told _ c.args.position.now (Ok _) c.in-Ok.ensures.answer in
    record { answer = status; position = position; scratch = c.place_record.ensures.scratch }

pub returns-in-Err : goal.returns-in-Err
returns-in-Err c =
    let (status, position) = told _ c.args.position.now (Err _) c.in-Err.ensures.answer in
    record { answer = c.from.ensures ∙ status; position = position; scratch = c.place_record.ensures.scratch }
