-- `meltsjuk_choose` turns the answer of choosing into numbers, case by case of its outcome.
use Rattle.std.proofs.Common.{◌∙◌}
use Rattle.meltsjuk.specs.AnswerLaws.{chosen_is_told, none_chosen_is_told}
use Rattle.meltsjuk.proofs.meltsjuk_choose.Goals as goal

pub returns-in-Ok : goal.returns-in-Ok
returns-in-Ok c =
    let (status, parts, cost) = chosen_is_told _ _ _ _ _ (c.in-Ok.ensures.answer) in
    rw (← c.limits_by-limits.ensures, ← c.prices_by-prices.ensures)
    (record { answer = status; k = parts; price = cost; places = c.choose_chain.ensures.places; scratch = c.choose_chain.ensures.scratch })

pub returns-in-Err : goal.returns-in-Err
returns-in-Err c =
    let (status, parts, cost) = none_chosen_is_told _ _ _ _ _ (c.in-Err.ensures.answer) in
    rw (← c.limits_by-limits.ensures, ← c.prices_by-prices.ensures)
    (record { answer = c.from.ensures ∙ status; k = parts; price = cost; places = c.choose_chain.ensures.places; scratch = c.choose_chain.ensures.scratch })
