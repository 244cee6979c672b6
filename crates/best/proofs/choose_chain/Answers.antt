-- `choose_chain` answers what its outcome says: where enough is lent it chooses a word, or finds that there is none, and tells that.
use Rattle.std.proofs.Common.{rules}
use Rattle.chains.specs.Best.{price, best_chain}
use Rattle.lent.specs.Lent.{scratch_size}
use Rattle.lent.specs.LentLaws.{whole_back, little_scratch_lem, little_places}
use Rattle.best.specs.Chosen.{limits_of, prices_of, best_outcome}
use Rattle.best.specs.ChosenLaws.{little, served}
use Rattle.best.proofs.choose_chain.Goals as goal

pub returns-then-places-lt64 : goal.returns-then-places-lt64
returns-then-places-lt64 c =
    let told = (little _ _ _ _ _ (little_places scratch_size 64 _ _ c.if-places-lt64.true)) in
    record { answer = told.0; places = told.1.0; scratch = told.1.1 }

pub returns-in_default : goal.returns-in_default
returns-in_default c =
    let told = (little _ _ _ _ _ (little_scratch_lem 64 _ _ c.in_default.ensures.cases)) in
    record { answer = told.0; places = told.1.0; scratch = told.1.1 }

pub returns : goal.returns
unfolding best_outcome
returns c =
    let a = c.args in
    let cost = price (prices_of a.prices) in
    let told = served cost a.n (best_chain a.n (limits_of a.limits) cost)
    (record { numbers = c.in-Some.ensures.cases.enough; room = c.if-places-lt64.false }) _ c.choose-choice.ensures
    c.tell_choice.ensures.answer c.tell_choice.ensures.places (whole_back _ _ (search rules) c.clear_scratch.ensures) in
    record { answer = told.0; places = told.1.0; scratch = told.1.1 }
