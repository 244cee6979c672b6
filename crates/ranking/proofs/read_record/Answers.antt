-- `read_record` meets its contract: a record that is packed is the word of its chain, which stands in the list of its sum.
use Rattle.std.proofs.Common.{sym, ◌∙◌}
use Rattle.words.specs.PackedLaws.{packed_word_lem}
use Rattle.ranking.proofs.Answers.{scratch_refused, scratch_served, record_listed, record_placed, record_refused}
use Rattle.ranking.proofs.read_record.Goals as goal

pub returns-in_default : goal.returns-in_default
returns-in_default c =
    let told = scratch_refused _ _ c.in_default.ensures.cases in
    record { answer = told.0; scratch = told.1 }

pub returns-in-Ok : goal.returns-in-Ok
returns-in-Ok c =
    let p = packed_word_lem _ _ (sym c.pack_word.ensures ∙ c.in-Ok.is) in
    let told = scratch_served _ c.in-Some.ensures.cases (c.place.ensures.value _ (record_listed p) p.rising ∙ record_placed p) c.place.ensures.scratch_after in
    record { answer = told.0; scratch = told.1 }

pub returns-in-Err : goal.returns-in-Err
returns-in-Err c =
    let told = scratch_served _ c.in-Some.ensures.cases (c.refuse.ensures.value ∙ record_refused _ _ (sym c.pack_word.ensures ∙ c.in-Err.is))
    c.refuse.ensures.scratch_after in
    record { answer = told.0; scratch = told.1 }
