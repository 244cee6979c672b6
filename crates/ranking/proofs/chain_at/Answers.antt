-- `chain_at` meets its contract: the word at the position is found, and its parts are given.
use Rattle.std.proofs.Common.{◌≡◌, ℕ, refl, sym, ◌∙◌, arith}
use Rattle.std.proofs.Math.Nat.{le_of_eq}
use Rattle.lent.specs.Lent.{scratch_size}
use Rattle.lent.specs.LentLaws.{whole_zeroed, little_scratch_lem, little_places}
use Rattle.counting.specs.Ranked.{listed_at}
use Rattle.counting.specs.RankedLaws.{list_served}
use Rattle.ranking.specs.Services.{at_position}
use Rattle.ranking.proofs.Answers.{little, part_long, part_back, served_given}
use Rattle.ranking.proofs.chain_at.Goals as goal

pub returns-in_default : goal.returns-in_default
returns-in_default c =
    let told = little _ (little_scratch_lem 64 _ _ c.in_default.ensures.cases) refl in
    record { answer = told.0; places = told.1.0; scratch = told.1.1 }

pub returns-in_default-first_chunk_mut : goal.returns-in_default-first_chunk_mut
returns-in_default-first_chunk_mut c =
    let told = little _ (little_places scratch_size 64 _ _ c.in_default-first_chunk_mut.ensures.cases) (part_back c.in-Some.ensures.cases) in
    record { answer = told.0; places = told.1.0; scratch = told.1.1 }

pub returns-in_err-listed : goal.returns-in_err-listed
returns-in_err-listed c =
    let z : ◌≡◌ {A = ℕ} 0 1 = cc (list_served _ (le_of_eq (sym (part_long c.in-Some.ensures.cases))) _, c.word_at.ensures.value, c.in_err-listed.was) in absurd (omega arith)

pub returns : goal.returns
unfolding at_position
returns c =
    let told = served_given c.in-Some.ensures.cases c.in-Some-first_chunk_mut.ensures.cases _
    (c.give_listed.ensures _ (cc (list_served _ (le_of_eq (sym (part_long c.in-Some.ensures.cases))) (listed_at c.args.n c.args.position), c.word_at.ensures.value, c.in_ok-listed.was)))
    (c.word_at.ensures.scratch_after ∙ whole_zeroed _ (part_long c.in-Some.ensures.cases)) in
    record { answer = told.0; places = told.1.0; scratch = told.1.1 }
