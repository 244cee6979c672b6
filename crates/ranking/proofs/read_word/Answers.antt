-- `read_word` meets its contract: a word that is packed stands in the list of its number.
use Rattle.std.proofs.Common.{refl, sym, ◌∙◌}
use Rattle.lent.specs.Lent.{scratch_size}
use Rattle.lent.specs.LentLaws.{little_scratch_lem, little_places}
use Rattle.words.specs.PackedLaws.{packed_letters_lem}
use Rattle.ranking.proofs.Answers.{little, part_back, served_given, refused_given, word_gives, word_held, held_chain, word_refused}
use Rattle.ranking.proofs.read_word.Goals as goal

pub returns-in_default : goal.returns-in_default
returns-in_default c =
    let told = little _ (little_scratch_lem 64 _ _ c.in_default.ensures.cases) refl in
    record { answer = told.0; places = told.1.0; scratch = told.1.1 }

pub returns-in_default-first_chunk_mut : goal.returns-in_default-first_chunk_mut
returns-in_default-first_chunk_mut c =
    let told = little _ (little_places scratch_size 64 _ _ c.in_default-first_chunk_mut.ensures.cases) (part_back c.in-Some.ensures.cases) in
    record { answer = told.0; places = told.1.0; scratch = told.1.1 }

pub returns-in-Ok : goal.returns-in-Ok
returns-in-Ok c =
    let p = packed_letters_lem _ _ (sym c.pack_letters.ensures ∙ c.in-Ok.is) in
    let told = served_given c.in-Some.ensures.cases c.in-Some-first_chunk_mut.ensures.cases _
    (rw (word_gives p, ← held_chain _ (word_held p).member) (c.give_word.ensures.given _ (word_held p))) c.give_word.ensures.scratch_after in
    record { answer = told.0; places = told.1.0; scratch = told.1.1 }

pub returns-in-Err : goal.returns-in-Err
returns-in-Err c =
    let told = served_given c.in-Some.ensures.cases c.in-Some-first_chunk_mut.ensures.cases _
    (rw c.refuse.ensures.value (refused_given _ _ _ (word_refused _ _ (sym c.pack_letters.ensures ∙ c.in-Err.is)))) c.refuse.ensures.scratch_after in
    record { answer = told.0; places = told.1.0; scratch = told.1.1 }
