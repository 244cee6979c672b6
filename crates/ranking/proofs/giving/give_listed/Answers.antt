-- `giving::give_listed` meets its contract: a word of the list is told with its position, and none where the list has ended.
use Rattle.std.proofs.Common.{◌≡◌, Option, Some, None, Ok, Err, ok_or, refl, ℕ, sym, ◌∙◌, arith}
use Rattle.std.proofs.lemmas.Result.{err_from_is_err_and}
use Rattle.refusals.specs.declared.Refusal.{Refusal}
use Rattle.counting.specs.declared.Listed.{Listed}
use Rattle.ranking.proofs.Answers.{told_word, told_past, refused_given, standing_given}
use Rattle.ranking.proofs.giving.give_listed.Goals as goal

-- Which of the two was told.
some : (o : Option Listed) (r : Refusal) (l : Listed) → ok_or o r ≡ Ok l → o ≡ Some l
some (Some m) r l e = cc
some None r l e = let z : ◌≡◌ {A = ℕ} 0 1 = cc in absurd (omega arith)

none : (o : Option Listed) (r s : Refusal) → ok_or o r ≡ Err s → (o ≡ None) × (s ≡ r)
none (Some m) r s e = let z : ◌≡◌ {A = ℕ} 0 1 = cc in absurd (omega arith)
none None r s e = (refl, cc)

pub returns-in_err-word : goal.returns-in_err-word
returns-in_err-word c = λ i e.
    let p = err_from_is_err_and c.from_residual.result c.from_residual.ensures.1 in
    let told = none _ _ _ (sym c.ok_or.ensures.value ∙ c.in_err-word.was) in
    rw (p.1, p.2, told.1) (refused_given _ _ _ (told_past _ i _ (sym told.0 ∙ e)))

pub returns : goal.returns
returns c = λ i e.
    let told = some _ _ _ (sym c.ok_or.ensures.value ∙ c.in_ok-word.was) in
    standing_given _ i _ (told_word _ i _ (sym told ∙ e)) c.give_parts.ensures
