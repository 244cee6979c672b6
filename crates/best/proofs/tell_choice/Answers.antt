-- `tell_choice` meets its contract, by whether there is a word.
use Rattle.std.proofs.Common.{◌≡◌, ℕ, Option, Some, None, Ok, Err, ok_or, refl, sym, ◌∙◌, arith}
use Rattle.std.proofs.lemmas.Result.{err_from_is_err_and}
use Rattle.refusals.specs.declared.Refusal.{Refusal}
use Rattle.refusals.specs.declared.Refusal.TheVariants.{NoChainFits}
use Rattle.best.specs.declared.terms.Priced.{Priced}
use Rattle.best.specs.Choosing.{told_of, told_places}
use Rattle.best.proofs.tell_choice.Goals as goal

some : (o : Option Priced) (w : Priced) → ok_or o NoChainFits ≡ Ok w → o ≡ Some w
some (Some v) w e = cc
some None w e = let z : ◌≡◌ {A = ℕ} 0 1 = cc in absurd (omega arith)

none : (o : Option Priced) (r : Refusal) → ok_or o NoChainFits ≡ Err r → (o ≡ None) × (r ≡ NoChainFits)
none (Some v) r e = let z : ◌≡◌ {A = ℕ} 0 1 = cc in absurd (omega arith)
none None r e = (refl, cc)

pub returns-in_err-word : goal.returns-in_err-word
unfolding told_of told_places
returns-in_err-word c =
    let p = err_from_is_err_and c.from_residual.result c.from_residual.ensures.1 in
    let told = none _ _ (sym c.ok_or.ensures.value ∙ c.in_err-word.was) in
    rw (p.1, p.2, told.0, told.1) (record { answer = refl; places = refl })

pub returns : goal.returns
unfolding told_of told_places
returns c =
    let told = some _ _ (sym c.ok_or.ensures.value ∙ c.in_ok-word.was) in
    rw (told, c.put_parts-k.ensures.answer) (record { answer = refl; places = c.put_parts-k.ensures.places })
