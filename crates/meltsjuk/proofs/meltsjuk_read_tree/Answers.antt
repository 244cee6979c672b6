-- `meltsjuk_read_tree` turns the found chain into numbers, case by case of its outcome.
use Rattle.std.specs.Prelude.{Ok, Err, length}
use Rattle.std.proofs.Common.{◌≡◌, refl, ap, ◌∙◌, ℕ, arith}
use Rattle.chains.specs.Listing as listing
use Rattle.refusals.specs.declared.Refusal.{Refusal}
use Rattle.refusals.specs.Refusals.{number_of}
use Rattle.ranking.specs.Services.{Outcome, refused, gives, answer_of}
use Rattle.ranking.specs.declared.Found.{Found}
use Rattle.meltsjuk.specs.Answers.{outcome_status, number_or, position_or, parts_or}
use Rattle.meltsjuk.proofs.meltsjuk_read_tree.Goals as goal

-- x, y and z stood where n, the position and the number of parts are asked for.
module _ (x y z : ℕ) where
  is_told : (o : Outcome) (f : Found) → Ok f ≡ answer_of o
      → (0 ≡ outcome_status o) × (f.n ≡ number_or o x) × (f.position ≡ position_or o y) × (f.k ≡ parts_or o z)
  unfolding answer_of
  is_told (refused r) f e =
      let f : ◌≡◌ {A = ℕ} 0 1 = cc in
      absurd (omega arith)
  is_told (gives m c) f e =
      let same : f ≡ record { n = m; position = listing.position m c; k = length c } = cc in
      (refl, ap (λ (d : Found). d.n) same, ap (λ (d : Found). d.position) same, ap (λ (d : Found). d.k) same)

  none_is_told : (o : Outcome) (r : Refusal) → Err r ≡ answer_of o
      → (number_of r ≡ outcome_status o) × (x ≡ number_or o x) × (y ≡ position_or o y) × (z ≡ parts_or o z)
  unfolding answer_of
  none_is_told (refused q) r e =
      let same : r ≡ q = cc in
      (ap number_of same, refl, refl, refl)
  none_is_told (gives m c) r e =
      let f : ◌≡◌ {A = ℕ} 0 1 = cc in
      absurd (omega arith)

pub returns-in-Ok : goal.returns-in-Ok
returns-in-Ok c =
    let (status, number, position, parts) = is_told _ _ _ _ _ (c.in-Ok.ensures.answer) in
    record { answer = status; n = number; position = position; k = parts; places = c.read_tree.ensures.places; scratch = c.read_tree.ensures.scratch }

pub returns-in-Err : goal.returns-in-Err
returns-in-Err c =
    let (status, number, position, parts) = none_is_told _ _ _ _ _ (c.in-Err.ensures.answer) in
    record { answer = c.from.ensures ∙ status; n = number; position = position; k = parts; places = c.read_tree.ensures.places; scratch = c.read_tree.ensures.scratch }
