-- `meltsjuk_best` turns the best chain's answer into numbers, case by case of its outcome.
use Rattle.std.specs.Prelude.{Ok, Err, length}
use Rattle.std.proofs.Common.{◌≡◌, refl, ap, ◌∙◌, ℕ, arith}
use Rattle.chains.specs.Best.{Prices, price}
use Rattle.chains.specs.Listing as listing
use Rattle.refusals.specs.declared.Refusal.{Refusal}
use Rattle.refusals.specs.Refusals.{number_of}
use Rattle.ranking.specs.Services.{Outcome, refused, gives}
use Rattle.best.specs.Chosen.{best_of}
use Rattle.best.specs.declared.Best.{Best}
use Rattle.meltsjuk.specs.Answers.{outcome_status, position_or, parts_or, price_or}
use Rattle.meltsjuk.proofs.meltsjuk_best.Goals as goal

-- x, y and z stood where the position, the number of parts and the price are asked for.
module _ (π : Prices) (x y z : ℕ) where
  is_told : (o : Outcome) (b : Best) → Ok b ≡ best_of (price π) o
      → (0 ≡ outcome_status o) × (b.position ≡ position_or o x) × (b.k ≡ parts_or o y) × (b.price ≡ price_or π o z)
  unfolding best_of
  is_told (refused r) b e =
      let f : ◌≡◌ {A = ℕ} 0 1 = cc in
      absurd (omega arith)
  is_told (gives n c) b e =
      let same : b ≡ record { position = listing.position n c; k = length c; price = price π c } = cc in
      (refl, ap (λ (d : Best). d.position) same, ap (λ (d : Best). d.k) same, ap (λ (d : Best). d.price) same)

  none_is_told : (o : Outcome) (r : Refusal) → Err r ≡ best_of (price π) o
      → (number_of r ≡ outcome_status o) × (x ≡ position_or o x) × (y ≡ parts_or o y) × (z ≡ price_or π o z)
  unfolding best_of
  none_is_told (refused q) r e =
      let same : r ≡ q = cc in
      (ap number_of same, refl, refl, refl)
  none_is_told (gives n c) r e =
      let f : ◌≡◌ {A = ℕ} 0 1 = cc in
      absurd (omega arith)

pub returns-in-Ok : goal.returns-in-Ok
returns-in-Ok c =
    let (status, position, parts, cost) = is_told _ _ _ _ _ _ (c.in-Ok.ensures.answer) in
    rw (← c.limits_by-limits.ensures, ← c.prices_by-prices.ensures)
    (record { answer = status; position = position; k = parts; price = cost; places = c.best_chain.ensures.places; scratch = c.best_chain.ensures.scratch })

pub returns-in-Err : goal.returns-in-Err
returns-in-Err c =
    let (status, position, parts, cost) = none_is_told _ _ _ _ _ _ (c.in-Err.ensures.answer) in
    rw (← c.limits_by-limits.ensures, ← c.prices_by-prices.ensures)
    (record { answer = c.from.ensures ∙ status; position = position; k = parts; price = cost; places = c.best_chain.ensures.places; scratch = c.best_chain.ensures.scratch })
