-- What a move of rows comes to, from the amount that was planned; moves of no kind.
use Rattle.std.specs.Prelude.{◌≡◌, Result, Ok, Err, Bool, true, false, List, ℕ}
use Rattle.std.proofs.Common.{arith, refl, sym, ap, ◌∙◌, ne_eqb}
use Rattle.std.proofs.Math.Decide.{ℕ_discrete}
use Rattle.std.specs.Result.{is_ok}
use Rattle.std.proofs.lemmas.Bool.{false≢true}
use Rattle.refusals.specs.declared.Refusal.{Refusal}
use Rattle.refusals.specs.declared.Refusal.TheVariants.{NoMove}
use Rattle.moves.specs.Changes.{raised, lowered}
use Rattle.moves.specs.Plans.{PlannedUp, PlannedDown}
use Rattle.moves.specs.RowMoves.{Shape, one, two, RowMove}
use Rattle.bench.specs.declared.amounts.Kind.{Kind}
use Rattle.bench.specs.declared.amounts.Kind.TheVariants.{First, Second}
use Rattle.bench.specs.Planning.{kind_number, kind_of}

ok_same : (k l : Kind) → ◌≡◌ {A = Result Kind Refusal} (Ok k) (Ok l) → k ≡ l
ok_same k l e = cc

err_same : (q r : Refusal) → ◌≡◌ {A = Result Kind Refusal} (Err q) (Err r) → q ≡ r
err_same q r e = cc

no_shape : (kind : ℕ) (r : Refusal) → kind_of kind ≡ Err r → {s x m c : ℕ} → Shape kind s x m c → ⊥
unfolding kind_of
no_shape kind r e (one a b) = false≢true (ap is_ok (sym e))
no_shape kind r e (two a b c d) = false≢true (ap is_ok (sym e))

module _ (kind b s : ℕ) (R : List ℕ) where
  pub up_stuck : PlannedUp kind b R s → s ≡ 0 → (R' : List ℕ) → RowMove kind true b R R' → ⊥
  unfolding RowMove
  up_stuck p z R' w = p.none z R' w

  pub up_made : PlannedUp kind b R s → (s ≡ 0 → ⊥) → (R' : List ℕ) → R' ≡ raised b s R → RowMove kind true b R R'
  unfolding RowMove
  up_made p z R' e = rw e (p.some (omega arith)).1

  pub down_stuck : PlannedDown kind b R s → s ≡ 0 → (R' : List ℕ) → RowMove kind false b R R' → ⊥
  unfolding RowMove
  down_stuck p z R' w = p.none z R' w

  pub down_made : PlannedDown kind b R s → (s ≡ 0 → ⊥) → (R' : List ℕ) → R' ≡ lowered b s R → RowMove kind false b R R'
  unfolding RowMove
  down_made p z R' e = rw e (p.some (omega arith)).1

-- A number that is no kind's: there is no such move.
pub other_kind : (kind : ℕ) (up : Bool) (b : ℕ) (R R' : List ℕ) (r : Refusal) → kind_of kind ≡ Err r → RowMove kind up b R R' → ⊥
unfolding RowMove
other_kind kind true b R R' r e w = no_shape kind r e w.swap.shape
other_kind kind false b R R' r e w = no_shape kind r e w.swap.shape

-- The kind that a number is, and what other numbers get.
module _ (number : ℕ) where
  pub known_kind : (kind : Kind) → kind_of number ≡ Ok kind → kind_number kind ≡ number
  unfolding kind_of kind_number
  known_kind kind e = go (ℕ_discrete number 1) (ℕ_discrete number 2)
    where
      go : Dec (number ≡ 1) → Dec (number ≡ 2) → kind_number kind ≡ number
      go (yes h) d = let a : kind_of number ≡ Ok First = rw h refl in rw (← ok_same First kind (sym a ∙ e), h) refl
      go (no h) (yes g) = let a : kind_of number ≡ Ok Second = rw g refl in rw (← ok_same Second kind (sym a ∙ e), g) refl
      go (no h) (no g) = let a : kind_of number ≡ Err NoMove = rw (ne_eqb number 1 h, ne_eqb number 2 g) refl in absurd (false≢true (ap is_ok (sym a ∙ e)))

  pub unknown_kind : (r : Refusal) → kind_of number ≡ Err r → NoMove ≡ r
  unfolding kind_of
  unknown_kind r e = go (ℕ_discrete number 1) (ℕ_discrete number 2)
    where
      go : Dec (number ≡ 1) → Dec (number ≡ 2) → NoMove ≡ r
      go (yes h) d = let a : kind_of number ≡ Ok First = rw h refl in absurd (false≢true (ap is_ok (sym e ∙ a)))
      go (no h) (yes g) = let a : kind_of number ≡ Ok Second = rw g refl in absurd (false≢true (ap is_ok (sym e ∙ a)))
      go (no h) (no g) = let a : kind_of number ≡ Err NoMove = rw (ne_eqb number 1 h, ne_eqb number 2 g) refl in err_same NoMove r (sym a ∙ e)
