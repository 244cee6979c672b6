-- What the code tells of a move before it makes it: the kind by its number, what rows allow, what is planned.
-- Definitions only. The laws are in PlanLoops.
use Rattle.std.specs.Prelude.{◌≡◌, Option, Some, None, Result, Ok, Err, cond, ℕ, eqb}
use Rattle.refusals.specs.declared.Refusal.{Refusal}
use Rattle.refusals.specs.declared.Refusal.TheVariants.{NoMove}
use Rattle.moves.specs.Rows.{Rows}
use Rattle.moves.specs.Amounts.{Tells}
use Rattle.moves.specs.RowMoves.{UpRows, DownRows}
use Rattle.moves.specs.Changes.{raised, lowered}
use Rattle.moves.specs.Plans.{Raisable, Lowerable}
use Rattle.bench.specs.declared.amounts.Kind.{Kind}
use Rattle.bench.specs.declared.amounts.Kind.TheVariants.{First, Second}
use Rattle.bench.specs.declared.amounts.Amount.{Amount}

-- ---- the two kinds

unfoldable pub kind_number : Kind → ℕ
kind_number First = 1
kind_number Second = 2

-- The kind with a number: no other number is one of a move.
unfoldable pub kind_of : ℕ → Result Kind Refusal
kind_of number = cond (eqb number 1) (Ok First) (cond (eqb number 2) (Ok Second) (Err NoMove))

abbrev pub Numbered : ℕ → Result Kind Refusal → Type 0
Numbered number result = result ≡ kind_of number

-- ---- what rows allow

-- What is told of the kind k and the amount b, where k is 0 for no move.
abbrev pub Allows : Option Amount → ℕ → ℕ → Type 0
Allows None k b = k ≡ 0
Allows (Some m) k b = Tells (kind_number m.kind) m.by k b

-- ---- what is planned

-- The amount of the move up of kind k at row b of the rows R, or that there is none.
abbrev pub UpPlan : ℕ → ℕ → Rows → Option ℕ → Type 0
UpPlan k b R None = (c : Rows) → UpRows k b R c → ⊥
UpPlan k b R (Some s) = Raisable b s R × UpRows k b R (raised b s R)

-- The same of the move down.
abbrev pub DownPlan : ℕ → ℕ → Rows → Option ℕ → Type 0
DownPlan k b R None = (c : Rows) → DownRows k b R c → ⊥
DownPlan k b R (Some s) = Lowerable b s R × DownRows k b R (lowered b s R)
