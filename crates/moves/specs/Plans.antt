-- What the code finds out about a move of a given kind at a given row, before it moves.
-- Definitions only. The laws are in PlanLaws.
use Rattle.std.specs.Prelude.{◌≡◌, ℕ, ◌+◌, ◌*◌, ◌^◌, ◌≤◌, ◌<◌, get_or}
use Rattle.moves.specs.Rows.{Rows}
use Rattle.moves.specs.RowMoves.{UpRows, DownRows}
use Rattle.moves.specs.Changes.{raised, lowered}

-- What the change of two rows by a move up of the amount s asks: no number goes below 0 or passes 2^64.
pub record Raisable (b s : ℕ) (R : Rows) : Type 0 where
  pub row : b < 40
  pub less : 3 * s ≤ get_or R b 0
  pub thrice : 3 * s < 2 ^ 64
  pub more : get_or R (b + 1) 0 + s < 2 ^ 64

-- What a move down asks.
pub record Lowerable (b s : ℕ) (R : Rows) : Type 0 where
  pub row : b < 40
  pub less : s ≤ get_or R (b + 1) 0
  pub thrice : 3 * s < 2 ^ 64
  pub more : get_or R b 0 + 3 * s < 2 ^ 64

-- s is the amount of the move up of kind k at row b, and 0 where there is no such move.
pub record PlannedUp (k b : ℕ) (R : Rows) (s : ℕ) : Type 0 where
  pub some : 0 < s → Raisable b s R × UpRows k b R (raised b s R)
  pub none : s ≡ 0 → (c : Rows) → UpRows k b R c → ⊥

-- s is the amount of the move down of kind k at row b, and 0 where there is no such move.
pub record PlannedDown (k b : ℕ) (R : Rows) (s : ℕ) : Type 0 where
  pub some : 0 < s → Lowerable b s R × DownRows k b R (lowered b s R)
  pub none : s ≡ 0 → (c : Rows) → DownRows k b R c → ⊥
