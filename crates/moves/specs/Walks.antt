-- The walk down to the binary chain, on rows: 003, theorem 1. On parts it is `Walk` (Moves).
--
-- In this order: the moves that empty a row into the one below; the whole walk; its bound.
-- Definitions only. The laws of two rows are in Phases, those of the whole walk in Ends. The bound as Moves has it is in Points.
use Rattle.std.specs.Prelude.{◌∷◌, ℕ, zero, suc, ◌+◌, ◌-◌, ◌*◌, ◌/◌, ◌^◌, ◌<◌}
use Rattle.std.specs.Int.{◌∣◌}
use Rattle.std.specs.Int.Count.{count_leading_zeros}
use Rattle.moves.specs.Rows.{Rows, Zeros}
use Rattle.moves.specs.RowMoves.{Shape, DownRows}

-- ---- two rows

-- The rows x and y, y above x, of a chain: some f is at least every exponent of x and at most every exponent of y.
abbrev pub Fits : ℕ → ℕ → Type 0
Fits x y = (f : ℕ) × (x < 2 ^ suc f) × (2 ^ f ∣ y)

-- j moves down empty the upper row y into the lower row x.
pub data Phase : ℕ → ℕ → ℕ → Type 0 where
  done : {x : ℕ} → Phase x 0 0
  more : {k s x m c y j : ℕ} → Shape k s x m c → 2 ^ suc m ∣ y → Phase (3 * s + x) y j → Phase x (s + y) (suc j)

-- ---- the whole walk

-- j moves lead from the rows c to the rows d, which have all their parts in row 0. Each is the move down from the highest row
-- that has a part.
pub data WalkRows : Rows → ℕ → Rows → Type 0 where
  stop : {n : ℕ} {z : Rows} → Zeros z → WalkRows (n ∷ z) 0 (n ∷ z)
  step : {k b j : ℕ} {c c' d : Rows} → (r : DownRows k b c c') → Zeros r.swap.over → WalkRows c' j d → WalkRows c (suc j) d

-- ---- its bound

-- How many binary digits n has, for a number below 2^64: the number of a with 2^a at most n.
unfoldable pub digits : ℕ → ℕ
digits n = 64 - count_leading_zeros 64 n

-- This is the number of points with b from 1 to k and 2^a × 3^b at most n.
unfoldable pub points : ℕ → ℕ → ℕ
points zero n = 0
points (suc k) n = digits (n / 3) + points k (n / 3)
