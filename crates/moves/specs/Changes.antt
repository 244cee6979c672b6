-- The rows that a move makes, and what the code tests in the other rows before it moves.
-- Definitions only. That these tests find exactly the moves is in ChangeLaws.
use Rattle.std.specs.Prelude.{◌≡◌, ℕ, suc, ◌+◌, ◌-◌, ◌*◌, ◌/◌, ◌%◌, ◌≤◌, ◌<◌, length, get_or, set}
use Rattle.moves.specs.Rows.{Rows}
use Rattle.moves.specs.Amounts.{low_bit}

-- The rows R after a move up of the amount s at row b.
unfoldable pub raised : ℕ → ℕ → Rows → Rows
raised b s R = set (set R b (get_or R b 0 - 3 * s)) (suc b) (get_or R (suc b) 0 + s)

-- The rows R after a move down of the amount s at row b.
unfoldable pub lowered : ℕ → ℕ → Rows → Rows
lowered b s R = set (set R b (get_or R b 0 + 3 * s)) (suc b) (get_or R (suc b) 0 - s)

-- No row below b has an exponent above that of g, a power of 2. A move up needs it, with g the lowest one bit of its amount.
unfoldable pub Free : ℕ → ℕ → Rows → Type 0
Free b g R = (k : ℕ) → k < b → get_or R k 0 / 2 < g

-- Every row from b on is a multiple of p. A move down at row b needs it of the rows from b + 2 on, with p = 2^(m+1).
unfoldable pub Clear : ℕ → ℕ → Rows → Type 0
Clear b p R = (k : ℕ) → b ≤ k → k < length R → get_or R k 0 % p ≡ 0

-- 2^(m+1), from the kind k and the amount s of a move.
unfoldable pub past_of : ℕ → ℕ → ℕ
past_of k s = 2 * (s + (k - 1) * low_bit s)
