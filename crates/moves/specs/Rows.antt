-- A chain laid out in rows. The parts 2^a × 3^b with the same b are row b, and a row is held as one number.
--
-- In this order: rows, their sum and their parts; the chain condition; the rows of a chain.
-- Definitions only. The laws of rows are in RowLaws. That chains and rows with the chain condition correspond is in Layouts.
use Rattle.std.specs.Prelude.{◌≡◌, List, [], ◌∷◌, ℕ, zero, suc, ◌+◌, ◌*◌, ◌^◌, ◌<◌, length, replicate}
use Rattle.std.specs.Int.{◌∣◌}
use Rattle.std.specs.Int.Count.{ones}
use Rattle.chains.specs.Chains.{Part, ChainOf}

-- Row 0 comes first. Row b holds the exponents of 2 of the parts 2^a × 3^b, as a number: bit a is 1 where it is a part.
abbrev pub Rows : Type 0
Rows = List ℕ

-- What the parts sum to.
unfoldable pub amount : Rows → ℕ
amount [] = 0
amount (x ∷ l) = x + 3 * amount l

-- How many parts there are.
unfoldable pub count : Rows → ℕ
count [] = 0
count (x ∷ l) = ones x + count l

-- P holds of every row.
abbrev pub All : (ℕ → Type 0) → Rows → Type 0
All P [] = Unit {0}
All P (x ∷ l) = P x × All P l

-- ---- the chain condition

-- Every exponent of the rows l is at least e.
abbrev pub Over : ℕ → Rows → Type 0
Over e l = All (λ y. 2 ^ e ∣ y) l

-- Every exponent of the rows l is at most e.
abbrev pub Under : ℕ → Rows → Type 0
Under e l = All (λ y. y < 2 ^ suc e) l

-- The rows are those of a chain: for each row, some e is at least its exponents and at most those of the rows above.
abbrev pub Laid : Rows → Type 0
Laid [] = Unit {0}
Laid (x ∷ l) = ((e : ℕ) × (x < 2 ^ suc e) × Over e l) × Laid l

-- 41 rows that are those of a chain of a number below 2^64: what the code holds.
pub record Held (R : Rows) : Type 0 where
  pub rows : length R ≡ 41
  pub laid : Laid R
  pub fits : amount R < 2 ^ 64

-- ---- the rows of a chain

-- No row has a part.
abbrev pub Zeros : Rows → Type 0
Zeros l = All (λ y. y ≡ 0) l

-- k rows without a part.
unfoldable pub zeros : ℕ → Rows
zeros k = replicate k 0

-- The rows l with v more in row b.
unfoldable pub add_at : ℕ → ℕ → Rows → Rows
add_at b v [] = []
add_at zero v (x ∷ l) = (x + v) ∷ l
add_at (suc b) v (x ∷ l) = x ∷ add_at b v l

-- The k rows of a chain: 2^a in row b for each part 2^a × 3^b.
unfoldable pub rows_of : ℕ → List Part → Rows
rows_of k [] = zeros k
rows_of k (p ∷ c) = add_at p.b (2 ^ p.a) (rows_of k c)

-- The rows R are those of a chain of n.
pub record Laying (n : ℕ) (R : Rows) : Type 0 where
  pub chain : List Part
  pub of_n : ChainOf n chain
  pub rows : R ≡ rows_of 41 chain
