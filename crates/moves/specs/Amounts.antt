-- The kind and the amount of a move, computed from the rows by their highest and lowest one bits, as the code does it.
--
-- In this order: the highest and the lowest one bit; a move up, from its row alone; a move down, from its two rows; what the code
-- tells.
-- Definitions only. The laws of the bits are in BitLaws. That these are the kind and the amount of the move is in AmountLaws.
use Rattle.std.specs.Prelude.{◌≡◌, cond, ℕ, ◌+◌, ◌-◌, ◌*◌, ◌/◌, ◌^◌, ◌<◌, ltb, leb, eqb}
use Rattle.std.specs.Int.Count.{count_leading_zeros, count_trailing_zeros}

-- ---- the highest and the lowest one bit of a number below 2^64

-- They are powers of 2, found by counting the zeros above or below them.
unfoldable pub top_bit : ℕ → ℕ
top_bit x = 2 ^ (63 - count_leading_zeros 64 x)

unfoldable pub low_bit : ℕ → ℕ
low_bit y = 2 ^ count_trailing_zeros 64 y

-- ---- up: from the row alone

-- h is half of the highest one bit of the row x. Where x has the bit h too, the move is of the first kind and its amount is h.
-- Else it is of the second kind, and the highest one bit of 3 h - 1 - x is the gap; where that number is 0, there is no move.

-- The kind, where x has not the bit h: g is 3 h - 1 - x.
unfoldable pub gap_kind : ℕ → ℕ
gap_kind g = cond (eqb g 0) 0 2

unfoldable pub rise_kind_at : ℕ → ℕ → ℕ
rise_kind_at x h = cond (leb (3 * h) x) 1 (gap_kind (3 * h - 1 - x))

unfoldable pub rise_by_at : ℕ → ℕ → ℕ
rise_by_at x h = cond (leb (3 * h) x) h (h - top_bit (3 * h - 1 - x))

-- The kind of the move up at a row x, and 0 for none.
unfoldable pub rise_kind : ℕ → ℕ
rise_kind x = cond (ltb x 2) 0 (rise_kind_at x (top_bit x / 2))

-- This is its amount.
unfoldable pub rise_by : ℕ → ℕ
rise_by x = rise_by_at x (top_bit x / 2)

-- ---- down: from the two rows

-- g is the lowest one bit of the upper row y. Where the lower row x is below g, the move is of the first kind and its amount is
-- g. Else it is of the second kind, and its amount has the bits of y from g up to the first 0 bit above g.
unfoldable pub fall_kind_at : ℕ → ℕ → ℕ
fall_kind_at x g = cond (ltb x g) 1 2

unfoldable pub fall_by_at : ℕ → ℕ → ℕ → ℕ
fall_by_at x y g = cond (ltb x g) g (low_bit (y + g) - g)

-- The kind of the move down at the rows x and y, and 0 for none.
unfoldable pub fall_kind : ℕ → ℕ → ℕ
fall_kind x y = cond (eqb y 0) 0 (fall_kind_at x (low_bit y))

-- This is its amount.
unfoldable pub fall_by : ℕ → ℕ → ℕ
fall_by x y = fall_by_at x y (low_bit y)

-- ---- what the code tells

-- The code tells `kind` and `by` for the kind k and the amount b. The amount says nothing where there is no move.
pub record Tells (kind by k b : ℕ) : Type 0 where
  pub kinds : kind ≡ k
  pub amounts : 0 < k → by ≡ b
