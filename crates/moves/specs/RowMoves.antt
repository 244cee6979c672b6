-- The two kinds of move on rows, up and down. On parts they are `Up` and `Move` (Moves); that both say the same is in
-- proofs/ChainRows.antt and proofs/MoveLaws.antt.
--
-- In this order: the numbers of a move; two layouts with a move between them; the moves up and down.
-- Definitions only. The laws are in RowMoveLaws.
use Rattle.std.specs.Prelude.{◌≡◌, Bool, true, false, ◌∷◌, ◌++◌, ℕ, suc, ◌+◌, ◌*◌, ◌^◌, ◌≤◌, ◌<◌, length}
use Rattle.moves.specs.Rows.{Rows, Over, Under}

-- Going up takes 3 s from row b, which leaves x, and adds s to row b + 1.
--   one  2^m and 2^(m+1) leave row b, and 2^m enters row b + 1
--   two  2^(m+1) and 2^(c+1) .. 2^(m-1) leave row b, 2^c enters it, and 2^c .. 2^(m-1) enter row b + 1
pub data Shape : ℕ → ℕ → ℕ → ℕ → ℕ → Type 0 where
  one : {s x m : ℕ} → s ≡ 2 ^ m → x < 2 ^ m → Shape 1 s x m m
  two : {s x m c : ℕ} → c < m → s + 2 ^ c ≡ 2 ^ m → 2 ^ c ≤ x → x < 2 ^ suc c → Shape 2 s x m c

-- Rows b and b + 1 of two layouts: `low` has 3 s more in row b, `high` has s more in row b + 1, and all other rows are the same.
pub record Swap (kind b : ℕ) (low high : Rows) : Type 0 where
  pub under : Rows
  pub x : ℕ
  pub y : ℕ
  pub over : Rows
  pub s : ℕ
  pub m : ℕ
  pub c : ℕ
  pub shape : Shape kind s x m c
  pub row : length under ≡ b
  pub is_low : low ≡ under ++ ((3 * s + x) ∷ y ∷ over)
  pub is_high : high ≡ under ++ (x ∷ (s + y) ∷ over)

-- The rows `high` are `low` after a move up. The second kind needs that no part with a smaller power of 3 has a power of 2 above
-- 2^c: document 02, T-08.
pub record UpRows (kind b : ℕ) (low high : Rows) : Type 0 where
  pub swap : Swap kind b low high
  pub free : kind ≡ 2 → Under swap.c swap.under

-- The rows `low` are `high` after a move down. The move takes the lowest bits of row b + 1: what is left of that row, and every
-- row above, has no exponent of m or less.
pub record DownRows (kind b : ℕ) (high low : Rows) : Type 0 where
  pub swap : Swap kind b low high
  pub clear : Over (suc swap.m) (swap.y ∷ swap.over)

-- A move by its direction.
unfoldable pub RowMove : ℕ → Bool → ℕ → Rows → Rows → Type 0
RowMove kind true b R R' = UpRows kind b R R'
RowMove kind false b R R' = DownRows kind b R R'
