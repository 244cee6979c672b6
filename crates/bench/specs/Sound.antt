-- What a bench holds, and that it is sound: document 02, T-08.
-- In this order: where things are in the lent numbers; a sound bench. Definitions only. Whether a bench is sound is decided in Judging.
use Rattle.std.specs.Prelude.{◌≡◌, List, ℕ, suc, ◌+◌, ◌*◌, ◌^◌, ◌<◌, get_or, take, drop}
use Rattle.moves.specs.Rows.{Laying}

-- ---- where things are

-- State 0 is the present one, state i + 1 is saved under the name i. A state is 41 numbers, the rows of a chain.
unfoldable pub state_at : ℕ → List ℕ → List ℕ
state_at i bench = take 41 (drop (41 * i) bench)

-- The number that the bench was opened on.
unfoldable pub number_in : List ℕ → ℕ
number_in bench = get_or bench 369 0

-- 0 where nothing was saved under a name.
unfoldable pub saved_in : ℕ → List ℕ → ℕ
saved_in name bench = get_or bench (370 + name) 0

-- ---- a sound bench

-- The present state is a chain of n, and so is each saved one. A state under a name never saved may be anything.
pub record Sound (bench : List ℕ) : Type 0 where
  pub fits : number_in bench < 2 ^ 64
  pub present : Laying (number_in bench) (state_at 0 bench)
  pub saved : (name : ℕ) → name < 8 → (saved_in name bench ≡ 0 → ⊥) → Laying (number_in bench) (state_at (suc name) bench)
