-- At each turn of `put_rests` the rests before i are stored and zeros stand behind them, `rest` is the next one, and i rows more than
-- those from there on have something left.
use Rattle.std.proofs.Common.{◌≡◌, ◌+◌, ◌^◌, ◌≤◌, ◌<◌, List, length, get_or, ℕ, ◌-◌, ◌/◌}
use Rattle.grid.specs.Grid.{live_rows}
use Rattle.grid.proofs.put_rests.Given as goal

pub record Putting (m : ℕ) (part : List ℕ) (rest i : ℕ) : Type 0 where
  pub stored : (j : ℕ) → j < i → get_or part j 0 ≡ m / 3 ^ j
  pub behind : (j : ℕ) → i ≤ j → get_or part j 0 ≡ 0
  pub next : rest ≡ m / 3 ^ i
  pub rows : live_rows m (length part) ≡ i + live_rows rest (length part - i)

abbrev pub invariant-loop-i : goal.invariant-loop-i
invariant-loop-i l = Putting l.m l.part l.rest l.i
