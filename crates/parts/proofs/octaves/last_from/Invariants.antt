-- `last_from` meets its contract. The loop's invariant: what is found in the octaves that are left is what is found in all.
use Rattle.std.proofs.Common.{◌≡◌, ℕ, ◌+◌, ◌-◌, ◌*◌, ◌≤◌}
use Rattle.parts.specs.Octaves.{last_of, last_from}
use Rattle.parts.proofs.octaves.last_from.Given as goal

-- With `left` octaves left, of which the first is `next`, l is the last found.
pub record Tried (first step number l next left : ℕ) : Type 0 where
  pub low : next + 8 * left ≤ 120
  pub found : last_of left step number next l ≡ last_from first step number

abbrev pub invariant-loop : goal.invariant-loop
invariant-loop l = Tried l.first l.step l.number l.l l.next (7 - l.counter)
