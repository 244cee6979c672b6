-- `triplings_at` meets its contract. The loop's invariant: what is found in the groups that are left is what is found in all.
use Rattle.std.proofs.Common.{◌≡◌, ℕ, ◌+◌, ◌-◌, ◌*◌, ◌≤◌, ◌<◌}
use Rattle.parts.specs.Octaves.{in_groups, triplings_at}
use Rattle.parts.proofs.octaves.triplings_at.Given as goal

-- With `left` groups left, of which that of r is the first and starts at place `start`, b is the last found.
pub record Tried (most j b r start left : ℕ) : Type 0 where
  pub group : r < 12
  pub low : start + 4 * left ≤ 48
  pub found : in_groups left most j r start b ≡ triplings_at most j

abbrev pub invariant-loop : goal.invariant-loop
invariant-loop l = Tried l.most l.j l.b l.r l.start (12 - l.counter)
