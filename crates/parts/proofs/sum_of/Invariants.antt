-- `parts::sum_of` meets its contract. The loop's invariant: the sum so far and that of the numbers that are left make the whole.
use Rattle.std.proofs.Common.{◌≡◌, List, ℕ, ◌+◌, ◌<◌, drop}
use Rattle.parts.specs.Parts.{limit, sum_at}
use Rattle.parts.proofs.sum_of.Given as goal

-- After i numbers the sum is s.
pub record Summed (t ns : List ℕ) (s i : ℕ) : Type 0 where
  pub low : s < limit
  pub whole : s + sum_at t (drop i ns) ≡ sum_at t ns

abbrev pub invariant-loop-number : goal.invariant-loop-number
invariant-loop-number l = Summed l.table l.numbers l.sum l.number-index
