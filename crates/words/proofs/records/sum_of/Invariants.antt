-- The sum so far and that of the parts that are left make the whole: this is the invariant. Where one more part would pass the
-- largest 64-bit number, the whole does too.
use mathlib.Core.Path.{◌≡◌}
use mathlib.Core.List.{List}
use Prim.Native.Nat.{ℕ, ◌+◌, ◌<◌}
use lib.ListN.{drop}
use Rattle.chains.specs.Chains.{total}
use Rattle.parts.specs.Parts.{limit}
use Rattle.words.specs.Records.{record_parts}
use Rattle.words.proofs.records.sum_of.Given as goal

abbrev pub sum_from : ℕ → List ℕ → ℕ
sum_from i l = total (record_parts (drop i l))

-- After i numbers the sum is s.
pub record Summed (l : List ℕ) (s i : ℕ) : Type 0 where
  pub low : s < limit
  pub whole : s + sum_from i l ≡ total (record_parts l)

abbrev pub invariant-loop-number : goal.invariant-loop-number
invariant-loop-number l = Summed l.numbers l.sum l.number-index
