-- A word is as good as what is left of it from any place up to the one reached: this is the invariant. So it is as good as its last
-- eight letters.
use mathlib.Core.Path.{◌≡◌}
use mathlib.Core.Bool.{true}
use Prim.Native.Nat.{ℕ, ◌≤◌}
use lib.ListN.{drop}
use Rattle.chains.specs.Words.{Word, reads}
use Rattle.comparing.proofs.judging.is_good_by_eights.Given as goal

-- The word is as good as what is left of it from any place up to i on.
abbrev pub AsGood : Word → ℕ → Type 0
AsGood l i = (j : ℕ) → j ≤ i → reads true l ≡ reads true (drop j l)

abbrev pub invariant-loop-i : goal.invariant-loop-i
invariant-loop-i l = AsGood l.letters l.i
