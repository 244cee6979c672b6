-- Each letter pushes out a 3 in front: after i letters the number is that of 8 - i letters 3 and the first i letters.
use mathlib.Core.List.{◌++◌}
use Prim.Native.Nat.{ℕ, ◌-◌}
use lib.ListN.{take, replicate}
use Rattle.chains.specs.Words.{Word}
use Rattle.comparing.specs.Eights.{EightOf}
use Rattle.comparing.proofs.eights.few_letters.Given as goal

-- The first i letters, behind as many 3s as make them eight.
abbrev pub filled : Word → ℕ → Word
filled l i = replicate (8 - i) 3 ++ take i l

abbrev pub invariant-loop-letter : goal.invariant-loop-letter
invariant-loop-letter l = EightOf (filled l.letters l.letter-index) l.x
