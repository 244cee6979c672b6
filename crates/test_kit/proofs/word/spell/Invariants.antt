-- The first letter from the right is at place 4: with nothing to spell, or no letters, the loop ends there.
use Rattle.std.proofs.Common.{◌≡◌, length}
use Rattle.test_kit.proofs.word.spell.Given as goal

abbrev pub invariant-loop-start : goal.invariant-loop-start
invariant-loop-start l = (l.fn.index ≡ 0 → (l.rest ≡ 0) × (l.start ≡ 5)) × (length l.fn.alphabet ≡ 0 → l.start ≡ 5)
