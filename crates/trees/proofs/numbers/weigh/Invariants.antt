-- The letters read so far, from the last one back, are the end of the word, and n is their number: this is the invariant. If their
-- number reaches 2^64, so does the word's.
use Rattle.std.proofs.Common.{Some}
use mathlib.Core.Path.{◌≡◌}
use lib.ListN.{drop}
use Rattle.words.specs.Answers.{sized}
use Rattle.trees.specs.Trees.{number}
use Rattle.trees.proofs.numbers.weigh.Given as goal

abbrev pub invariant-loop-i : goal.invariant-loop-i
invariant-loop-i l = Some l.n ≡ sized (number (drop l.i l.letters))
