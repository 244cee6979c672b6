-- The letters read so far, from the last one back, are the end of the word, and n is what they stand for: this is the invariant. If
-- they stand for 2^64 or more, so does the word.
use Rattle.std.proofs.Common.{Some}
use mathlib.Core.Path.{◌≡◌}
use lib.ListN.{drop}
use Rattle.words.specs.Answers.{weighed_of}
use Rattle.words.proofs.weigh.Given as goal

abbrev pub invariant-loop-i : goal.invariant-loop-i
invariant-loop-i l = Some l.n ≡ weighed_of (drop l.i l.letters)
