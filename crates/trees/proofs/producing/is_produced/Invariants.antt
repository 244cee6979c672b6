-- What is left of the word goes on from the way: this is the invariant.
use mathlib.Core.Path.{◌≡◌}
use lib.ListN.{drop}
use Rattle.trees.specs.Trees.{produced}
use Rattle.trees.specs.Walk.{goes_on_from}
use Rattle.trees.proofs.producing.is_produced.Given as goal

abbrev pub invariant-loop-letter : goal.invariant-loop-letter
invariant-loop-letter l = produced l.letters l.number ≡ goes_on_from l.way.n l.way.next (drop l.letter-index l.letters)
