-- `cheapest_word` takes a letter a turn, and the rest gets smaller.
use Rattle.limited.specs.Walk.{Walked}
use Rattle.limited.proofs.walk.Keys.cheapest_word.Given as goal

abbrev pub invariant-loop-w : goal.invariant-loop-w
invariant-loop-w l = Walked l.self.terms.now.costs l.self.terms.now.doublings l.self.terms.now.triplings l.self.most l.self.n l.w

abbrev pub decreases-loop-w : goal.decreases-loop-w
decreases-loop-w l = l.w.rest
