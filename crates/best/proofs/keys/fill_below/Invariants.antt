-- `fill_below` fills the columns below `start`, one a turn: each bit of a mask tells the remainder by three that the choice asks.
use Rattle.best.specs.KeyRows.{Below}
use Rattle.best.proofs.keys.fill_below.Given as goal

abbrev pub invariant-loop-a : goal.invariant-loop-a
invariant-loop-a l = Below l.terms.costs l.terms.doublings l.terms.triplings l.fn.row.b l.m l.start l.initial.part l.part l.a l.after l.turns
