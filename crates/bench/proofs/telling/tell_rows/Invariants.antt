-- The numbers stored and then those of the parts of the rows below b are those of the chain.
use Rattle.bench.proofs.TellingLaws.{numbers_below, Storing}
use Rattle.bench.proofs.telling.tell_rows.Given as goal

abbrev pub invariant-loop-b : goal.invariant-loop-b
invariant-loop-b l = Storing (numbers_below 41 l.rows) 0 l.initial.places (numbers_below l.b l.rows) l.k l.places
