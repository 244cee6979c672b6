-- The numbers passed are all in the table, so what is left of the record decides: this is the invariant.
use mathlib.Core.Path.{◌≡◌}
use lib.ListN.{drop}
use Rattle.words.specs.Records.{beyond}
use Rattle.words.proofs.records.is_outside.Given as goal

abbrev pub invariant-loop-number : goal.invariant-loop-number
invariant-loop-number l = beyond l.numbers ≡ beyond (drop l.number-index l.numbers)
