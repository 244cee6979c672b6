-- What is written from the part p on is the end of the word, and the parts below p give the rest of it: the walk from p goes on
-- from those letters to the whole word. This is the invariant; it is the definition's own line that one turn follows.
use mathlib.Core.Path.{◌≡◌}
use lib.ListN.{length, drop}
use Rattle.chains.specs.Words.{walk}
use Rattle.words.specs.Records.{record_parts}
use Rattle.words.specs.Walks.{point, place, WayBack}
use Rattle.words.proofs.letters.write_back.Given as goal

abbrev pub invariant-loop-i : goal.invariant-loop-i
invariant-loop-i l = WayBack l.table.codes.now l.numbers l.i (point l.p) (length l.initial.places)
    × (length l.places ≡ length l.initial.places)
    × (walk (point l.initial.p) (record_parts (drop 1 l.numbers)) (drop (place (point l.initial.p)) l.initial.places)
    ≡ walk (point l.p) (record_parts (drop l.i l.numbers)) (drop (place (point l.p)) l.places))
