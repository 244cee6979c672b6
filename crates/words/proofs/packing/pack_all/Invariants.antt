-- The two numbers hold the letters from place i on: this is the invariant. These are part of the word's bits, which fit in 64.
use lib.ListN.{drop}
use Rattle.words.specs.Packed.{PackedAs}
use Rattle.words.proofs.packing.pack_all.Given as goal

abbrev pub invariant-loop-i : goal.invariant-loop-i
invariant-loop-i l = PackedAs (drop l.i l.letters) l.rises l.marks
