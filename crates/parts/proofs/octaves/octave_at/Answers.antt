-- `octave_at` meets its contract: the two rounds of the definition; the first ends at octave 56 at most.
use native.Mathlib.Omega.{arith}
use Rattle.parts.specs.Octaves.{octave_at}
use Rattle.parts.proofs.OctaveLaws.{first_round, in_octave}
use Rattle.parts.proofs.octaves.octave_at.Goals as goal

pub last_from-requires-2 : goal.last_from-requires-2
last_from-requires-2 c = (rw c.last_from.ensures (first_round _ c.requires), omega arith)

pub returns : goal.returns
unfolding octave_at
returns c = in_octave _ c.requires _ (rw (← c.last_from.ensures) c.last_from-2.ensures)
