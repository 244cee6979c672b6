-- The letters read so far, from the last one back, are those that the numbers shifted by i hold, and r is their run: this is the
-- invariant.
use Rattle.std.proofs.Common.{◌≡◌, ℕ, ◌-◌, ◌/◌, ◌^◌, ◌<◌}
use Rattle.chains.specs.Words.{Word}
use Rattle.words.specs.Packed.{unpacked}
use Rattle.running.specs.Run.{run}
use Rattle.running.proofs.steps.Run.along.Given as goal

-- The letters from the one of index i on.
abbrev pub from : ℕ → ℕ → ℕ → ℕ → Word
from rises marks k i = unpacked (k - i) (rises / 2 ^ i) (marks / 2 ^ i)

abbrev pub invariant-loop-i : goal.invariant-loop-i
invariant-loop-i l = (l.r < l.self.m) × (l.r ≡ run l.self.m l.self.x (from l.rises l.marks l.letters l.i))
