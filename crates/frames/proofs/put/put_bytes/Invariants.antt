-- `put_bytes` leaves the digits of the letters one after the other: after i turns those of the first i stand.
use mathlib.Core.Path.{◌≡◌}
use Prim.Native.Nat.{◌+◌, ◌*◌}
use Rattle.frames.proofs.Values.{First}
use Rattle.frames.proofs.put.put_bytes.Given as goal

abbrev pub invariant-loop-letter : goal.invariant-loop-letter
invariant-loop-letter l =
    (l.end ≡ l.at + 2 * l.letter-index) × First 1 l.at l.letters l.initial.out l.out l.end l.letter-index
