-- `put_numbers` leaves the digits of the numbers one after the other: after i turns those of the first i stand.
use mathlib.Core.Path.{◌≡◌}
use Prim.Native.Nat.{◌+◌, ◌*◌}
use Rattle.frames.proofs.Values.{First}
use Rattle.frames.proofs.put.put_numbers.Given as goal

abbrev pub invariant-loop-number : goal.invariant-loop-number
invariant-loop-number l =
    (l.end ≡ l.at + 4 * l.number-index) × First 2 l.at l.numbers l.initial.out l.out l.end l.number-index
