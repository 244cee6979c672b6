-- `put_number` leaves what `put_digits` says: from the back, the digits that are still to be written and what stands from i on make
-- the same buffer at every turn.
use Rattle.std.proofs.Common.{◌≡◌, ◌++◌, drop}
use Rattle.digits.specs.Digits.{digits_of, put_digits}
use Rattle.digits.proofs.put_number.Given as goal

abbrev pub invariant-loop-i : goal.invariant-loop-i
invariant-loop-i l = put_digits l.k l.n l.initial.out ≡ digits_of l.i l.left ++ drop l.i l.out
