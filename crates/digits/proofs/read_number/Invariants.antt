-- `read_number` answers the number modulo 2^64: what was read so far, with the characters from c-index on after it, stands for the
-- same remainder as the whole.
use Rattle.std.proofs.Common.{◌≡◌, ◌%◌, ◌^◌, drop}
use Rattle.digits.specs.Digits.{read_from, number_of}
use Rattle.digits.proofs.read_number.Given as goal

abbrev pub invariant-loop-c : goal.invariant-loop-c
invariant-loop-c l = number_of l.part % 2 ^ 64 ≡ read_from l.n (drop l.c-index l.part) % 2 ^ 64
