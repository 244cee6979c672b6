-- `all_digits` answers whether every character is a digit: whether all so far are, together with the characters from c-index on.
use Rattle.std.proofs.Common.{◌≡◌, ◌&&◌, drop}
use Rattle.digits.specs.Digits.{all_digits}
use Rattle.digits.proofs.all_digits.Given as goal

abbrev pub invariant-loop-c : goal.invariant-loop-c
invariant-loop-c l = all_digits l.line ≡ l.all && all_digits (drop l.c-index l.line)
