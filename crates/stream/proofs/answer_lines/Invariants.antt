-- `answer_lines` answers a line at each turn. The measure is what is left of the block.
use Prim.Native.Nat.{◌-◌}
use lib.ListN.{length, take}
use Rattle.stream.proofs.Turns.{Turn}
use Rattle.stream.proofs.answer_lines.Given as goal

abbrev pub invariant-loop-end : goal.invariant-loop-end
invariant-loop-end l = Turn (take l.k l.initial.kept) l.block l.initial.kept l.initial.scratch l.initial.out l.kept l.scratch l.out l.at l.left l.written

abbrev pub decreases-loop-end : goal.decreases-loop-end
decreases-loop-end l = length l.block - l.at
