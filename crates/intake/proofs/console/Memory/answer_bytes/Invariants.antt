-- `answer_bytes` goes on with what each call kept. The measure is what is left of the block.
use Rattle.std.proofs.Common.{◌-◌, ◌≤◌, length, take}
use Rattle.lines.specs.Stream.{unfinished}
use Rattle.intake.specs.Console.{Holds}
use Rattle.intake.proofs.console.Memory.answer_bytes.Given as goal

abbrev pub invariant-loop-at : goal.invariant-loop-at
invariant-loop-at l =
    (l.at ≤ length l.block)
    × Holds (unfinished (take l.initial.self.k l.initial.self.kept) (take l.at l.block)) l.self.kept l.self.k

abbrev pub decreases-loop-at : goal.decreases-loop-at
decreases-loop-at l = length l.block - l.at
