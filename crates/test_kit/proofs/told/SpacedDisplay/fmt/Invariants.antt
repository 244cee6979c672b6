-- What is written so far, with what the other values are printed as, is the whole text.
use Rattle.std.proofs.Common.{◌≡◌, ℕ, List, ◌++◌, Some, drop}
use Rattle.std.specs.Fmt.{HasWritten, IsPlainFormatter}
use Rattle.test_kit.specs.Printed.{spaced}
use Rattle.test_kit.proofs.told.SpacedDisplay.fmt.Given as goal

abbrev pub invariant-loop-x : goal.invariant-loop-x
invariant-loop-x g l = (bs : List ℕ) → spaced g.T.Display.output l.fn.self.0.now ≡ Some bs → IsPlainFormatter l.fn.f
    → (done : List ℕ) × (more : List ℕ) × HasWritten g.W.Write.write_str_gives l.fn.f done l.f
    × (spaced g.T.Display.output (drop l.x-index l.x-items) ≡ Some more) × (done ++ more ≡ bs)
