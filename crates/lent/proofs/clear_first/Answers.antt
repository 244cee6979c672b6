-- `clear_first` meets its contract: memory of the size asked for is zeroed up to it.
use mathlib.Core.Path.{refl, sym, ◌∙◌}
use Prim.Native.Nat.{◌≤◌}
use native.Mathlib.Nat.{sub-zero}
use native.Mathlib.Omega.{arith}
use lib.ListN.{length}
use Rattle.lent.specs.LentLaws.{zeros_by_fill, cleared, served_zeroed, refused_untouched}
use Rattle.lent.proofs.clear_first.Goals as goal

pub returns-then-memory-size : goal.returns-then-memory-size
returns-then-memory-size c =
    sym (refused_untouched c.args.memory.now (omega (arith, c.if-memory-size.true)))

pub returns : goal.returns
returns c =
    let l = c.args.memory.now in
    let size = c.args.size in
    let h : size ≤ length l = omega (arith, c.if-memory-size.false) in
    rw (sub-zero size) (cleared size l l _ h refl (rw (sub-zero size) at (zeros_by_fill _ c.fill.ensures.after)) ∙ sym (served_zeroed l h))
