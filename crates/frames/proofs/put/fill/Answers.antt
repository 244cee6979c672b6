-- `fill` leaves zeros from `at` up to 514: that part is lent to `fill`.
use mathlib.Core.Path.{ap, ◌∙◌}
use mathlib.Core.List.{List}
use Prim.Native.Nat.{ℕ, ◌-◌}
use native.Mathlib.Omega.{arith}
use borrow.Rule.Slice.PartMut.{put_mid}
use Rattle.lent.specs.LentLaws.{zeros_by_fill}
use Rattle.frames.specs.PutLaws.{zeros_part}
use Rattle.frames.proofs.put.fill.Goals as goal

pub returns : goal.returns
returns c =
    let a = c.args in
    ap (λ (ys : List ℕ). put_mid a.at (514 - a.at) a.out.now ys) (zeros_by_fill _ c.fill.ensures.after)
    ∙ zeros_part a.at 514 a.out.now (omega arith) (omega arith)
