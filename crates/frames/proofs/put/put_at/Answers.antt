-- `put_at` leaves its digits from `at` on: the part from there on is lent to `put_number`, which has room for them.
use mathlib.Core.Path.{refl, ap, ◌∙◌}
use mathlib.Core.List.{List}
use Prim.Native.Nat.{ℕ, ◌-◌}
use native.Mathlib.Omega.{arith}
use borrow.Rule.Slice.PartMut.{put_mid}
use lib.ListN.{length}
use mathlib.Core.Path.{◌≡◌}
use Rattle.frames.specs.PutLaws.{put_part}
use Rattle.frames.proofs.put.put_at.Goals as goal

pub returns : goal.returns
returns c =
    let a = c.args in
    let out = a.out.now in
    let whole : length out ≡ 514 = omega arith in record {
      value = refl;
      out_after = ap (λ (ys : List ℕ). put_mid a.at (514 - a.at) out ys) c.put_number.ensures
          ∙ rw whole at (put_part a.at a.k a.n out (omega arith));
    }
