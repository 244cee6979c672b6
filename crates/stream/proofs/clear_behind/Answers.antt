-- `clear_behind` lends the places from n up to 515 to be zeroed.
use mathlib.Core.Path.{◌≡◌}
use mathlib.Core.List.{List}
use Prim.Native.Nat.{ℕ, ◌-◌, ◌≤◌}
use native.Mathlib.Omega.{arith}
use borrow.Author.Rules.{rules}
use borrow.Rule.Slice.PartMut.{mid_of, put_mid, mid_len, Post-is}
use lib.ListN.{length, take}
use lib.Seq.{length-take-le}
use Rattle.lent.specs.Lent.{zeros, filled}
use Rattle.lent.specs.LentLaws.{zeros_by_fill}
use Rattle.stream.proofs.clear_behind.Goals as goal

zeroed : (n : ℕ) (kept ys : List ℕ) → n ≤ 515 → 515 ≤ length kept → ys ≡ zeros (length (mid_of n (515 - n) kept))
    → put_mid n (515 - n) kept ys ≡ filled 515 (take n kept) kept
unfolding filled
zeroed n kept ys h l e = rw (e, mid_len n 515 kept l, length-take-le n kept (omega arith), Post-is n 515 kept h)

pub returns : goal.returns
returns c =
    search (rules, zeroed, zeros_by_fill _ c.fill.ensures.after)
