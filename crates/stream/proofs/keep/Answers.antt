-- `keep` copies as much of the part as 515 places leave room for, behind the k that were kept.
use mathlib.Core.Path.{◌≡◌, ◌∙◌}
use mathlib.Core.List.{List, ◌++◌}
use Prim.Native.Nat.{ℕ, ◌+◌, ◌-◌, ◌≤◌, min}
use native.Mathlib.Omega.{arith}
use borrow.Rule.Slice.PartMut.{put_mid, mid_len, same_len_mid}
use lib.ListN.{length, take, length-take, length-append}
use lib.Seq.{take-append-add, length-take-le}
use Rattle.std.proofs.lemmas.List.{take_min}
use Rattle.std.proofs.lemmas.Slice.{take-put_mid, drop-put_mid}
use Rattle.stream.specs.Pieces.{Keeps}
use Rattle.stream.proofs.keep.Goals as goal

-- ys, the first of the part, are put behind the first k.
module _ (part entry ys : List ℕ) (k more : ℕ) (h : k ≤ 515) (l : 515 ≤ length entry) (m : more ≡ min (515 - k) (length part))
    (e : ys ≡ take more part) where
  long : length ys ≡ more
  long = rw e (length-take-le more part (omega arith))

  first_kept : take k entry ++ ys ≡ take 515 (take k entry ++ part)
  first_kept =
      let n : 515 ≡ length (take k entry) + (515 - k) = omega (arith, length-take-le k entry (omega arith)) in
      rw (n, take-append-add (take k entry) part (515 - k), e, m, take_min)

  kept_first : Keeps (take k entry ++ part) entry (put_mid k (k + more - k) entry ys) (k + more)
  kept_first =
      record {
        first = take-put_mid k (k + more - k) entry ys (k + more) (omega (arith, long)) (omega arith) ∙ first_kept;
        count = rw (length-take, length-append, length-take-le k entry (omega arith)) (omega arith);
        most = omega arith;
        rest = record {
          later = drop-put_mid k (k + more - k) entry ys 515 (omega arith) (omega arith) (omega (arith, long));
          same = same_len_mid k (k + more - k) entry ys (omega (arith, long, mid_len k (k + more) entry));
        };
      }

pub returns : goal.returns
returns c =
    kept_first _ _ _ _ _ c.requires.0 c.requires.1 c.min-more.ensures (c.copy_from_slice.ensures.after)
