-- A part of lent memory l that is lent on from a place `at` to the end, `&mut l[at..]`, and comes back as ys.
--
-- In this order: the part; where it stands in the whole once it is back, also where it ends before the end; what stands behind its
-- first k, where only those were written. Further laws of a part that ends before the end are in borrow.Rule.Slice.PartMut.
use Rattle.std.specs.Prelude.{◌≡◌, List, ◌++◌, ℕ, ◌+◌, ◌-◌, ◌≤◌, ◌<◌, length, get_or, take, drop}
use Rattle.std.proofs.Common.{sym, ap, ◌∙◌, append-nil, arith, length-drop, drop_of_length-le, take_all, drop_at, drop-drop, length-take-le, get_or-drop}
use Rattle.std.proofs.Math.ListN.{get_or-append}
use borrow.Rule.Slice.PartMut.{mid_of, post_of, put_mid}

module _ (at : ℕ) (l : List ℕ) (h : at ≤ length l) where
  pub part_lent : mid_of at (length l - at) l ≡ drop at l
  part_lent = take_all (length l - at) (drop at l) (omega (arith, length-drop at l))

  pub part_back : (ys : List ℕ) → drop at (put_mid at (length l - at) l ys) ≡ ys
  part_back ys =
      drop_at (take at l) (ys ++ post_of at (length l - at) l) at (length-take-le at l h)
      ∙ ap (λ (z : List ℕ). ys ++ z) (drop_of_length-le (drop at l) {i = length l - at} (omega (arith, length-drop at l)))
      ∙ append-nil ys

  pub number_back : (k j : ℕ) (ys : List ℕ) → j < length ys → get_or (put_mid at k l ys) (at + j) 0 ≡ get_or ys j 0
  number_back k j ys g =
      sym (get_or-drop at (put_mid at k l ys) j 0)
      ∙ ap (λ (z : List ℕ). get_or z j 0) (drop_at (take at l) (ys ++ post_of at k l) at (length-take-le at l h))
      ∙ get_or-append ys (post_of at k l) 0 j g

  pub kept_behind : (k i : ℕ) (ys : List ℕ) → drop k ys ≡ drop k (mid_of at (length l - at) l) → at + k ≤ i
      → drop i (put_mid at (length l - at) l ys) ≡ drop i l
  kept_behind k i ys e g = rw (behind (put_mid at (length l - at) l ys), part_back ys, e, part_lent, ← behind l)
    where
      behind : (x : List ℕ) → drop i x ≡ drop (i - (at + k)) (drop k (drop at x))
      behind x =
          let j : i ≡ at + k + (i - (at + k)) = omega arith in
          rw (drop-drop k at x, drop-drop (i - (at + k)) (at + k) x, ← j)
