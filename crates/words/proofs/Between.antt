-- Places of which a run has been written (`between` of Walks): nothing written, one place more, a second run behind the first, the
-- first place of a run written again; what stands from the run on; and a part that is filled with one value.
use mathlib.Core.Path.{◌≡◌, refl, sym, ap, ap₂, ◌∙◌}
use mathlib.Core.List.{List, [], ◌∷◌, ◌++◌, append_assoc}
use Prim.Native.Nat.{ℕ, suc, ◌+◌, ◌-◌, ◌≤◌, ◌<◌}
use native.Mathlib.Numerals.{add-one}
use native.Mathlib.Omega.{arith}
use lib.ListN.{length, take, drop, get_or, set, replicate, length-append, length-drop, take-append-drop}
use lib.Seq.{length-take-le, drop-cons, drop-drop, take_at, drop_at, set_at, drop-append-add}
use borrow.Rule.Slice.PartMut.{mid_of, put_mid, mid_len, Post-is}
use Rattle.words.specs.Walks.{between}

module _ (l : List ℕ) where
  pub between_none : (i : ℕ) → l ≡ between i i [] l
  unfolding between
  between_none i = sym (take-append-drop i l)

  pub drop_between : (i j : ℕ) (xs : List ℕ) → i ≤ length l → drop i (between i j xs l) ≡ xs ++ drop j l
  unfolding between
  drop_between i j xs h = drop_at (take i l) (xs ++ drop j l) i (length-take-le i l h)

  -- A run xs from i up to j.
  module _ (i j : ℕ) (xs : List ℕ) (h : i ≤ j) (k : j ≤ length l) (e : length xs ≡ j - i) where
    front : length (take i l ++ xs) ≡ j
    front = length-append (take i l) xs ∙ omega (arith, length-take-le i l (omega arith))

    split : between i j xs l ≡ (take i l ++ xs) ++ drop j l
    unfolding between
    split = sym (append_assoc (take i l) xs (drop j l))

    pub length_between : length (between i j xs l) ≡ length l
    unfolding between
    length_between =
        simp (length-append, length-drop) (omega (arith, length-take-le i l (omega arith)))

    pub between_more : (v : ℕ) → j < length l → set (between i j xs l) j v ≡ between i (j + 1) (xs ++ (v ∷ [])) l
    unfolding between
    between_more v b =
        ap (λ z. set z j v) (split ∙ ap (λ z. (take i l ++ xs) ++ z) (drop-cons l j 0 b))
        ∙ set_at (take i l ++ xs) (get_or l j 0) (drop (suc j) l) v j front
        ∙ rw add-one (simp append_assoc)

    pub between_join : (m : ℕ) (ys : List ℕ) → j ≤ m → m ≤ length l → between j m ys (between i j xs l) ≡ between i m (xs ++ ys) l
    unfolding between
    between_join m ys p q =
        let past : m ≡ length (take i l ++ xs) + (m - j) = omega (arith, front) in
        let back : j + (m - j) ≡ m = omega arith in
        ap₂ (λ u v. u ++ (ys ++ v)) (ap (λ z. take j z) split ∙ take_at (take i l ++ xs) (drop j l) j front)
        (ap₂ (λ n z. drop n z) past split
        ∙ drop-append-add (take i l ++ xs) (drop j l) (m - j)
        ∙ drop-drop (m - j) j l
        ∙ ap (λ n. drop n l) back)
        ∙ simp append_assoc

  pub between_first : (i j x v : ℕ) (xs : List ℕ) → i ≤ length l → set (between i j (x ∷ xs) l) i v ≡ between i j (v ∷ xs) l
  unfolding between
  between_first i j x v xs h = set_at (take i l) x (xs ++ drop j l) v i (length-take-le i l h)

-- A run of one value: nothing filled, and one place more.
abbrev pub run : ℕ → ℕ → ℕ → List ℕ → List ℕ
run from i v l = between from i (replicate (i - from) v) l

-- A part from i up to j that is filled with one value.
pub filled_run : (l : List ℕ) (i j v : ℕ) → i ≤ j → j ≤ length l → (ys : List ℕ) → ys ≡ replicate (length (mid_of i (j - i) l)) v
    → put_mid i (j - i) l ys ≡ run i j v l
unfolding between
filled_run l i j v h k ys e = rw (e, mid_len i j l k, Post-is i j l h) refl
