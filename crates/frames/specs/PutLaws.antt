-- Theory of digits written into bytes that are lent.
--
-- In this order: one piece more after those that stand; a part that was lent on and comes back;
-- zeros up to the size that document 01 asks for.
use Rattle.std.specs.Prelude.{◌≡◌, refl, List, [], ◌++◌, ℕ, ◌+◌, ◌-◌, ◌≤◌, length, take, drop}
use Rattle.std.proofs.Common.{◌∙◌, append-nil, append_assoc, add-zero, add_assoc, arith, take-append-drop, length-append, length-drop, drop_of_length-le, length-take-le, drop-drop, take_at}
use borrow.Rule.Slice.PartMut.{mid_of, put_mid, Post-is, mid_len}
use Rattle.std.proofs.Math.Seq.{drop-append-add}
use Rattle.lent.specs.LentLaws.{length_zeros}
use Rattle.digits.specs.Digits.{digits_of, put_digits}
use Rattle.digits.proofs.DigitLaws.{length_digits, put_room}
use Rattle.lent.specs.Lent.{zeros, filled}
use Rattle.lent.specs.Parts.{part_lent}
use Rattle.frames.specs.Put.{put_at}

-- ys right after xs.
pub put_put : (at k : ℕ) (xs ys l : List ℕ) → k ≡ at + length xs → at + length xs ≤ length l
    → put_at k ys (put_at at xs l) ≡ put_at at (xs ++ ys) l
unfolding put_at
put_put at k xs ys l e h =
    let p = take at l ++ xs in
    let q = drop (at + length xs) l in
    let n : length p ≡ k = length-append (take at l) xs ∙ omega (arith, length-take-le at l (omega arith)) in
    let d : drop (k + length ys) (p ++ q) ≡ drop (length ys) q = rw (← n) (drop-append-add p q (length ys)) in
    let cut : take k (put_at at xs l) ≡ p = rw (← append_assoc (take at l) xs q) (take_at p q k n) in
    let rest : drop (k + length ys) (put_at at xs l) ≡ drop (at + length (xs ++ ys)) l =
    rw (← append_assoc (take at l) xs q, d, drop-drop (length ys) (at + length xs) l, length-append xs ys, add_assoc) in
    rw (cut, rest) (simp append_assoc)

-- From `start` up to `end` xs stand in l, where l₀ was lent.
pub record Stands (start : ℕ) (xs l₀ l : List ℕ) (end : ℕ) : Type 0 where
  pub ends : end ≡ start + length xs
  pub list : l ≡ put_at start xs l₀

pub none_yet : (start : ℕ) (l : List ℕ) → Stands start [] l l start
unfolding put_at
none_yet start l = record { ends = omega arith; list = rw (add-zero, take-append-drop) }

pub one_more : (start j k : ℕ) (xs ys l₀ l m : List ℕ) → Stands start xs l₀ l j → j ≤ length l₀ → m ≡ put_at j ys l
    → k ≡ j + length ys
    → Stands start (xs ++ ys) l₀ m k
one_more start j k xs ys l₀ l m s h e d =
    record {
      ends = omega (arith, s.ends, length-append xs ys);
      list = e ∙ rw s.list (put_put start j xs ys l₀ s.ends (omega (arith, s.ends)));
    }

-- What stands at the start; the digits of a number, first and after others.
pub at_start : (k : ℕ) (xs l₀ l : List ℕ) → length xs ≡ k → l ≡ put_at 0 xs l₀ → Stands 0 xs l₀ l k
at_start k xs l₀ l n e = record { ends = omega arith; list = e }

pub first_digits : (start k n end : ℕ) (l₀ l : List ℕ) → end ≡ start + k → l ≡ put_at start (digits_of k n) l₀
    → Stands start (digits_of k n) l₀ l end
first_digits start k n end l₀ l f e = record { ends = omega (arith, length_digits k n); list = e }

pub more_digits : (start j k n end : ℕ) (xs l₀ l m : List ℕ) → Stands start xs l₀ l j → j ≤ length l₀ → end ≡ j + k
    → m ≡ put_at j (digits_of k n) l
    → Stands start (xs ++ digits_of k n) l₀ m end
more_digits start j k n end xs l₀ l m s h f e =
    one_more start j end xs (digits_of k n) l₀ l m s h e (omega (arith, length_digits k n))

-- What stands at the start ends at its own length.
pub from_start : (xs l₀ l : List ℕ) (end : ℕ) → Stands 0 xs l₀ l end → (end ≡ length xs) × (l ≡ put_at 0 xs l₀)
from_start xs l₀ l end s = (omega (arith, s.ends), s.list)

-- A part that was lent on.
pub put_part : (at k n : ℕ) (l : List ℕ) → at + k ≤ length l
    → put_mid at (length l - at) l (put_digits k n (mid_of at (length l - at) l)) ≡ put_at at (digits_of k n) l
unfolding put_at
put_part at k n l h =
    let g : k ≤ length (drop at l) = omega (arith, length-drop at l) in
    let r : drop (length l - at) (drop at l) ≡ [] =
    drop_of_length-le (drop at l) {i = length l - at} (omega (arith, length-drop at l)) in
    rw (part_lent at l (omega arith), put_room k n (drop at l) g, r, append-nil, drop-drop k at l, length_digits k n)

-- Zeros from `at` up to `size`, and the rule for lent memory where the first digits stand.
pub zeros_part : (at size : ℕ) (l : List ℕ) → at ≤ size → size ≤ length l
    → put_mid at (size - at) l (zeros (length (mid_of at (size - at) l))) ≡ put_at at (zeros (size - at)) l
unfolding put_at
zeros_part at size l h g =
    let e : at + (size - at) ≡ size = omega arith in
    rw (mid_len at size l g, Post-is at size l h, length_zeros, e)

pub put_filled : (size at : ℕ) (xs l₀ l m : List ℕ) → Stands 0 xs l₀ l at → at ≤ size → size ≤ length l₀
    → m ≡ put_at at (zeros (size - at)) l → m ≡ filled size xs l₀
unfolding put_at filled
put_filled size at xs l₀ l m s h g e =
    let zs = zeros (size - at) in
    let n : at ≡ length xs = omega (arith, s.ends) in
    let t : 0 + length (xs ++ zs) ≡ size = omega (arith, length-append xs zs, length_zeros (size - at)) in
    (one_more 0 at (at + length zs) xs zs l₀ l m s (omega arith) e refl).list ∙ rw (t, append_assoc, ← n)
