-- The laws of lent memory; the definitions are in Lent.
--
-- In this order: zeros, also those that the library's `fill` leaves; the length is kept; a part of that size that was zeroed; what is
-- given, put over the zeros; memory of which only the first may have changed; whether too little is lent, and the memory at exit, in
-- each case, also where the first of it were lent on as an array.
use Rattle.std.specs.Prelude.{◌≡◌, refl, Bool, true, false, ◌||◌, List, [], ◌++◌, ℕ, zero, suc, ◌+◌, ◌-◌, ◌≤◌, ◌<◌, length, get_or, take, drop, replicate}
use Rattle.std.proofs.Common.{sym, ap, ◌∙◌, true≢false, append_assoc, append-nil, arith, length-append, length-drop, length-take-le, drop_of_length-le, drop_at}
use Rattle.std.proofs.Math.Bool.{or-true}
use Rattle.std.proofs.lemmas.List.{length-replicate, replicate-append-replicate}
use Rattle.std.proofs.Math.Seq.{take-append_seam}
use native.Mathlib.Nat.{sub-zero}
use borrow.Author.Tests.{le-ltb, lt-ltb}
use borrow.Rule.Slice.PartMut.{mid_of, put_mid}
use Rattle.lent.specs.Lent.{zeros, filled, OnlyFirst, fewer, too_few, Lends, memory_left}

-- ---- the rule

pub length_zeros : (k : ℕ) → length (zeros k) ≡ k
unfolding zeros
length_zeros k = length-replicate k 0

-- What `fill(0)` leaves of k numbers: its clause `after` says so under a premise, that a clone of 0 is 0.
pub zeros_by_fill : (k : ℕ) {ys : List ℕ} → (((y : ℕ) → y ≡ 0 → y ≡ 0) → ys ≡ replicate k 0) → ys ≡ zeros k
unfolding zeros
zeros_by_fill k after = after (λ y e. e)

pub zeros_at : (k i : ℕ) → get_or (zeros k) i 0 ≡ 0
unfolding zeros
zeros_at zero i = refl
zeros_at (suc k) zero = refl
zeros_at (suc k) (suc i) = zeros_at k i

-- Memory keeps its length.
pub length_filled : (size : ℕ) (xs entry : List ℕ) → length xs ≤ size → size ≤ length entry
    → length (filled size xs entry) ≡ length entry
unfolding filled
length_filled size xs entry h k = simp (length-append, length_zeros, length-drop) (omega arith)

-- At the end the first `size` of the memory l are lent on and come back as zeros; behind them l is as it was at entry.
pub cleared : (size : ℕ) (entry l ys : List ℕ) → size ≤ length l → drop size l ≡ drop size entry
    → ys ≡ zeros (length (mid_of 0 size l)) → put_mid 0 size l ys ≡ filled size [] entry
unfolding filled
cleared size entry l ys h e z =
    let k : length (mid_of 0 size l) ≡ size - 0 = omega (arith, length-take-le size l h) in
    rw (z, k, e)

-- What is given, over the first of zeroed memory.
pub over_zeros : (size : ℕ) (xs entry : List ℕ) → length xs ≤ size
    → xs ++ drop (length xs) (filled size [] entry) ≡ filled size xs entry
unfolding filled zeros
over_zeros size xs entry h =
    let k = length xs in
    let e : size - 0 ≡ k + (size - k) = omega arith in
    ap (λ (l : List ℕ). xs ++ l)
    (rw (e, ← replicate-append-replicate {A = ℕ} k (size - k) 0, append_assoc)
    (drop_at (replicate k 0) (replicate (size - k) 0 ++ drop size entry) k (length-replicate k 0)))

-- What is given stands first.
pub filled_first : (size : ℕ) (xs entry : List ℕ) → take (length xs) (filled size xs entry) ≡ xs
unfolding filled
filled_first size xs entry = take-append_seam xs _

-- Filled once more with the same, it is the same.
pub filled_again : (size : ℕ) (xs entry : List ℕ) → length xs ≤ size → filled size xs (filled size xs entry) ≡ filled size xs entry
unfolding filled
filled_again size xs entry h =
    let z = zeros (size - length xs) in
    let n : length (xs ++ z) ≡ size = rw (length-append xs z, length_zeros (size - length xs)) (omega arith) in
    let later : drop size (xs ++ (z ++ drop size entry)) ≡ drop size entry =
    ap (drop size) (sym (append_assoc xs z (drop size entry))) ∙ drop_at (xs ++ z) (drop size entry) size n
    in
    ap (λ (l : List ℕ). xs ++ (z ++ l)) later

-- ---- memory of which only the first may have changed

pub used_none : {size : ℕ} {l : List ℕ} → OnlyFirst size l l
used_none = record { same = refl; later = refl }

pub used_on : {size : ℕ} {entry between l : List ℕ} → OnlyFirst size entry between → OnlyFirst size between l → OnlyFirst size entry l
used_on f g = record { same = g.same ∙ f.same; later = g.later ∙ f.later }

-- So it is where the first were zeroed.
pub used_filled : (size : ℕ) (entry : List ℕ) → size ≤ length entry → OnlyFirst size entry (filled size [] entry)
unfolding filled
used_filled size entry h =
    record {
      later = drop_at (zeros (size - 0)) (drop size entry) size (omega (arith, length_zeros (size - 0)));
      same = length_filled size [] entry (omega arith) h;
    }

-- Zeroed, it is what zeroing it at entry would leave.
pub used_zeroed : {size : ℕ} {entry l : List ℕ} → OnlyFirst size entry l → filled size [] l ≡ filled size [] entry
unfolding filled
used_zeroed u = rw u.later

-- ---- whether too little is lent

module _ {size : ℕ} where
  pub scratch_little : (s : List ℕ) → length s < size → fewer size s ≡ true
  unfolding fewer
  scratch_little s h = lt-ltb (length s) size h

  pub scratch_enough : (s : List ℕ) → size ≤ length s → fewer size s ≡ false
  unfolding fewer
  scratch_enough s h = le-ltb (length s) size h

pub little_places : (size room : ℕ) (s p : List ℕ) → length p < room → too_few size room s p ≡ true
unfolding too_few
little_places size room s p h = rw (lt-ltb (length p) room h, or-true)

module _ {size : ℕ} (room : ℕ) (s p : List ℕ) where
  pub little_scratch_lem : length s < size → too_few size room s p ≡ true
  unfolding too_few
  little_scratch_lem h = rw (scratch_little s h)

  pub enough : Lends size room s p → too_few size room s p ≡ false
  unfolding too_few
  enough h = rw (scratch_enough s h.numbers, le-ltb (length p) room h.room)

  -- The other way round.
  pub not_little : too_few size room s p ≡ false → Lends size room s p
  not_little e =
      record {
        numbers = not_below (λ (h : length s < size). true≢false (sym (little_scratch_lem h) ∙ e));
        room = not_below (λ (h : length p < room). true≢false (sym (little_places size room s p h) ∙ e));
      }
    where
      not_below : {i k : ℕ} → ¬ (i < k) → k ≤ i
      not_below n = omega arith

-- Where one of two tests is asked for, and neither passed.
pub neither : (a b : Bool) → (a || b) ≡ false → (a ≡ false) × (b ≡ false)
neither true b e = absurd (true≢false e)
neither false b e = (refl, e)

-- ---- the memory at exit

module _ (size : ℕ) where
  pub left_untouched : (b : Bool) (s : List ℕ) → b ≡ true → memory_left size b s ≡ s
  unfolding memory_left
  left_untouched b s e = rw e

  pub left_zeroed : (b : Bool) (s : List ℕ) → b ≡ false → memory_left size b s ≡ filled size [] s
  unfolding memory_left
  left_zeroed b s e = rw e

  -- The first of the memory s were lent on as an array, which is zero when it is put back.
  pub zeroed_back : (s : List ℕ) {ys : List ℕ} → ys ≡ zeros size → ys ++ drop size s ≡ filled size [] s
  unfolding filled
  zeroed_back s z = rw (z, sub-zero size)

module _ {size : ℕ} where
  pub enough_zeroed : (room : ℕ) (s p : List ℕ) → Lends size room s p → memory_left size (too_few size room s p) s ≡ filled size [] s
  enough_zeroed room s p h = left_zeroed size (too_few size room s p) s (enough room s p h)

  -- The same of a service that is lent no places.
  pub served_zeroed : (s : List ℕ) → size ≤ length s → memory_left size (fewer size s) s ≡ filled size [] s
  served_zeroed s h = left_zeroed size (fewer size s) s (scratch_enough s h)

  -- Memory of just that size is zero throughout: so is an array that a service works in.
  pub whole_zeroed : (s : List ℕ) → length s ≡ size → memory_left size (fewer size s) s ≡ zeros size
  unfolding filled
  whole_zeroed s e =
      rw (served_zeroed s (omega (arith, e)), drop_of_length-le s {i = size} (omega (arith, e)), sub-zero size) (append-nil (zeros size))

  -- An array that was t, was zeroed and is put back over the first of the memory s.
  pub whole_back : (s t : List ℕ) {ys : List ℕ} → length t ≡ size → ys ≡ memory_left size (fewer size t) t
      → ys ++ drop size s ≡ filled size [] s
  whole_back s t e z = zeroed_back size s (z ∙ whole_zeroed t e)

  pub refused_untouched : (s : List ℕ) → length s < size → memory_left size (fewer size s) s ≡ s
  refused_untouched s h = left_untouched size (fewer size s) s (scratch_little s h)

  -- Memory of which only the first numbers were used, zeroed in the end.
  pub used_left : {entry l : List ℕ} → size ≤ length entry → OnlyFirst size entry l
      → memory_left size (fewer size l) l ≡ filled size [] entry
  used_left {entry} {l} h u = served_zeroed l (omega (arith, u.same)) ∙ used_zeroed u
