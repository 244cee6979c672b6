-- The numbers stored and those of the parts that the marks left give are those of all parts: this is the invariant. A turn takes
-- the highest mark, which is the largest part's.
use mathlib.Core.Path.{◌≡◌, refl, sym, ap, ◌∙◌}
use mathlib.Core.List.{List, [], ◌∷◌, ◌++◌, map, append-nil}
use Prim.Native.Nat.{ℕ, suc, ◌+◌, ◌-◌, ◌*◌, ◌%◌, ◌^◌, ◌≤◌, ◌<◌}
use native.Mathlib.Nat.{lt_of_not-le}
use native.Mathlib.Numerals.{add-one}
use native.Mathlib.Omega.{arith}
use lib.Count.{ones, count_leading_zeros, leading_top, ones-le}
use lib.ListN.{length, drop, get_or, set, length-append, length-map, length-set}
use lib.Seq.{append_snoc, drop-cons, set_at}
use borrow.Author.Rules.{rules}
use Rattle.parts.specs.Parts.{part_number}
use Rattle.words.specs.Packed.{packed_chain}
use Rattle.words.specs.UnpackedLaws.{packed_none, packed_count, packed_largest}
use Rattle.words.specs.Walks.{point_at}
use Rattle.words.proofs.Powers.{power}
use Rattle.words.proofs.to_parts.store_numbers.Invariants.{Stored, numbers}
use Rattle.words.proofs.to_parts.store_numbers.Goals as goal

-- ---- the highest mark

abbrev place : ℕ → ℕ
place m = 63 - count_leading_zeros 64 m

record Highest (m : ℕ) : Type 0 where
  few : count_leading_zeros 64 m ≤ 63
  least : 2 ^ place m ≤ m
  most : m < 2 ^ suc (place m)
  bit : 1 * 2 ^ place m % 2 ^ 64 ≡ 2 ^ place m

highest : (m : ℕ) → 0 < m → m < 2 ^ 64 → Highest m
highest m some fits =
    let (j, all, least, most) = leading_top 64 m some fits in
    let here : j ≡ place m = omega arith in
    record {
      few = omega arith;
      least = rw here at least;
      most = rw here at most;
      bit = power (place m) (omega arith);
    }

start : (all entry : List ℕ) → Stored all all entry entry 0
start all entry = record { met = []; split = refl; count = refl; stored = refl; same = refl }

module _ {all left entry l : List ℕ} {k : ℕ} (s : Stored all left entry l k) where
  all_placed : k + length left ≡ length all
  all_placed = omega (arith, ap length s.split, length-append s.met left, s.count)

  next : (v : ℕ) (rest : List ℕ) → left ≡ v ∷ rest → k < length entry → Stored all rest entry (set l k v) (k + 1)
  next v rest e h =
      record {
        met = s.met ++ (v ∷ []);
        split = s.split ∙ ap (λ z. s.met ++ z) e ∙ sym (append_snoc s.met v rest);
        count = length-append s.met (v ∷ []) ∙ omega (arith, s.count);
        stored =
            ap (λ z. set z k v) (s.stored ∙ ap (λ z. s.met ++ z) (drop-cons entry k 0 h))
            ∙ set_at s.met (get_or entry k 0) (drop (suc k) entry) v k s.count
            ∙ rw add-one (sym (append_snoc s.met v (drop (suc k) entry)));
        same = length-set l k v ∙ s.same;
      }

  none_left : left ≡ [] → l ≡ all ++ drop (length all) entry
  none_left e =
      let whole : all ≡ s.met = s.split ∙ ap (λ z. s.met ++ z) e ∙ append-nil s.met in
      let long : length all ≡ k = ap length whole ∙ s.count in
      rw (long, whole) s.stored

at_most_64 : (rises m : ℕ) → m < 2 ^ 64 → length (numbers rises m) ≤ 64
at_most_64 rises m fits =
    omega (arith, length-map (packed_chain rises m) part_number, packed_count rises m fits, ones-le 64 m fits)

none : (rises m : ℕ) → m ≤ 0 → numbers rises m ≡ []
none rises m h = let z : m ≡ 0 = omega arith in rw (z, packed_none rises)

first : (rises m : ℕ) → Highest m
    → numbers rises m ≡ part_number (point_at rises (place m)) ∷ numbers rises (m - 1 * 2 ^ place m % 2 ^ 64)
first rises m h =
    rw h.bit (ap (map part_number) (packed_largest rises m (place m) (omega arith) h.least h.most))

-- As many numbers as marks.
marks_counted : (rises m : ℕ) → m < 2 ^ 64 → length (numbers rises m) ≡ ones m
marks_counted rises m fits = length-map (packed_chain rises m) part_number ∙ packed_count rises m fits

-- A turn, while fewer numbers are stored than there are marks.
module _
    (rises marks left k : ℕ) (entry l : List ℕ) (fits : marks < 2 ^ 64) (room : 64 ≤ length entry) (turn : k < ones marks)
    (now : (left ≤ marks) × Stored (numbers rises marks) (numbers rises left) entry l k)
  where
    some : 0 < left
    some =
        lt_of_not-le (λ (h : left ≤ 0).
        omega (arith, all_placed now.1, marks_counted rises marks fits, ap length (none rises left h)))

    top : Highest left
    top = highest left some (omega (arith, now.0))

    inside : (k < 64) × (64 ≤ length l)
    inside = (
      omega (arith, all_placed now.1, at_most_64 rises marks fits, ap length (first rises left top)),
      omega (arith, now.1.same),
    )

    again : (v : ℕ) → v ≡ part_number (point_at rises (place left))
        → Stored (numbers rises marks) (numbers rises (left - 1 * 2 ^ place left % 2 ^ 64)) entry (set l k v) (k + 1)
    again v e = rw e (next now.1 (part_number (point_at rises (place left))) _ (first rises left top) (omega (arith, inside.0)))

-- All numbers are stored.
done : (rises marks left k : ℕ) (entry l : List ℕ) → marks < 2 ^ 64 → Stored (numbers rises marks) (numbers rises left) entry l k
    → ones marks ≤ k → l ≡ numbers rises marks ++ drop (length (packed_chain rises marks)) entry
done rises marks left k entry l fits s h =
    rw (← length-map (packed_chain rises marks) part_number)
    (none_left s (empty (numbers rises left) (omega (arith, all_placed s, marks_counted rises marks fits))))
  where
    empty : (xs : List ℕ) → length xs ≤ 0 → xs ≡ []
    empty [] g = refl
    empty (x ∷ xs) g = absurd (omega arith)

pub loop-k-init : goal.loop-k-init
loop-k-init c = (omega arith, start _ _)

pub overflow_sub-i : goal.overflow_sub-i
overflow_sub-i c = (top c.args.rises c.args.marks _ _ _ c.loop-k.places (search rules) c.requires (omega arith) c.loop-k.invariant).few

pub number_at-requires : goal.number_at-requires
number_at-requires c = omega arith

pub offset_bounds-places-k : goal.offset_bounds-places-k
offset_bounds-places-k c =
    omega (arith, inside c.args.rises c.args.marks _ _ _ c.loop-k.places (search rules) c.requires (omega arith) c.loop-k.invariant)

pub bounds-places-k : goal.bounds-places-k
bounds-places-k c =
    omega (arith, inside c.args.rises c.args.marks _ _ _ c.loop-k.places (search rules) c.requires (omega arith) c.loop-k.invariant)

pub overflow_sub-left : goal.overflow_sub-left
overflow_sub-left c =
    let h = top c.args.rises c.args.marks _ _ _ c.loop-k.places (search rules) c.requires (omega arith) c.loop-k.invariant in
    omega (arith, h.bit, h.least)

pub loop-k-preserved : goal.loop-k-preserved
loop-k-preserved c = (
  omega (arith, c.loop-k.invariant.0),
  again _ _ _ _ _ _ (search rules) c.requires (omega arith) c.loop-k.invariant _ c.number_at.ensures,
)

pub shape_of-places : goal.shape_of-places
shape_of-places c = c.loop-k.invariant.1.same

pub returns : goal.returns
returns c = done _ _ _ _ _ _ (search rules) c.loop-k.invariant.1 (omega arith)
