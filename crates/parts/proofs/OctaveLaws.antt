-- The arithmetic of Octaves finds the part of each number: one test, computed over all 1344 numbers, and what it says of each.
use Rattle.std.specs.Prelude.{◌≡◌, refl, Bool, ◌&&◌, ℕ, ◌+◌, ◌-◌, ◌*◌, ◌^◌, ◌/◌, ◌≤◌, ◌<◌, ltb, leb, eqb, get_or}
use Rattle.std.proofs.Math.Path.{sym}
use Rattle.std.proofs.Common.{◌∙◌, ltb→lt, eqb→eq}
use Rattle.std.proofs.Math.Dec.{T, leb→le}
use Rattle.std.specs.Float.Ieee.Fits.{and_l, and_r}
use Rattle.chains.specs.Chains.{Part, value}
use Rattle.chains.proofs.Divides.{value_unique}
use Rattle.parts.specs.Table.{rows, parts}
use Rattle.parts.specs.Parts.{part_at}
use Rattle.parts.proofs.Tests.{below, at_below, look, look_joined}
use Rattle.parts.proofs.Numbers.{parts_in_32s, part_value}
use Rattle.parts.specs.Octaves.{parts_below, later_of, last_of, last_from, octave_at, InOctave}
use Rattle.parts.specs.Octaves.{next_group, in_group, in_groups, triplings_at}

-- ---- the test

-- v is the part of octave l with b for the exponent of 3: 3^b has 1623 b / 1024 binary digits after the first.
is_part : ℕ → ℕ → ℕ → Bool
is_part v l b = leb (1623 * b / 1024) l && eqb (2 ^ (l - 1623 * b / 1024) * 3 ^ b) v

-- Octave l has the numbers from `first` up to below `past`: it is that of number i, and v is the part at i.
right_in : ℕ → ℕ → ℕ → ℕ → ℕ → Bool
right_in i v l first past =
    ltb l 64
    && (leb first i
    && (ltb i past && (leb (past - first) 41 && is_part v l (triplings_at (past - first - 1) (i - first)))))

right_octave : ℕ → ℕ → Bool
right_octave i l = right_in i (look rows i) l (parts_below l) (parts_below (l + 1))

-- The first round ends at 56 at most, and the second at the right octave.
right_number : ℕ → Bool
right_number i = leb (last_from 0 8 i) 56 && right_octave i (octave_at i)

right_numbers : T (below 1344 right_number)
unfolding below right_number right_octave right_in is_part parts_below later_of last_of last_from octave_at next_group in_group in_groups
    triplings_at look rows
right_numbers = tt

-- ---- each number

-- The same, told of numbers.
record Right (i v l first past b : ℕ) : Type 0 where
  low : l < 64
  from : first ≤ i
  to : i < past
  most : past - first ≤ 41
  digits : 1623 * b / 1024 ≤ l
  part : 2 ^ (l - 1623 * b / 1024) * 3 ^ b ≡ v

told : (i v l first past : ℕ) → T (right_in i v l first past)
    → Right i v l first past (triplings_at (past - first - 1) (i - first))
unfolding right_in is_part
told i v l first past t =
    let b = triplings_at (past - first - 1) (i - first) in
    let e = 1623 * b / 1024 in
    let p = 2 ^ (l - e) * 3 ^ b in
    let five = leb e l && eqb p v in
    let four = leb (past - first) 41 && five in
    let three = ltb i past && four in
    let two = leb first i && three in
    let t2 = and_r (ltb l 64) two t in
    let t3 = and_r (leb first i) three t2 in
    let t4 = and_r (ltb i past) four t3 in
    let t5 = and_r (leb (past - first) 41) five t4 in
    record {
      low = ltb→lt l 64 (and_l (ltb l 64) two t);
      from = leb→le first i (and_l (leb first i) three t2);
      to = ltb→lt i past (and_l (ltb i past) four t3);
      most = leb→le (past - first) 41 (and_l (leb (past - first) 41) five t4);
      digits = leb→le e l (and_l (leb e l) (eqb p v) t5);
      part = eqb→eq p v (and_r (leb e l) (eqb p v) t5);
    }

module _ (i : ℕ) (h : i < 1344) where
  tested : T (right_number i)
  tested = at_below 1344 right_number right_numbers i h

  pub first_round : last_from 0 8 i ≤ 56
  unfolding right_number
  first_round = leb→le (last_from 0 8 i) 56 (and_l (leb (last_from 0 8 i) 56) (right_octave i (octave_at i)) tested)

  right : (l first past : ℕ) → l ≡ octave_at i → first ≡ parts_below l → past ≡ parts_below (l + 1)
      → Right i (get_or parts i 0) l first past (triplings_at (past - first - 1) (i - first))
  unfolding right_number right_octave parts
  right l first past e f g =
      let o = octave_at i in
      let t = and_r (leb (last_from 0 8 i) 56) (right_octave i o) tested in
      let p : T (right_in i (get_or parts i 0) o (parts_below o) (parts_below (o + 1))) = rw (← look_joined rows parts_in_32s i) t in
      rw (f, g, e) (told i (get_or parts i 0) o (parts_below o) (parts_below (o + 1)) p)

  pub in_octave : (l : ℕ) → l ≡ octave_at i → InOctave i l
  in_octave l e =
      let r = right l (parts_below l) (parts_below (l + 1)) e refl refl in
      record { octave = e; low = r.low; from = r.from; to = r.to; most = r.most }

  -- The part that is found at the place of a number in its octave.
  pub part_found : (l first past b : ℕ) → InOctave i l → first ≡ parts_below l → past ≡ parts_below (l + 1)
      → b ≡ triplings_at (past - first - 1) (i - first)
      → (1623 * b / 1024 ≤ l) × (record { a = l - 1623 * b / 1024; b = b } ≡ part_at i)
  unfolding value
  part_found l first past b o f g e =
      let r : Right i (get_or parts i 0) l first past b = rw e (right l first past o.octave f g) in
      let p : Part = record { a = l - 1623 * b / 1024; b = b } in
      (r.digits, value_unique p (part_at i) (r.part ∙ sym (part_value i h)))
