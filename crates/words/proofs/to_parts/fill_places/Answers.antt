-- The places are zeroed up to 64 before the numbers are stored, so zeros stand behind the numbers: there are no more than 64 parts.
use mathlib.Core.Path.{◌≡◌, refl, ◌∙◌}
use mathlib.Core.List.{List, [], ◌++◌, map}
use Prim.Native.Nat.{ℕ, ◌^◌, ◌≤◌, ◌<◌}
use native.Mathlib.Omega.{arith}
use lib.Count.{ones-le}
use lib.ListN.{length, drop, length-map}
use borrow.Author.Rules.{rules}
use borrow.Rule.Slice.PartMut.{mid_of, put_mid}
use Rattle.lent.specs.Lent.{zeros, filled}
use Rattle.lent.specs.LentLaws.{zeros_by_fill, length_filled, cleared, over_zeros}
use Rattle.parts.specs.Parts.{part_number}
use Rattle.words.specs.Packed.{packed_chain}
use Rattle.words.specs.UnpackedLaws.{packed_count}
use Rattle.words.proofs.to_parts.fill_places.Goals as goal

-- The first 64 places come back as ys.
module _ (entry ys : List ℕ) (room : 64 ≤ length entry) (zeroed : ys ≡ zeros (length (mid_of 0 64 entry))) where
  back : put_mid 0 64 entry ys ≡ filled 64 [] entry
  back = cleared 64 entry entry ys room refl zeroed

  inside : 64 ≤ length (put_mid 0 64 entry ys)
  inside = rw back (omega (arith, length_filled 64 [] entry (omega arith) room))

  all : (rises marks : ℕ) → marks < 2 ^ 64 → (l : List ℕ)
      → l ≡ map part_number (packed_chain rises marks) ++ drop (length (packed_chain rises marks)) (put_mid 0 64 entry ys)
      → l ≡ filled 64 (map part_number (packed_chain rises marks)) entry
  all rises marks fits l e =
      let numbers = map part_number (packed_chain rises marks) in
      let count : length numbers ≡ length (packed_chain rises marks) = length-map (packed_chain rises marks) part_number in
      rw (back, ← count) at e ∙ over_zeros 64 numbers entry (omega (arith, packed_count rises marks fits, ones-le 64 marks fits))

pub store_numbers-requires : goal.store_numbers-requires
store_numbers-requires c =
    inside c.args.places.now _ c.requires (zeros_by_fill _ c.fill.ensures.after)

pub returns : goal.returns
returns c =
    all c.args.places.now _ c.requires (zeros_by_fill _ c.fill.ensures.after) _ _ (search rules) _ c.store_numbers.ensures
