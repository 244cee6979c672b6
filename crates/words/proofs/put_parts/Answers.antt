-- There are as many parts as marks. Where fewer than 64 places are lent, no more is done.
use mathlib.Core.Path.{◌≡◌, sym, ◌∙◌}
use mathlib.Core.List.{List, map}
use Prim.Native.Nat.{ℕ, ◌≤◌, ◌<◌}
use lib.ListN.{length}
use borrow.Author.Rules.{rules}
use borrow.Author.Tests.{lt-ltb, le-ltb}
use Rattle.lent.specs.Lent.{filled}
use Rattle.parts.specs.Parts.{part_number}
use Rattle.words.specs.Packed.{packed_chain, parts_left}
use Rattle.words.specs.UnpackedLaws.{packed_count}
use Rattle.words.proofs.put_parts.Goals as goal

module _ (rises marks : ℕ) (entry : List ℕ) where
  few : length entry < 64 → entry ≡ parts_left rises marks entry
  unfolding parts_left
  few h = rw (lt-ltb (length entry) 64 h)

  put : 64 ≤ length entry → (l : List ℕ) → l ≡ filled 64 (map part_number (packed_chain rises marks)) entry
      → l ≡ parts_left rises marks entry
  unfolding parts_left
  put h l e = rw (le-ltb (length entry) 64 h) e

pub returns-then-places-lt64 : goal.returns-then-places-lt64
returns-then-places-lt64 c =
    record { answer = c.from-k.ensures ∙ sym (packed_count c.args.rises c.args.marks (search rules)); places = few _ _ c.args.places.now c.if-places-lt64.true }

pub returns : goal.returns
returns c =
    record { answer = c.from-k.ensures ∙ sym (packed_count c.args.rises c.args.marks (search rules)); places = put _ _ c.args.places.now c.if-places-lt64.false _ c.fill_places.ensures }
