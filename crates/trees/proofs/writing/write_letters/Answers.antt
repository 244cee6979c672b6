-- The places are zeroed up to 160 before the letters are written, so zeros stand behind them.
use mathlib.Core.Path.{◌≡◌, refl, ◌∙◌}
use mathlib.Core.List.{List, ◌++◌}
use Prim.Native.Nat.{ℕ, ◌≤◌}
use lib.ListN.{length, drop}
use borrow.Rule.Slice.PartMut.{mid_of, put_mid}
use Rattle.chains.specs.Words.{Word}
use Rattle.lent.specs.Lent.{zeros, filled}
use Rattle.lent.specs.LentLaws.{zeros_by_fill, cleared, over_zeros}
use Rattle.trees.proofs.writing.write_letters.Goals as goal

-- The first 160 places come back as ys, and then the letters w are written.
module _ (w : Word) (entry ys : List ℕ) (few : length w ≤ 160) (room : 160 ≤ length entry) (zeroed : ys ≡ zeros (length (mid_of 0 160 entry))) where
  all : (k : ℕ) (l : List ℕ) → k ≡ length w → l ≡ w ++ drop k (put_mid 0 160 entry ys) → l ≡ filled 160 w entry
  all k l n e = (rw (cleared 160 entry entry ys room refl zeroed, n) at e) ∙ over_zeros 160 w entry few

pub returns-clause-places_after : goal.returns-clause-places_after
returns-clause-places_after c =
    all _ c.args.places.now _ c.requires.0 c.requires.1 (zeros_by_fill _ c.fill.ensures.after) _ _ c.write_lines.ensures.value
    c.write_lines.ensures.places_after
