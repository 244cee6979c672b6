-- The letters that are read, one after the other, are the eight from the place on.
use mathlib.Core.Path.{◌≡◌}
use mathlib.Core.List.{[], ◌∷◌}
use Prim.Native.Nat.{ℕ, suc, ◌+◌, ◌≤◌, ◌<◌}
use native.Mathlib.Omega.{arith}
use lib.ListN.{length, take, drop, get_or}
use lib.Seq.{drop-cons}
use borrow.Author.Rules.{rules}
use Rattle.chains.specs.Words.{Word}
use Rattle.comparing.specs.Eights.{high_first}
use Rattle.comparing.proofs.EightAt.{eight_bytes, eight_long}
use Rattle.comparing.proofs.eights.eight_at.Goals as goal

one_more : (l : Word) (k i j : ℕ) → i < length l → suc i ≡ j → take (suc k) (drop i l) ≡ get_or l i 0 ∷ take k (drop j l)
one_more l k i j h e = rw (← e, drop-cons l i 0 h)

eight_read : (l : Word) (i : ℕ) → i + 8 ≤ length l
    → (get_or l i 0 ∷ get_or l (i + 1) 0 ∷ get_or l (i + 2) 0 ∷ get_or l (i + 3) 0 ∷ get_or l (i + 4) 0 ∷ get_or l (i + 5) 0
    ∷ get_or l (i + 6) 0 ∷ get_or l (i + 7) 0 ∷ []) ≡ take 8 (drop i l)
eight_read l i h =
    rw (
      one_more l 7 i (i + 1) (omega arith) (omega arith),
      one_more l 6 (i + 1) (i + 2) (omega arith) (omega arith),
      one_more l 5 (i + 2) (i + 3) (omega arith) (omega arith),
      one_more l 4 (i + 3) (i + 4) (omega arith) (omega arith),
      one_more l 3 (i + 4) (i + 5) (omega arith) (omega arith),
      one_more l 2 (i + 5) (i + 6) (omega arith) (omega arith),
      one_more l 1 (i + 6) (i + 7) (omega arith) (omega arith),
      one_more l 0 (i + 7) (i + 8) (omega arith) (omega arith),
    )

pub returns : goal.returns
unfolding high_first
returns c =
    let l = c.args.letters.now in
    record {
      bytes = eight_bytes l c.args.i (search rules);
      long = eight_long l c.args.i c.requires;
      number = rw (← eight_read l c.args.i c.requires) (omega arith);
    }
