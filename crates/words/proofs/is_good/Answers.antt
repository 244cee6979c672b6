-- A word is good if the first reader takes all of it: then every letter is left, and none is dropped.
use mathlib.Core.Path.{◌≡◌}
use mathlib.Core.Bool.{Bool, true, false}
use Prim.Native.Nat.{ℕ}
use native.Mathlib.Nat.{sub_self}
use lib.Dec.{eqb}
use Rattle.chains.specs.Words.{reads}
use Rattle.chains.specs.Listing.{one_if}
use Rattle.words.proofs.is_good.Goals as goal

is_one : (x : Bool) (r : ℕ) → r ≡ one_if x → eqb r 1 ≡ x
unfolding one_if
is_one true r e = rw e
is_one false r e = rw e

pub returns : goal.returns
returns c = is_one (reads true c.args.letters.now) c.after_b.result
    (rw sub_self at c.after_b.ensures)
