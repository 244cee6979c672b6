-- The numbers stored and those of the parts that the marks left give are those of all parts: this is the invariant. A turn takes
-- the highest mark, which is the largest part's.
use mathlib.Core.Path.{◌≡◌}
use mathlib.Core.List.{List, ◌++◌, map}
use Prim.Native.Nat.{ℕ, ◌≤◌}
use lib.ListN.{length, drop}
use Rattle.parts.specs.Parts.{part_number}
use Rattle.words.specs.Packed.{packed_chain}
use Rattle.words.proofs.to_parts.store_numbers.Given as goal

-- ---- the places

-- Of the numbers `all` those in `left` are still to be stored; l are the places, which were `entry`, and k of them are stored at.
pub record Stored (all left entry l : List ℕ) (k : ℕ) : Type 0 where
  pub met : List ℕ
  pub split : all ≡ met ++ left
  pub count : length met ≡ k
  pub stored : l ≡ met ++ drop k entry
  pub same : length l ≡ length entry

-- ---- the numbers of the parts

abbrev pub numbers : ℕ → ℕ → List ℕ
numbers rises m = map part_number (packed_chain rises m)

abbrev pub invariant-loop-k : goal.invariant-loop-k
invariant-loop-k l = (l.left ≤ l.marks) × Stored (numbers l.rises l.marks) (numbers l.rises l.left) l.initial.places l.places l.k
