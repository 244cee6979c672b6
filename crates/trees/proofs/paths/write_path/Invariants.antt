-- The letters stored up to j and the path word of what is left, with what is owed, are the whole path word: this is the invariant.
-- What is left is produced from some number, and what is owed there is one of the cases of `Owed`.
use mathlib.Core.Path.{◌≡◌}
use mathlib.Core.List.{List, ◌++◌}
use Prim.Native.Nat.{ℕ, ◌+◌, ◌≤◌}
use lib.Dec.{T}
use lib.ListN.{length, take, drop}
use Rattle.chains.specs.Words.{Word}
use Rattle.trees.specs.Trees.{produced}
use Rattle.trees.specs.TreeOf.{path_from}
use Rattle.trees.proofs.Letters.{rising}
use Rattle.trees.proofs.Owed.{Owed}
use Rattle.trees.proofs.paths.write_path.Given as goal

-- w is the whole word, v what is left of it.
pub record Walk (w v : Word) (path : List ℕ) (size owed j : ℕ) : Type 0 where
  pub number : ℕ
  pub made : T (produced v number)
  pub spare : ℕ
  pub owing : Owed owed number (rising v) spare
  pub same : length path ≡ size
  pub count : j + length (path_from owed v) ≡ length (path_from 0 w)
  pub room : length (path_from 0 w) ≤ size
  pub whole : take j path ++ path_from owed v ≡ path_from 0 w

abbrev pub invariant-loop-letter : goal.invariant-loop-letter
invariant-loop-letter l = Walk l.letters (drop l.letter-index l.letters) l.path (length l.initial.path) l.owed l.j
