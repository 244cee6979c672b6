-- The letters written so far and what is left to write are the whole tree word: this is the invariant.
use mathlib.Core.Path.{◌≡◌}
use mathlib.Core.List.{List, ◌∷◌, ◌++◌}
use Prim.Native.Nat.{ℕ, zero, suc, ◌-◌, ◌/◌, ◌%◌, ◌^◌, ◌≤◌, ◌<◌}
use native.Mathlib.Omega.{arith}
use lib.ListN.{length, drop}
use borrow.Author.Tests.{lt-ltb}
use Rattle.chains.specs.Words.{Word}
use Rattle.trees.specs.TreeOf.{letter_at, number_after}
use Rattle.trees.specs.Walk.{letters_by, letters_for}
use Rattle.trees.proofs.writing.write_lines.Given as goal

-- The first letter, and no letter.
pub first : (k n x l : ℕ) → 1 < n → n ≤ k → l ≡ letter_at (n % 6) (x % 2)
    → letters_by k n x ≡ l ∷ letters_by (k - 1) (number_after l n) (x / 2 ^ (l / 2))
unfolding letters_by
first zero n x l h g e = absurd (omega arith)
first (suc k) n x l h g e = let p : suc k - 1 ≡ k = omega arith in rw (lt-ltb 1 n h, e, p)

-- w is the whole word and s the places at first; so many letters at most are left.
pub record Wrote (w : Word) (s places : List ℕ) (n x j : ℕ) : Type 0 where
  pub most : ℕ
  pub enough : n ≤ most
  pub front : List ℕ
  pub long : length front ≡ j
  pub whole : front ++ letters_by most n x ≡ w
  pub stored : places ≡ front ++ drop j s
  pub room : length w ≤ length s

abbrev pub invariant-loop-n : goal.invariant-loop-n
invariant-loop-n l = Wrote (letters_for l.number l.rises) l.initial.places l.places l.n l.path l.j

abbrev pub decreases-loop-n : goal.decreases-loop-n
decreases-loop-n l = l.n
