-- What the private functions of this crate tell and ask for. What the services answer is in Answers.
-- Definitions only.
use Rattle.std.specs.Prelude.{Bool, false, cond, Option, Some, None, [], ◌∷◌, ℕ, zero, suc, ◌/◌, ◌%◌, ◌^◌, ◌≤◌, T, ltb, length}
use Rattle.chains.specs.Words.{Word}
use Rattle.trees.specs.declared.producing.Way.{Way}
use Rattle.trees.specs.Trees.{produced, produced_after}
use Rattle.trees.specs.TreeOf.{letter_at, number_after, path_from}

-- ---- reading along the lines

-- Whether the lines go on with n and give the word w, after the letter x where there is one.
unfoldable pub goes_on_from : ℕ → Option ℕ → Word → Bool
goes_on_from n None w = produced w n
goes_on_from n (Some x) w = produced_after x w n

-- The same of a way on, if there is one.
unfoldable pub goes_on : Option Way → Word → Bool
goes_on None w = false
goes_on (Some y) w = goes_on_from y.n y.next w

-- A word that some number's lines produce, with room for its path word.
pub record Readable (w : Word) (places : ℕ) : Type 0 where
  pub number : ℕ
  pub made : T (produced w number)
  pub room : length (path_from 0 w) ≤ places

-- ---- writing along the lines

-- The letters from the number n on, along a path on which b rises where the bits of x say, the next point's the lowest. With k
-- bounding the number of letters, as in `letters_in`.
unfoldable pub letters_by : ℕ → ℕ → ℕ → Word
letters_by zero n x = []
letters_by (suc k) n x =
    let l = letter_at (n % 6) (x % 2) in
    let rest = letters_by k (number_after l n) (x / 2 ^ (l / 2)) in
    cond (ltb 1 n) (l ∷ rest) []

unfoldable pub letters_for : ℕ → ℕ → Word
letters_for n x = letters_by n n x
