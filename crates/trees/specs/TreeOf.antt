-- The tree word of a chain as a function, and the path word of a tree word's chain.
-- Definitions only. That the lines produce this word from the chain's sum, that it is read back as the chain, and that no other word
-- does both is `one_tree_word` in TreeLaws.
use Rattle.std.specs.Prelude.{cond, List, [], ◌∷◌, ℕ, zero, suc, ◌+◌, ◌-◌, ◌*◌, ◌/◌, ◌%◌, ltb, drop}
use Rattle.chains.specs.Chains.{Part, total}
use Rattle.chains.specs.Words.{Word, word_of}

-- ---- the tree word of a chain

-- The letter at a number with the remainder r modulo six, where u is 1 if 3 is the next letter that is not 1, and 0 if it is 2.
unfoldable pub letter_at : ℕ → ℕ → ℕ
letter_at zero u = 1 + 2 * u
letter_at (suc zero) u = 1
letter_at (suc (suc zero)) u = 2
letter_at (suc (suc (suc zero))) u = 1 + 2 * u
letter_at (suc (suc (suc (suc zero)))) u = 2 - u
letter_at (suc (suc (suc (suc (suc r))))) u = 1

-- The number after a letter.
unfoldable pub number_after : ℕ → ℕ → ℕ
number_after zero n = n
number_after (suc zero) n = n - 1
number_after (suc (suc zero)) n = n / 2
number_after (suc (suc (suc l))) n = n / 3

-- 1 where b rises at the first point of a path word, or the word ends there; 0 where a rises, and for the empty word.
unfoldable pub up_next : Word → ℕ
up_next [] = 0
up_next (zero ∷ v) = 0
up_next (suc zero ∷ v) = 0
up_next (suc (suc l) ∷ v) = 1

-- The letters of a tree word from the number n on, along the path word v. After 2 and 3 a point has been passed. With k bounding the
-- number of letters; n are enough.
unfoldable pub letters_in : ℕ → ℕ → Word → Word
letters_in zero n v = []
letters_in (suc k) n v =
    let l = letter_at (n % 6) (up_next v) in
    let rest = letters_in k (number_after l n) (drop (l / 2) v) in
    cond (ltb 1 n) (l ∷ rest) []

-- The tree word of a chain: the one word that the lines produce from its sum and that is read back as it (`one_tree_word`).
unfoldable pub tree_of : List Part → Word
tree_of c = letters_in (total c) (total c) (word_of c)

-- ---- the path word of a tree word's chain

-- The path word of a tree word's chain. p letters 1 are still owed: at a letter 2 or 3 a point of the path comes, and after a 2 half
-- of what is owed is owed on.
unfoldable pub path_from : ℕ → Word → Word
path_from p [] = 3 ∷ []
path_from p (zero ∷ w) = path_from p w
path_from p (suc zero ∷ w) = path_from (suc p) w
path_from p (suc (suc zero) ∷ w) = p % 2 ∷ path_from (p / 2) w
path_from p (suc (suc (suc zero)) ∷ w) = suc (suc p) ∷ path_from 0 w
path_from p (suc (suc (suc (suc l))) ∷ w) = path_from p w
