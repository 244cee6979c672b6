-- The list of n, its count, and positions in it: document 01, 'Path words' and 'Services and memory'.
-- Definitions only. Members says what the list of n holds and that it ascends, PositionsOfChains that a position leads to its chain
-- and back.
use Rattle.std.specs.Prelude.{Bool, true, false, cond, ◌&&◌, ◌||◌, List, [], ◌∷◌, ◌++◌, map, ℕ, zero, suc, ◌+◌, ◌/◌, ◌%◌, ltb, eqb, length, get_or}
use Rattle.chains.specs.Chains.{Part}
use Rattle.chains.specs.Words.{Word, word_of, chain_of}

-- u stands before v in the dictionary; a word that begins with another comes after it.
unfoldable pub before : Word → Word → Bool
before u [] = false
before [] (y ∷ v) = true
before (x ∷ u) (y ∷ v) = ltb x y || (eqb x y && before u v)

-- ---- the list of n, from the smallest part up
--
-- What is left of n at a point of the walk, divided by the point's value, is its rest m. Where a rises the letter is m % 2 and the
-- next rest m / 2; where b rises it is 2 + m % 3, for a remainder of 0 or 1, and the next rest m / 3. The Bool says which of the
-- two readers goes on: true at the start and after b has risen, false after a has risen, where letter 2 is shut out.

-- The words that begin with a rise of b: r is the remainder by three, t are the words at the third.
unfoldable pub by_third : Bool → ℕ → List Word → List Word
by_third true zero t = map (λ (w : Word). 2 ∷ w) t
by_third false zero t = []
by_third f (suc zero) t = map (λ (w : Word). 3 ∷ w) t
by_third f (suc (suc r)) t = []

-- The words at the rest m from those at its half and at its third. A rest of 0 ends the word, which a reader after a has risen
-- does not allow: the last point is a part.
unfoldable pub at_rest : Bool → ℕ → List Word → List Word → List Word
at_rest true zero h t = [] ∷ []
at_rest false zero h t = []
at_rest f (suc m) h t = map (λ (w : Word). suc m % 2 ∷ w) h ++ by_third f (suc m % 3) t

-- With k bounding the number of steps.
unfoldable pub words_in : ℕ → Bool → ℕ → List Word
words_in zero f m = at_rest f zero [] []
words_in (suc k) f m =
    let h = words_in k false (m / 2) in
    let t = words_in k true (m / 3) in
    at_rest f m h t

-- The words for the rest m, in dictionary order: m steps are enough.
unfoldable pub words_at : Bool → ℕ → List Word
words_at f m = words_in m f m

-- How many words a reader can go on with at the rest m.
unfoldable pub ways : Bool → ℕ → ℕ
ways f m = length (words_at f m)

-- The list of n, by words.
unfoldable pub list_of : ℕ → List Word
list_of n = words_at true n

-- The count of n: how many chains it has (003's W).
unfoldable pub count : ℕ → ℕ
count n = length (list_of n)

-- The words of a list that pass a test.
unfoldable pub keep : (Word → Bool) → List Word → List Word
keep t [] = []
keep t (w ∷ ws) = cond (t w) (w ∷ keep t ws) (keep t ws)

-- ---- positions

unfoldable pub one_if : Bool → ℕ
one_if true = 1
one_if false = 0

-- How many words of a list stand before w.
unfoldable pub count_before : Word → List Word → ℕ
count_before w [] = 0
count_before w (v ∷ l) = one_if (before v w) + count_before w l

-- A chain's position in the list of n: the number of chains before it.
unfoldable pub position : ℕ → List Part → ℕ
position n c = count_before (word_of c) (list_of n)

-- The chain at a position of the list of n.
unfoldable pub chain_at : ℕ → ℕ → List Part
chain_at n i = chain_of (get_or (list_of n) i [])
