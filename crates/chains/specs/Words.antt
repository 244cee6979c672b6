-- Path words: 003, section 2.2; document 01, 'Path words'.
-- A word is a list of letters 0 to 3. Definitions only; that chains and good words lead to each other is in RoundTrip, that the
-- readers take exactly the good words in Readers.
use Rattle.std.specs.Prelude.{◌≡◌, ◌⊎◌, Bool, true, false, ◌&&◌, List, [], ◌∷◌, ◌++◌, ℕ, zero, suc, ◌+◌, ◌-◌, ◌≤◌, ◌<◌, length, get_or, replicate}
use Rattle.chains.specs.Chains.{Part}

abbrev pub Word : Type 0
Word = List ℕ

-- ---- from a chain to its word: the walk

-- The walk starts at (0, 0).
abbrev pub origin : Part
origin = record { a = 0; b = 0 }

-- The points from q up to but without p, b rising before a, none of them a part: letter 2 where b rises next, 0 where a does.
unfoldable pub path : Part → Part → Word
path q p = replicate (p.b - q.b) 2 ++ replicate (p.a - q.a) 0

-- The same points where the first is a part: its letter 0 becomes 1, its letter 2 becomes 3.
unfoldable pub marked : Word → Word
marked [] = []
marked (l ∷ w) = suc l ∷ w

-- The letters from (0, 0) on, where w are those from the part p on, and c are the parts below p, largest first.
unfoldable pub walk : Part → List Part → Word → Word
walk p [] w = path origin p ++ w
walk p (q ∷ c) w = walk q c (marked (path q p) ++ w)

-- The word of a chain. The last point is the largest part, and its letter is 3.
unfoldable pub word_of : List Part → Word
word_of [] = []
word_of (p ∷ c) = walk p c (3 ∷ [])

-- ---- from a word to its chain

-- The next point where a rises, and where b rises.
unfoldable pub right : Part → Part
right p = record { a = suc p.a; b = p.b }

unfoldable pub up : Part → Part
up p = record { a = p.a; b = suc p.b }

-- The parts that the letters w mark from the point p on, before those met so far; the largest comes first.
unfoldable pub chain_from : Part → List Part → Word → List Part
chain_from p met [] = met
chain_from p met (zero ∷ w) = chain_from (right p) met w
chain_from p met (suc zero ∷ w) = chain_from (right p) (p ∷ met) w
chain_from p met (suc (suc zero) ∷ w) = chain_from (up p) met w
chain_from p met (suc (suc (suc zero)) ∷ w) = chain_from (up p) (p ∷ met) w
chain_from p met (suc (suc (suc (suc x))) ∷ w) = chain_from p met w

-- The chain that a word stands for.
unfoldable pub chain_of : Word → List Part
chain_of w = chain_from origin [] w

-- ---- good words

-- Letters 0 to 3, 3 at the end, and neither 02 nor 12 side by side.
pub record Spelled (w : Word) : Type 0 where
  pub letters : (i : ℕ) → i < length w → get_or w i 0 ≤ 3
  pub ends : get_or w (length w - 1) 0 ≡ 3
  pub no_02 : (i : ℕ) → i + 1 < length w → get_or w i 0 ≡ 0 → get_or w (i + 1) 0 ≡ 2 → ⊥
  pub no_12 : (i : ℕ) → i + 1 < length w → get_or w i 0 ≡ 1 → get_or w (i + 1) 0 ≡ 2 → ⊥

-- A good word, in document 01's own sentence.
unfoldable pub Good : Word → Type 0
Good w = (w ≡ []) ⊎ Spelled w

-- ---- the two readers

unfoldable pub some_left : Word → Bool
some_left [] = false
some_left (l ∷ w) = true

-- The two readers of document 01, which call on each other: `reads true` at the start and after b has risen, `reads false` after
-- a has risen, where no letter 2 may follow. A letter that is not the last must have a point after it.
unfoldable pub reads : Bool → Word → Bool
reads f [] = f
reads f (zero ∷ w) = reads false w
reads f (suc zero ∷ w) = reads false w
reads f (suc (suc zero) ∷ w) = f && (some_left w && reads true w)
reads f (suc (suc (suc zero)) ∷ w) = reads true w
reads f (suc (suc (suc (suc x))) ∷ w) = false
