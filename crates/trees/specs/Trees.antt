-- Tree words: document 02, T-05; 003, sections 2.1 and 2.2 with figure 1.
-- A tree word is a list of letters 1 to 3. First, which words the six lines produce from a number; then, which chain a word is read
-- back as.
-- Definitions only. That each chain of n has exactly one tree word, and that both ways lead back, is in TreeLaws.
use Rattle.std.specs.Prelude.{Bool, false, cond, not, ◌&&◌, ◌||◌, List, [], ◌∷◌, ◌++◌, map, ℕ, zero, suc, ◌+◌, ◌-◌, ◌*◌, ◌/◌, ◌%◌, ltb, eqb}
use Rattle.chains.specs.Chains.{Part, total}
use Rattle.chains.specs.Words.{Word, origin, right, up}

-- ---- the six lines

-- The lines of a number n with the remainder r modulo six, for a word with the first letter l: `on m` says that the lines go on
-- with m after this letter, `next x m` that the letter x comes next and the lines go on with m after it.
unfoldable pub line : ℕ → ℕ → ℕ → (ℕ → Bool) → (ℕ → ℕ → Bool) → Bool
line zero n l on next = (eqb l 3 && on (n / 3)) || (eqb l 1 && on (n - 1))
line (suc zero) n l on next = eqb l 1 && on (n - 1)
line (suc (suc zero)) n l on next = eqb l 2 && on (n / 2)
line (suc (suc (suc zero))) n l on next = (eqb l 3 && on (n / 3)) || (eqb l 1 && next 2 ((n - 1) / 2))
line (suc (suc (suc (suc zero)))) n l on next = (eqb l 2 && on (n / 2)) || (eqb l 1 && next 3 ((n - 1) / 3))
line (suc (suc (suc (suc (suc r))))) n l on next = eqb l 1 && next 2 ((n - 1) / 2)

-- Whether the lines produce a word from the number n: from a number above 1 by its remainder; the number 1 ends the word.
unfoldable mutual
  pub produced : Word → ℕ → Bool
  produced [] n = eqb n 1
  produced (l ∷ w) n = ltb 1 n && line (n % 6) n l (λ m. produced w m) (λ x m. produced_after x w m)

  -- The letter x comes first.
  pub produced_after : ℕ → Word → ℕ → Bool
  produced_after x [] n = false
  produced_after x (l ∷ w) n = eqb l x && produced w n

-- ---- the number of a word

-- It starts at 1 and is taken plus one, times two or times three by the letters from the last back. Other letters leave it.
unfoldable pub number : Word → ℕ
number [] = 1
number (zero ∷ w) = number w
number (suc zero ∷ w) = number w + 1
number (suc (suc zero) ∷ w) = 2 * number w
number (suc (suc (suc zero)) ∷ w) = 3 * number w
number (suc (suc (suc (suc l))) ∷ w) = number w

-- ---- reading back

-- The parts of a chain that pass a test.
unfoldable pub those : (Part → Bool) → List Part → List Part
those f [] = []
those f (p ∷ c) = cond (f p) (p ∷ those f c) (those f c)

-- A part is a power of two.
abbrev pub is_power : Part → Bool
is_power p = eqb p.b 0

abbrev pub is_other : Part → Bool
is_other p = not (is_power p)

-- The powers of two that sum to m, largest first. With k bounding the number of steps; m steps are enough.
unfoldable pub lowest : ℕ → List Part
lowest zero = []
lowest (suc r) = origin ∷ []

unfoldable pub binary_in : ℕ → ℕ → List Part
binary_in zero m = []
binary_in (suc k) m = map right (binary_in k (m / 2)) ++ lowest (m % 2)

unfoldable pub binary : ℕ → List Part
binary m = binary_in m m

-- p added to the sum of a chain's powers of two. The powers of two divide the other parts, so they come last.
unfoldable pub adding : ℕ → List Part → List Part
adding p c = those is_other c ++ binary (p + total (those is_power c))

-- The chain that a word is read back as: the chain 1 at the end; letter 1 adds one to the sum of the powers of two, 2 and 3
-- multiply every part. Other letters leave the chain.
unfoldable pub read_back : Word → List Part
read_back [] = origin ∷ []
read_back (zero ∷ w) = read_back w
read_back (suc zero ∷ w) = adding 1 (read_back w)
read_back (suc (suc zero) ∷ w) = map right (read_back w)
read_back (suc (suc (suc zero)) ∷ w) = map up (read_back w)
read_back (suc (suc (suc (suc l))) ∷ w) = read_back w
