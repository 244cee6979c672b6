-- What a service asks to be lent and what it leaves there: document 01, 'Services and memory'. The scratch, the places and the
-- reply follow one rule: what the service gives, then zeros up to the size that it asks for, and everything later as it was.
--
-- In this order: the rule; the size of the scratch; whether too little is lent; the memory at exit. The last two are defined for any size;
-- most services ask for a scratch, those of document 02, T-10, for more.
-- Definitions only. The laws are in LentLaws.
use Rattle.std.specs.Prelude.{◌≡◌, Bool, cond, ◌||◌, List, [], ◌++◌, ℕ, ◌-◌, ◌≤◌, ltb, length, drop, replicate}

-- ---- the rule

-- Never computed at a long length: opened only in laws over a variable.
unfoldable pub zeros : ℕ → List ℕ
zeros k = replicate k 0

-- At exit, where `entry` stood at entry: xs, then zeros up to `size`, later ones untouched. A scratch is left with no xs.
unfoldable pub filled : ℕ → List ℕ → List ℕ → List ℕ
filled size xs entry = xs ++ (zeros (size - length xs) ++ drop size entry)

-- Only the first `size` may have changed.
pub record OnlyFirst (size : ℕ) (entry exit : List ℕ) : Type 0 where
  pub same : length exit ≡ length entry
  pub later : drop size exit ≡ drop size entry

-- ---- what must be lent

-- How many numbers a scratch must have: eight blocks of 64 (document 02, T-03). The code says it once too, as `SCRATCH`.
abbrev pub scratch_size : ℕ
scratch_size = 512

-- The memory has fewer than `size` numbers.
unfoldable pub fewer : ℕ → List ℕ → Bool
fewer size memory = ltb (length memory) size

-- The scratch is too small.
abbrev pub little_scratch : List ℕ → Bool
little_scratch scratch = fewer scratch_size scratch

-- Too little is lent to a service that asks for `size` numbers and gives up to `room` part numbers, letters or digits: the memory is too
-- small, or there are fewer places than that.
unfoldable pub too_few : ℕ → ℕ → List ℕ → List ℕ → Bool
too_few size room memory places = fewer size memory || ltb (length places) room

-- The same of a service that asks for a scratch.
abbrev pub too_little : ℕ → List ℕ → List ℕ → Bool
too_little room scratch places = too_few scratch_size room scratch places

-- Enough is lent: `size` numbers and `most` places;
pub record Lends (size most : ℕ) (memory places : List ℕ) : Type 0 where
  pub numbers : size ≤ length memory
  pub room : most ≤ length places

-- the same where a scratch is asked for.
abbrev pub Enough : ℕ → List ℕ → List ℕ → Type 0
Enough room scratch places = Lends scratch_size room scratch places

-- ---- the memory at exit

-- Untouched where too little is lent, else its first numbers are zero and the rest is untouched;
unfoldable pub memory_left : ℕ → Bool → List ℕ → List ℕ
memory_left size little entry = cond little entry (filled size [] entry)

-- the same of a scratch.
abbrev pub scratch_left : Bool → List ℕ → List ℕ
scratch_left little entry = memory_left scratch_size little entry
