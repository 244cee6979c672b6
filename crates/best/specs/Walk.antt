-- The walk along the turns of the rows of keys that finds the best word: what it asks and gives.
--
-- In this order: the turns, and the best word; what holds of the walk at a point, what a letter more asks and gives, and what the
-- whole walk asks; the bits of the letters; a row of the walk: where it turns, and what it asks and gives. Definitions only; the
-- laws are in WalkLaws.
use Rattle.std.specs.Prelude.{◌≡◌, ℕ, ◌+◌, ◌*◌, ◌/◌, ◌%◌, ◌^◌, ◌<◌, ◌≤◌, Bool, true, false, cond, List, [], ◌∷◌, length, drop, ◌==◌, slice_index}
use Rattle.std.proofs.Math.Option.{Option, none, some}
use Rattle.lent.specs.Lent.{scratch_size}
use Rattle.chains.specs.Words.{Word}
use Rattle.chains.specs.Keys.{best_at}
use Rattle.grid.specs.Grid.{rest_at, rests_place}
use Rattle.words.specs.Packed.{bits, rise, mark}
use Rattle.best.specs.KeyTable.{no_key, costs_by, key_cell, Turns}

-- ---- the turns and the best word

-- The rests and the turns of n's rows stand in the scratch.
pub record Turned (costs : List ℕ) (A B n : ℕ) (scratch : List ℕ) : Type 0 where
  pub size : scratch_size ≤ length scratch
  pub rests : (b : ℕ) → b < 42 → slice_index scratch (rests_place + b) ≡ n / 3 ^ b
  pub turns : (b : ℕ) → b < 41 → Turns costs A B b (n / 3 ^ b) (slice_index scratch (128 + b))

-- Whether b rises, for a reader at the remainder `rem` by three: by the last of the bits, which is the turn of the free reader.
unfoldable pub rises_by : Bool → ℕ → ℕ → Bool
rises_by free rem turns = cond (turns % 2 == 0) false (cond (rem == 1) true free)

-- The best word for a reader at the point (a, b) and the rest m, if there is one.
abbrev pub best_from : List ℕ → ℕ → ℕ → Bool → ℕ → ℕ → ℕ → Option Word
best_from costs A B f a b m = best_at (costs_by costs) A B f (record { a = a; b = b }) m

-- The word, and the empty one where there is none.
unfoldable pub word_in : Option Word → Word
word_in none = []
word_in (some w) = w

-- The best word of n, where there is one.
unfoldable pub best_word : List ℕ → ℕ → ℕ → ℕ → Word
best_word costs A B n = word_in (best_from costs A B true 0 0 n)

-- ---- the walk

-- The walk stands at (a, b), where `rest` is left of n. The best word from there on is what is left of the best word of n.
pub record KeyWalked (costs : List ℕ) (A B n a b : ℕ) (free : Bool) (rest : ℕ) : Type 0 where
  pub here : rest ≡ rest_at n a b
  pub some_left : 1 ≤ rest
  pub low : key_cell costs A B a b free rest < no_key
  pub follows : best_from costs A B free a b rest ≡ some (drop (a + b) (best_word costs A B n))

-- It has passed one letter more, which is `letter`.
pub record KeyRisen (costs : List ℕ) (A B n a b letter a' b' : ℕ) (free : Bool) (rest : ℕ) : Type 0 where
  pub walked : KeyWalked costs A B n a' b' free rest
  pub passed : a' + b' ≡ a + b + 1
  pub small : letter ≤ 3
  pub next : drop (a + b) (best_word costs A B n) ≡ letter ∷ drop (a + b + 1) (best_word costs A B n)

-- What a letter more asks: another is left after it.
pub record KeyStep (costs : List ℕ) (A B n : ℕ) (scratch : List ℕ) (a b : ℕ) (free : Bool) (rest : ℕ) : Type 0 where
  pub turned : Turned costs A B n scratch
  pub walked : KeyWalked costs A B n a b free rest
  pub more : 2 ≤ rest
  pub low_a : a < 64
  pub low_b : b < 41

-- What the whole walk asks: the rests and the turns, that something is left, and that there is a word.
pub record KeyStart (costs : List ℕ) (A B n : ℕ) (scratch : List ℕ) : Type 0 where
  pub turned : Turned costs A B n scratch
  pub some_left : 1 ≤ n
  pub found : key_cell costs A B 0 0 true n < no_key

-- ---- the bits of the letters

-- The first k bits of a word, as f gives them, are in x.
pub record FirstBits (f : ℕ → ℕ) (w : Word) (k x : ℕ) : Type 0 where
  pub joined : x + 2 ^ k * bits f (drop k w) ≡ bits f w
  pub few : x < 2 ^ k

-- The bits of the letters up to (a, b) are told.
pub record KeyTelling (costs : List ℕ) (A B n a b : ℕ) (free : Bool) (rest rises marks : ℕ) : Type 0 where
  pub walked : KeyWalked costs A B n a b free rest
  pub low : a + b < 64
  pub rising : FirstBits rise (best_word costs A B n) (a + b) rises
  pub marking : FirstBits mark (best_word costs A B n) (a + b) marks

-- ---- a row of the walk

-- The lowest one bit of z from bit a on is bit t, which is j bits later.
pub record LowFrom (z a t : ℕ) : Type 0 where
  pub j : ℕ
  pub is : t ≡ a + j
  pub short : t < 64
  pub none : (i : ℕ) → i < j → z / 2 ^ (a + i) % 2 ≡ 0
  pub one : z / 2 ^ (a + j) % 2 ≡ 1

-- What is asked where the next turn of a row is looked for: m is the rest of its first column, q that of the row above. The walk
-- stands in the column 2^a, in which something is left.
pub record ColumnAsked (m q column : ℕ) : Type 0 where
  pub third : q ≡ m / 3
  pub a : ℕ
  pub is : column ≡ 2 ^ a
  pub left : column ≤ m

-- The row turns in the column that is told as 2^(a + j): from column a on b does not rise in j columns, and then it does, or the
-- rest is 1. In column a the reader is the free one, and in those behind it the reader after a has risen.
pub record TurnFrom (m turns a column : ℕ) : Type 0 where
  pub j : ℕ
  pub is : column ≡ 2 ^ (a + j)
  pub passed : (i : ℕ) → i < j
      → (2 ≤ m / 2 ^ (a + i)) × (rises_by (i == 0) (m / 2 ^ (a + i) % 3) (turns / 2 ^ (a + i)) ≡ false)
  pub turned : 2 ≤ m / 2 ^ (a + j) → rises_by (j == 0) (m / 2 ^ (a + j) % 3) (turns / 2 ^ (a + j)) ≡ true

-- The same from the column on that is told as 2^a.
abbrev pub ColumnFound : ℕ → ℕ → ℕ → ℕ → Type 0
ColumnFound m turns column found = (a : ℕ) → column ≡ 2 ^ a → TurnFrom m turns a found

-- The walk stands in row b, in the column that is told as 2^a, and the bits of the letters up to there are told. Where it goes on,
-- the reader is the free one.
pub record WalkedTo (costs : List ℕ) (A B n column b rises marks : ℕ) : Type 0 where
  pub a : ℕ
  pub free : Bool
  pub is : column ≡ 2 ^ a
  pub telling : KeyTelling costs A B n a b free (rest_at n a b) rises marks
  pub fresh : 2 ≤ rest_at n a b → free ≡ true

-- What a row of the walk asks: the rest is 2 or more.
pub record RowWalk (costs : List ℕ) (A B n : ℕ) (scratch : List ℕ) (column b rises marks : ℕ) : Type 0 where
  pub turned : Turned costs A B n scratch
  pub walked : WalkedTo costs A B n column b rises marks
  pub more : column ≤ n / 3 ^ b / 2
