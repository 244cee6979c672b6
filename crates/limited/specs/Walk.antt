-- The walk along the table of least keys that finds the cheapest word: what it asks and gives. Definitions only; the laws are in WalkLaws.
--
-- The table is one of keys (Cells). `most` is how many parts the whole word may have.
use Rattle.std.specs.Prelude.{◌≡◌, Bool, true, List, ℕ, suc, ◌+◌, ◌-◌, ◌*◌, ◌/◌, ◌%◌, ◌^◌, ◌≤◌, ◌<◌, length}
use Rattle.std.proofs.Math.Option.{Option, some}
use Rattle.chains.specs.Words.{Word}
use Rattle.chains.proofs.Marks.{point}
use Rattle.chains.specs.Keys.{limited_by, best_on}
use Rattle.words.specs.Packed.{bits, rise, mark}
use Rattle.grid.specs.Grid.{rest_at}
use Rattle.best.specs.KeyTable.{no_key, costs_by, Low, third_key}
use Rattle.limited.specs.Services.{table_size}
use Rattle.limited.specs.Table.{RowsFrom, start}
use Rattle.limited.specs.Cells.{key_in}
use Rattle.limited.specs.declared.walk.Walk.{Walk}

-- The cheapest word for a reader at the point (a, b) and the rest m, with k parts still allowed, if there is one.
abbrev pub cheap_from : List ℕ → ℕ → ℕ → Bool → ℕ → ℕ → ℕ → ℕ → Option Word
cheap_from costs A B f a b k m = best_on (limited_by A B) (costs_by costs) (point a b, k) f m

-- The table of keys stands in the memory.
pub record Keyed (costs : List ℕ) (A B most n : ℕ) (scratch : List ℕ) : Type 0 where
  pub small : n < 2 ^ 64
  pub size : table_size ≤ length scratch
  pub few : most < 65
  pub low : Low costs
  pub table : RowsFrom (key_in costs A B) n (suc most) 0 scratch

-- The letters `word` are left of the letters `whole`; x has the bits of those before them, as f gives them, and `letter` is the bit of the
-- first that is left.
pub record FirstBits (f : ℕ → ℕ) (whole word : Word) (letter x : ℕ) : Type 0 where
  pub joined : x + letter * bits f word ≡ bits f whole
  pub few : x < letter

-- The walk stands at w. The cheapest word from there on is what is left of the cheapest word of n.
pub record Walked (costs : List ℕ) (A B most n : ℕ) (w : Walk) : Type 0 where
  pub here : w.rest ≡ rest_at n w.a w.b
  pub some_left : 1 ≤ w.rest
  pub block : w.at ≡ 130 * (start w.b + w.a)
  pub few : w.left ≤ most
  pub low : key_in costs A B w.b w.a w.rest w.free w.left < no_key
  pub bit : w.letter ≡ 2 ^ (w.a + w.b)
  pub whole : Word
  pub found : cheap_from costs A B true 0 0 most n ≡ some whole
  pub word : Word
  pub follows : cheap_from costs A B w.free w.a w.b w.left w.rest ≡ some word
  pub rising : FirstBits rise whole word w.letter w.rises
  pub marking : FirstBits mark whole word w.letter w.marks

-- What a letter more asks: another is left after it.
pub record StepAsked (costs : List ℕ) (A B most n : ℕ) (w : Walk) : Type 0 where
  pub walked : Walked costs A B most n w
  pub more : 2 ≤ w.rest

-- What it gives.
pub record Stepped (costs : List ℕ) (A B most n : ℕ) (w w' : Walk) : Type 0 where
  pub walked : Walked costs A B most n w'
  pub less : w'.rest < w.rest

-- The key by a rise of b.
abbrev pub third_of : List ℕ → ℕ → ℕ → Walk → ℕ
third_of costs A B w =
    third_key costs w.free (w.rest % 3) (key_in costs A B (suc w.b) w.a (w.rest / 3) true (w.left - w.rest % 3))

-- What the whole walk asks: that something is left, and that there is a word.
pub record WalkStart (costs : List ℕ) (A B most n : ℕ) : Type 0 where
  pub some_left : 1 ≤ n
  pub found : key_in costs A B 0 0 n true most < no_key

-- Two numbers have the bits of the cheapest word of n.
pub record Spelled (costs : List ℕ) (A B most n rises marks : ℕ) : Type 0 where
  pub word : Word
  pub found : cheap_from costs A B true 0 0 most n ≡ some word
  pub rising : rises ≡ bits rise word
  pub marking : marks ≡ bits mark word
