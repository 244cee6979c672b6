-- The two numbers hold the letters from the part p on, and the parts below p give the rest of the word; the numbers passed are in the
-- table, their parts are a chain if those that are left are one below p, and the sum so far and that of the parts that are left make
-- the whole: this is the invariant. One turn follows the definition's own line.
use mathlib.Core.Path.{◌≡◌}
use mathlib.Core.Logic.{◌↔◌}
use mathlib.Core.List.{List, ◌∷◌}
use Prim.Native.Nat.{ℕ, ◌+◌, ◌^◌, ◌≤◌, ◌<◌}
use lib.ListN.{length, drop}
use Rattle.chains.specs.Chains.{Part, Chained, total}
use Rattle.chains.specs.Words.{Word, walk, word_of}
use Rattle.parts.specs.Parts.{limit, part_at}
use Rattle.words.specs.Records.{record_parts, beyond}
use Rattle.words.specs.Walks.{point, place}
use Rattle.words.specs.Packed.{PackedAs}
use Rattle.words.proofs.packing.pack_back.Given as goal

-- After the numbers before i, with p the last part met, its number `last`, and n the sum so far; p₀ is the largest part.
pub record Packing (l : List ℕ) (p₀ : Part) (i last : ℕ) (p : Part) (n rises marks : ℕ) : Type 0 where
  pub w : Word
  pub word : word_of (record_parts l) ≡ walk p (record_parts (drop i l)) w
  pub held : PackedAs w rises marks
  pub low_rises : rises < 2 ^ length w
  pub low_marks : marks < 2 ^ length w
  pub some : 0 < length w
  pub few : i ≤ length w
  pub long : length w + place p ≡ place p₀ + 1
  pub room : place p₀ < 64
  pub inside : last < 1344
  pub part : p ≡ part_at last
  pub known : beyond l ≡ beyond (drop i l)
  pub chained : Chained (record_parts l) ↔ Chained (p ∷ record_parts (drop i l))
  pub low : n < limit
  pub sum : n + total (record_parts (drop i l)) ≡ total (record_parts l)

abbrev pub invariant-loop-i : goal.invariant-loop-i
invariant-loop-i l = Packing l.numbers (point l.largest) l.i l.last (point l.p) l.n l.found.rises l.found.marks
