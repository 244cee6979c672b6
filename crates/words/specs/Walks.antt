-- What the writer of a word's letters keeps on its way, and the packer of its bits too; and the points of a word in two numbers.
-- Only private functions cite these definitions; what the services answer and leave behind is in Conversions and Packed.
use Rattle.std.specs.Prelude.{Ok}
use Rattle.std.specs.Prelude.{◌≡◌, ◌≢◌, false, List, ◌∷◌, ◌++◌, ℕ, ◌+◌, ◌-◌, ◌*◌, ◌%◌, ◌^◌, ◌≤◌, ◌<◌, length, get_or, take, drop}
use Rattle.std.specs.Int.Count.{ones}
use Rattle.chains.specs.Chains.{Part, Chained, total}
use Rattle.parts.specs.Parts.{part_at}
use Rattle.parts.specs.Codes.{codes, powers}
use Rattle.parts.specs.declared.Exponents.{Exponents}
use Rattle.words.specs.Records.{record_parts, beyond, Burned, judged_of}

-- ---- from a record to its word

-- A part by its exponents.
abbrev pub point : Exponents → Part
point e = record { a = e.a; b = e.b }

-- The places l with xs in those from i up to but without j.
unfoldable pub between : ℕ → ℕ → List ℕ → List ℕ → List ℕ
between i j xs l = take i l ++ (xs ++ drop j l)

-- The letters of a and of b up to a part stand before its own: the letter of a point has the place a + b.
abbrev pub place : Part → ℕ
place p = p.a + p.b

-- The letters from q up to p have their places among n.
pub record OnTheWay (q p : Part) (n : ℕ) : Type 0 where
  pub across : q.a ≤ p.a
  pub upward : q.b ≤ p.b
  pub room : place p ≤ n

-- The way back from the part p through the numbers of a record l from i on: the table is that of the codes, the numbers are in the
-- part table, p and their parts are a chain, and the letters before p have their places among n.
pub record WayBack (table l : List ℕ) (i : ℕ) (p : Part) (n : ℕ) : Type 0 where
  pub is_codes : table ≡ codes
  pub known : beyond l ≡ false
  pub chained : Chained (p ∷ record_parts (drop i l))
  pub room : place p ≤ n

-- A record whose word can be written into n places: the table is that of the codes, the record names a chain of a number below
-- 2^64, and there are 64 places or more.
pub record Writable (table l : List ℕ) (n : ℕ) : Type 0 where
  pub is_codes : table ≡ codes
  pub burned : Burned l (total (record_parts l))
  pub room : 64 ≤ n

-- ---- from a record to its word in two numbers

-- How many letters stand from q up to p.
abbrev pub steps : Part → Part → ℕ
steps q p = (p.b - q.b) + (p.a - q.a)

-- The bits of those letters, and above them those of the later letters. b rises first. `part` is 1 where q is a part.
abbrev pub rises_from : Part → Part → ℕ → ℕ
rises_from q p later = 2 ^ (p.b - q.b) - 1 + 2 ^ steps q p * later

abbrev pub marks_from : Part → Part → ℕ → ℕ → ℕ
marks_from q p part later = part + 2 ^ steps q p * later

-- Both numbers fit in 64 bits.
pub record Joins (q p : Part) (part rises marks : ℕ) : Type 0 where
  pub across : q.a ≤ p.a
  pub upward : q.b ≤ p.b
  pub few : steps q p < 64
  pub rises_fit : rises_from q p rises < 2 ^ 64
  pub marks_fit : marks_from q p part marks < 2 ^ 64

-- A record that gets no sum.
abbrev pub NoSum : List ℕ → Type 0
NoSum l = (n : ℕ) → judged_of l ≢ Ok n

-- Where packing a record l starts: the tables are those of the codes and of the powers of 3, and p is the record's largest part.
pub record Begun (table threes l : List ℕ) (p : Part) : Type 0 where
  pub is_codes : table ≡ codes
  pub is_powers : threes ≡ powers
  pub some : 0 < length l
  pub known : get_or l 0 0 < 1344
  pub largest : p ≡ part_at (get_or l 0 0)

-- ---- from two numbers to parts

-- The point of the letter at place i: b has risen once for each one among the lowest i bits of `rises`, and a for each zero.
unfoldable pub point_at : ℕ → ℕ → Part
point_at rises i = record { a = i - ones (rises % 2 ^ i); b = ones (rises % 2 ^ i) }
