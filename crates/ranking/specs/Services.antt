-- The services that find a chain or its position in the list of n: document 01, 'Services and memory' and the table of refusals.
--
-- Each service has an outcome: a refusal, or a chain of n. What it answers, and what it leaves in the places and in
-- the scratch (`scratch_left` in lent), follow from the outcome alone, by one rule for all services.
-- Definitions only. Demand 2 as theorems on these answers is in RoundTrips.
use Rattle.std.specs.Prelude.{Result, Ok, Err}
use Rattle.std.specs.Prelude.{true, cond, List, map, ℕ, ◌+◌, ◌^◌, ltb, leb, length}
use Rattle.chains.specs.Chains.{Part, total}
use Rattle.chains.specs.Words.{Word, chain_of, reads}
use Rattle.chains.specs.Listing.{count, position, chain_at}
use Rattle.lent.specs.Lent.{filled, scratch_size, little_scratch, too_few}
use Rattle.refusals.specs.declared.Refusal.{Refusal}
use Rattle.refusals.specs.declared.Refusal.TheVariants.{LittleLent, NoSuchPosition, BadWord, TooLarge, LastOfList}
use Rattle.parts.specs.Parts.{part_number}
use Rattle.words.specs.Records.{record_parts, judged_of}
use Rattle.ranking.specs.declared.Placed.{Placed}
use Rattle.ranking.specs.declared.Found.{Found}

-- ---- outcomes

-- A refusal, or a number and a chain of it.
pub data Outcome : Type 0 where
  refused : Refusal → Outcome
  gives : ℕ → List Part → Outcome

-- Refusal 1 first: of a service that asks for `size` numbers and 64 places,
unfoldable pub lent_of : ℕ → List ℕ → List ℕ → Outcome → Outcome
lent_of size memory places o = cond (too_few size 64 memory places) (refused LittleLent) o

-- and of one that asks for a scratch.
abbrev pub lent : List ℕ → List ℕ → Outcome → Outcome
lent scratch places o = lent_of scratch_size scratch places o

-- ---- what a service answers and leaves behind

-- The number, its position in the list and how many parts it has, or the refusal.
unfoldable pub answer_of : Outcome → Result Found Refusal
answer_of (refused r) = Err r
answer_of (gives n c) = Ok (record { n = n; position = position n c; k = length c })

-- The places at exit: the part numbers, largest part first, zeros up to 64, later places untouched; untouched with a refusal.
unfoldable pub places_left : Outcome → List ℕ → List ℕ
places_left (refused r) entry = entry
places_left (gives n c) entry = filled 64 (map part_number c) entry

-- ---- the services

-- The chain at position i of the list of n; refused with r where i is not below the count.
unfoldable pub standing : Refusal → ℕ → ℕ → Outcome
standing r n i = cond (leb (count n) i) (refused r) (gives n (chain_at n i))

-- Chain at a position: 6 past the count.
unfoldable pub at_position : ℕ → ℕ → Outcome
at_position n i = standing NoSuchPosition n i

-- Reading a word: 7 where it is not good, 10 where its parts sum to 2^64 or more.
unfoldable pub of_word : Word → Outcome
of_word w =
    cond (reads true w)
    (cond (ltb (total (chain_of w)) (2 ^ 64)) (gives (total (chain_of w)) (chain_of w)) (refused TooLarge))
    (refused BadWord)

-- The chain after a chain c of n: 11 where c is the last.
unfoldable pub after : ℕ → List Part → Outcome
after n c = standing LastOfList n (position n c + 1)

-- Next: what reading the word refuses, else the chain after the word's.
unfoldable pub next_of : Outcome → Outcome
next_of (refused r) = refused r
next_of (gives n c) = after n c

-- A record by what it gets.
unfoldable pub judged_as : List ℕ → Result ℕ Refusal → Outcome
judged_as l (Ok n) = gives n (record_parts l)
judged_as l (Err r) = refused r

-- Reading a record: 8, 9, 10, else its chain.
unfoldable pub of_record : List ℕ → Outcome
of_record l = judged_as l (judged_of l)

-- What reading a record tells: n and position. It is lent no places.
unfoldable pub placed_of : Outcome → Result Placed Refusal
placed_of (refused r) = Err r
placed_of (gives n c) = Ok (record { n = n; position = position n c })

-- What placing a record's chain tells: the position alone.
unfoldable pub position_of : Outcome → Result ℕ Refusal
position_of (refused r) = Err r
position_of (gives n c) = Ok (position n c)

unfoldable pub lent_scratch : List ℕ → Outcome → Outcome
lent_scratch scratch o = cond (little_scratch scratch) (refused LittleLent) o
