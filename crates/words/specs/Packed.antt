-- A word in two numbers, one bit a letter: what packing a record's word and packing letters answer, and the parts that two numbers
-- hold, at all inputs.
-- Definitions only; that the word and its chain can be read from the numbers is in PackedLaws.
use Rattle.std.specs.Prelude.{Result, Ok, Err, ◌≡◌, true, cond, List, [], ◌∷◌, map, ℕ, zero, suc, ◌+◌, ◌*◌, ◌/◌, ◌%◌, ◌^◌, ltb, length}
use Rattle.chains.specs.Chains.{Part, total}
use Rattle.chains.specs.Words.{Word, word_of, chain_of, reads}
use Rattle.lent.specs.Lent.{filled}
use Rattle.parts.specs.Parts.{part_number}
use Rattle.refusals.specs.declared.Refusal.{Refusal}
use Rattle.refusals.specs.declared.Refusal.TheVariants.{BadWord, TooLarge}
use Rattle.words.specs.Records.{record_parts, judged_of}
use Rattle.words.specs.declared.Packed.{Packed}

-- ---- a word in two numbers

-- The bits that f gives for the letters; the first letter's is the lowest.
unfoldable pub bits : (ℕ → ℕ) → Word → ℕ
bits f [] = 0
bits f (l ∷ w) = f l + 2 * bits f w

-- Whether b rises at a letter: 1 for the letters 2 and 3, and so for the last letter too. Whether it marks a part: 1 for 1 and 3.
abbrev pub rise : ℕ → ℕ
rise l = l / 2

abbrev pub mark : ℕ → ℕ
mark l = l % 2

-- Two numbers hold the letters of a word.
pub record PackedAs (w : Word) (rises marks : ℕ) : Type 0 where
  pub rising : rises ≡ bits rise w
  pub marking : marks ≡ bits mark w

-- The word of k letters that two numbers hold.
unfoldable pub unpacked : ℕ → ℕ → ℕ → Word
unpacked zero rises marks = []
unpacked (suc k) rises marks = (2 * (rises % 2) + marks % 2) ∷ unpacked k (rises / 2) (marks / 2)

-- ---- packing

-- The answer for a word: the number n that its parts sum to, its two numbers and how many letters it has.
unfoldable pub packed_word : ℕ → Word → Packed
packed_word n w = record { n = n; rises = bits rise w; marks = bits mark w; letters = length w }

-- Packing a record's word: the sum and the two numbers, or the record's refusal.
unfoldable pub packed_by : List ℕ → Result ℕ Refusal → Result Packed Refusal
packed_by l (Ok n) = Ok (packed_word n (word_of (record_parts l)))
packed_by l (Err r) = Err r

unfoldable pub packed_of : List ℕ → Result Packed Refusal
packed_of l = packed_by l (judged_of l)

-- Packing letters: 7 for a word that is not good, 10 where its parts sum to 2^64 or more, else the sum and the two numbers.
unfoldable pub packed_letters : Word → Result Packed Refusal
packed_letters w =
    cond (reads true w)
    (cond (ltb (total (chain_of w)) (2 ^ 64)) (Ok (packed_word (total (chain_of w)) w)) (Err TooLarge))
    (Err BadWord)

-- ---- from two numbers to parts

-- The parts of the word of 64 letters that two numbers hold, largest first. It is defined for any two numbers, also where no good
-- word has them.
unfoldable pub packed_chain : ℕ → ℕ → List Part
packed_chain rises marks = chain_of (unpacked 64 rises marks)

-- What the places hold when the parts of two numbers have been put there: the part numbers, zeros up to 64, later places
-- untouched; all are untouched where fewer than 64 are lent.
unfoldable pub parts_left : ℕ → ℕ → List ℕ → List ℕ
parts_left rises marks entry = cond (ltb (length entry) 64) entry (filled 64 (map part_number (packed_chain rises marks)) entry)
