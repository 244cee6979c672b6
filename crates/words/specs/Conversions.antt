-- What writing a chain's word and reading a word's parts answer, and what each leaves in the places it was lent, at all inputs:
-- document 01, 'Services and memory' and the table of refusals.
use Rattle.std.specs.Prelude.{Result, Ok, Err, true, cond, List, map, ℕ, ◌^◌, ltb, length}
use Rattle.chains.specs.Chains.{total}
use Rattle.chains.specs.Words.{Word, word_of, chain_of, reads}
use Rattle.parts.specs.Parts.{part_number}
use Rattle.lent.specs.Lent.{filled}
use Rattle.refusals.specs.declared.Refusal.{Refusal}
use Rattle.refusals.specs.declared.Refusal.TheVariants.{LittleLent, BadWord, TooLarge}
use Rattle.words.specs.Records.{record_parts, judged_of}
use Rattle.words.specs.declared.Parted.{Parted}

-- ---- writing the word of a record

-- How many letters the record's word has, or the record's refusal.
unfoldable pub letters_of : List ℕ → Result ℕ Refusal → Result ℕ Refusal
letters_of l (Ok n) = Ok (length (word_of (record_parts l)))
letters_of l (Err r) = Err r

-- The answer: 1 where fewer than 64 places are lent, then what the record gets.
unfoldable pub written_of : List ℕ → ℕ → Result ℕ Refusal
written_of l places = cond (ltb places 64) (Err LittleLent) (letters_of l (judged_of l))

-- What the places hold: the letters, zeros up to 64, later places untouched; with a refusal all are untouched.
unfoldable pub letters_left : List ℕ → List ℕ → Result ℕ Refusal → List ℕ
letters_left l entry (Ok k) = filled 64 (word_of (record_parts l)) entry
letters_left l entry (Err r) = entry

-- ---- from a word to its parts

-- The number that a word's chain sums to and how many parts it has.
unfoldable pub chain_summed : Word → Parted
chain_summed w = record { n = total (chain_of w); k = length (chain_of w) }

-- The answer: 1 where fewer than 64 places are lent, 7 for a word that is not good, 10 where its parts sum to 2^64 or more (so too
-- where one part alone is that large); else the sum and how many parts.
unfoldable pub parted_of : Word → ℕ → Result Parted Refusal
parted_of w places =
    cond (ltb places 64) (Err LittleLent)
    (cond (reads true w)
    (cond (ltb (total (chain_of w)) (2 ^ 64)) (Ok (chain_summed w)) (Err TooLarge))
    (Err BadWord))

-- What the places hold: the part numbers, largest part first, zeros up to 64, later places untouched; with a refusal all untouched.
unfoldable pub numbers_left : Word → List ℕ → Result Parted Refusal → List ℕ
numbers_left w entry (Ok p) = filled 64 (map part_number (chain_of w)) entry
numbers_left w entry (Err r) = entry
