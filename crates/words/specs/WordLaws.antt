-- Records, chains and words lead to each other, for 003's chains and for the services' own answers.
-- In order: a record written as a word, and a good word taken apart; a chain of n below 2^64, its record and its word. The answers
-- are defined in Records and Conversions.
use Rattle.std.specs.Prelude.{Ok}
use Rattle.std.specs.Prelude.{◌≡◌, false, List, [], ◌∷◌, map, ℕ, ◌^◌, ◌≤◌, ◌<◌, T, length}
use Rattle.std.proofs.Math.Path.{refl, ap}
use Rattle.std.proofs.Common.{ap₂}
use Rattle.std.proofs.Math.Bool.{true}
use native.Mathlib.Omega.{arith}
use Rattle.std.specs.Float.Ieee.Bits.{is_true}
use Rattle.std.proofs.lemmas.List.{length-map}
use borrow.Author.Tests.{lt-ltb, le-ltb, lt-leb}
use Rattle.chains.specs.Chains.{Part, value, total, ChainOf}
use Rattle.chains.specs.Words.{Word, word_of, chain_of, reads}
use Rattle.chains.proofs.RoundTrip.{chain_word_chain, word_reads}
use Rattle.chains.proofs.Bounds.{parts_bound}
use Rattle.parts.specs.Parts.{limit, part_number}
use Rattle.parts.proofs.Numbers.{parts_complete, part_of_number, number_of_part}
use Rattle.lent.specs.Lent.{filled}
use Rattle.words.specs.Records.{record_parts, beyond, judged_of}
use Rattle.words.specs.RecordLaws.{in_table, known_cons, judged_sum}
use Rattle.words.specs.Conversions.{letters_of, written_of, letters_left, chain_summed, parted_of, numbers_left}

-- ---- parts and numbers, for a whole chain and a whole record

module _ (p : Part) (c : List Part) (h : total (p ∷ c) < limit) where
  both_below : (value p < limit) × (total c < limit)
  unfolding total
  both_below = (omega arith, omega arith)

-- Parts whose sum is below 2^64 have numbers in the table, and are the parts of their numbers.
numbers_known : (c : List Part) → total c < limit → beyond (map part_number c) ≡ false
unfolding beyond
numbers_known [] h = refl
numbers_known (p ∷ c) h =
    let (first, rest) = both_below p c h in
    rw (lt-leb 1344 (part_number p) (parts_complete p first).0, numbers_known c rest)

pub parts_of_numbers : (c : List Part) → total c < limit → record_parts (map part_number c) ≡ c
unfolding record_parts
parts_of_numbers [] h = refl
parts_of_numbers (p ∷ c) h =
    let (first, rest) = both_below p c h in
    ap₂ (λ q d. q ∷ d) (part_of_number p first) (parts_of_numbers c rest)

-- The numbers of a record are those of its parts.
pub numbers_of_parts : (l : List ℕ) → beyond l ≡ false → map part_number (record_parts l) ≡ l
unfolding record_parts
numbers_of_parts [] e = refl
numbers_of_parts (i ∷ l) e =
    let (first, rest) = known_cons i l e in
    ap₂ (λ x y. x ∷ y) (number_of_part i first) (numbers_of_parts l rest)

-- ---- the answers where nothing is refused

module _ (entry : List ℕ) (room : 64 ≤ length entry) where
  -- A record that gets its sum is written as the word of its parts.
  record_written : (l : List ℕ) (n : ℕ) → judged_of l ≡ Ok n
      → (written_of l (length entry) ≡ Ok (length (word_of (record_parts l))))
      × (letters_left l entry (written_of l (length entry)) ≡ filled 64 (word_of (record_parts l)) entry)
  unfolding written_of letters_of letters_left
  record_written l n e =
      let told : written_of l (length entry) ≡ Ok (length (word_of (record_parts l))) =
      rw (written_of, le-ltb (length entry) 64 room, e) refl in
      (told, ap (λ x. letters_left l entry x) told)

  -- A good word below 2^64 is taken apart into the numbers of its chain.
  pub word_parted : (w : Word) → T (reads true w) → total (chain_of w) < 2 ^ 64
      → (parted_of w (length entry) ≡ Ok (chain_summed w))
      × (numbers_left w entry (parted_of w (length entry)) ≡ filled 64 (map part_number (chain_of w)) entry)
  unfolding parted_of numbers_left
  word_parted w g h =
      let told : parted_of w (length entry) ≡ Ok (chain_summed w) =
      rw (parted_of, le-ltb (length entry) 64 room, is_true (reads true w) g, lt-ltb (total (chain_of w)) (2 ^ 64) h) refl in
      (told, ap (λ x. numbers_left w entry x) told)

-- ---- a chain of n, a number below 2^64

module _ (n : ℕ) (c : List Part) (chain : ChainOf n c) (fits : n < 2 ^ 64) where
  summed : total c < limit
  summed = omega (arith, chain.sums)

  -- Its record gets its sum.
  pub chain_judged : judged_of (map part_number c) ≡ Ok n
  chain_judged =
      (judged_sum (map part_number c) n).1
      (record {
        few = omega (arith, length-map c part_number, parts_bound n 64 c chain fits);
        known = (in_table (map part_number c)).0 (numbers_known c summed);
        chain = rw (parts_of_numbers c summed) chain;
        fits = fits;
      })

  module _ (entry : List ℕ) (room : 64 ≤ length entry) where
    -- Its record is written as its word.
    pub chain_written :
        (written_of (map part_number c) (length entry) ≡ Ok (length (word_of c)))
        × (letters_left (map part_number c) entry (written_of (map part_number c) (length entry)) ≡ filled 64 (word_of c) entry)
    chain_written = rw (parts_of_numbers c summed) at (record_written entry room (map part_number c) n chain_judged)

    -- Its word is taken apart into its record.
    pub chain_parted :
        (parted_of (word_of c) (length entry) ≡ Ok (record { n = n; k = length c }))
        × (numbers_left (word_of c) entry (parted_of (word_of c) (length entry)) ≡ filled 64 (map part_number c) entry)
    unfolding chain_summed
    chain_parted =
        let back : chain_of (word_of c) ≡ c = chain_word_chain c chain.chained in
        rw (back, chain.sums) at (word_parted entry room (word_of c) (word_reads c) (rw back summed))
