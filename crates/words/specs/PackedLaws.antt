-- Theory of words in two numbers.
-- In order: letters before others; the letters between two parts; how large the numbers are; the word and its chain read back; what
-- the answer of packing says of the record, and of the letters. The definitions are in Packed and Walks; the parts of any two
-- numbers are in UnpackedLaws.
use Rattle.std.specs.Prelude.{Result, Ok, Err}
use Rattle.std.proofs.Math.Path.{◌≡◌, refl, sym, ap}
use Rattle.std.proofs.Common.{◌∙◌, pow-suc, mul-suc, mul-le-mul_left, arith, pow-add, pow_mono}
use Rattle.std.specs.Prelude.{◌⊎◌, Bool, cond, List, [], ◌∷◌, ◌++◌, ℕ, zero, suc, ◌+◌, ◌-◌, ◌*◌, ◌/◌, ◌%◌, ◌^◌, ◌≤◌, ◌<◌, replicate}
use Rattle.std.proofs.Math.Logic.{inl, inr}
use Rattle.std.proofs.Math.Bool.{true, false}
use Rattle.std.proofs.Math.Dec.{T, ltb}
use Rattle.std.proofs.Math.ListN.{length, length-append}
use Rattle.std.proofs.lemmas.List.{length-replicate}
use borrow.Author.Tests.{ltb-true, ltb-false}
use Rattle.chains.specs.Chains.{Part, total}
use Rattle.chains.specs.Words.{Word, path, marked, word_of, chain_from, chain_of, reads}
use Rattle.chains.proofs.RoundTrip.{word_reads}
use Rattle.chains.proofs.Weight.{total_chain_of}
use Rattle.chains.proofs.Bounds.{letters_bound, word_bound}
use Rattle.chains.proofs.Marks.{taken, point, chain_step}
use Rattle.refusals.specs.declared.Refusal.{Refusal}
use Rattle.refusals.specs.declared.Refusal.TheVariants.{BadWord, TooLarge}
use Rattle.words.specs.Records.{record_parts, judged_of, Burned}
use Rattle.words.specs.RecordLaws.{judged_sum}
use Rattle.words.specs.Packed.{bits, rise, mark, PackedAs, unpacked, packed_word, packed_by, packed_of, packed_letters}
use Rattle.words.specs.Packed.{packed_chain}
use Rattle.words.specs.UnpackedLaws.{no_mark}
use Rattle.words.specs.Walks.{steps, rises_from, marks_from}
use Rattle.words.specs.declared.Packed.{Packed}

-- ---- letters before others

pub bits_append : (f : ℕ → ℕ) (v w : Word) → bits f (v ++ w) ≡ bits f v + 2 ^ length v * bits f w
unfolding bits
bits_append f [] w = omega arith
bits_append f (l ∷ v) w = rw (bits_append f v w, pow-suc 2 (length v)) (omega arith)

-- ---- the letters between two parts

bits_none : (f : ℕ → ℕ) (k l : ℕ) → f l ≡ 0 → bits f (replicate k l) ≡ 0
unfolding bits
bits_none f zero l e = refl
bits_none f (suc k) l e = rw (e, bits_none f k l e) refl

bits_all : (f : ℕ → ℕ) (k l : ℕ) → f l ≡ 1 → bits f (replicate k l) + 1 ≡ 2 ^ k
unfolding bits
bits_all f zero l e = refl
bits_all f (suc k) l e = rw (e, pow-suc 2 k) (omega (arith, bits_all f k l e))

module _ (q p : Part) where
  pub length_path : length (path q p) ≡ (p.b - q.b) + (p.a - q.a)
  unfolding path
  length_path = simp (length-append, length-replicate)

  -- b rises first, as often as the exponents say; no letter marks a part.
  pub path_rises : bits rise (path q p) + 1 ≡ 2 ^ (p.b - q.b)
  unfolding path
  path_rises =
      rw (bits_append rise (replicate (p.b - q.b) 2) (replicate (p.a - q.a) 0), bits_none rise (p.a - q.a) 0 refl)
      (omega (arith, bits_all rise (p.b - q.b) 2 refl))

  pub path_marks : bits mark (path q p) ≡ 0
  unfolding path
  path_marks =
      rw (
        bits_append mark (replicate (p.b - q.b) 2) (replicate (p.a - q.a) 0),
        bits_none mark (p.a - q.a) 0 refl,
        bits_none mark (p.b - q.b) 2 refl,
      )
      (omega arith)

-- The first of some letters marked: as many letters, b rises as before, and one part more.
record Marked (w : Word) : Type 0 where
  long : length (marked w) ≡ length w
  rising : bits rise (marked w) ≡ bits rise w
  marking : bits mark (marked w) ≡ 1 + bits mark w

mark_first : (m n : ℕ) → 0 < m + n → Marked (replicate m 2 ++ replicate n 0)
unfolding marked bits
mark_first zero zero h = absurd (omega arith)
mark_first zero (suc n) h = record { long = refl; rising = refl; marking = omega arith }
mark_first (suc m) n h = record { long = refl; rising = refl; marking = omega arith }

-- The letters from q up to p before a word w: q is no part, or a part.
module _ (q p : Part) (w : Word) where
  pub before_path : PackedAs (path q p ++ w) (rises_from q p (bits rise w)) (marks_from q p 0 (bits mark w))
  before_path =
      record {
        rising = sym (rw (bits_append rise (path q p) w, length_path q p) (omega (arith, path_rises q p)));
        marking = sym (rw (bits_append mark (path q p) w, length_path q p, path_marks q p) (omega arith));
      }

  pub length_marked : 0 < steps q p → length (marked (path q p) ++ w) ≡ steps q p + length w
  unfolding path
  length_marked h =
      length-append (marked (path q p)) w
      ∙ ap (λ k. k + length w) ((mark_first (p.b - q.b) (p.a - q.a) h).long ∙ length_path q p)

  pub before_marked : 0 < steps q p → PackedAs (marked (path q p) ++ w) (rises_from q p (bits rise w)) (marks_from q p 1 (bits mark w))
  unfolding path
  before_marked h =
      let m = mark_first (p.b - q.b) (p.a - q.a) h in
      record {
        rising = sym (rw (bits_append rise (marked (path q p)) w, m.long, m.rising, length_path q p) (omega (arith, path_rises q p)));
        marking = sym (rw (bits_append mark (marked (path q p)) w, m.long, m.marking, length_path q p, path_marks q p) (omega arith));
      }

-- ---- how large the numbers are

-- k bits, and j bits above them.
pub joined_below : (first later k j : ℕ) → first < 2 ^ k → later < 2 ^ j → first + 2 ^ k * later < 2 ^ (k + j)
joined_below first later k j h g =
    rw (pow-add 2 k j) (omega (arith, mul-le-mul_left (2 ^ k) g, mul-suc (2 ^ k) later))

-- The numbers of a word that a reader takes have a bit for each letter.
bits_low : (f : Bool) (w : Word) → T (reads f w) → (bits rise w < 2 ^ length w) × (bits mark w < 2 ^ length w)
unfolding bits
bits_low f [] t = (omega arith, omega arith)
bits_low f (l ∷ w) t =
    let (low, g, rest) = taken f l w t in
    let (rises, marks) = bits_low g w rest in
    (omega (arith, pow-suc 2 (length w)), omega (arith, pow-suc 2 (length w)))

-- Those of a word that stands for less than 2^64 fit in 64 bits.
module _ (w : Word) (t : T (reads true w)) (h : total (chain_of w) < 2 ^ 64) where
  pub letters_few : length w ≤ 64
  letters_few = letters_bound 64 w t (omega (arith, total_chain_of w))

  pub letters_low : (bits rise w < 2 ^ 64) × (bits mark w < 2 ^ 64)
  letters_low =
      let (rises, marks) = bits_low true w t in
      let most : 2 ^ length w ≤ 2 ^ 64 = pow_mono letters_few in
      (omega arith, omega arith)

-- ---- the word and its chain read back

-- A letter of 0 to 3 is what its two bits say.
unpacked_first : (l k rises marks : ℕ) → l ≤ 3
    → unpacked (suc k) (l / 2 + 2 * rises) (l % 2 + 2 * marks) ≡ l ∷ unpacked k rises marks
unfolding unpacked
unpacked_first l k rises marks low =
    let here : 2 * ((l / 2 + 2 * rises) % 2) + (l % 2 + 2 * marks) % 2 ≡ l = omega arith in
    let rest_rises : (l / 2 + 2 * rises) / 2 ≡ rises = omega arith in
    let rest_marks : (l % 2 + 2 * marks) / 2 ≡ marks = omega arith in
    rw (here, rest_rises, rest_marks)

pub unpacked_word : (f : Bool) (w : Word) → T (reads f w) → unpacked (length w) (bits rise w) (bits mark w) ≡ w
unfolding unpacked bits
unpacked_word f [] t = refl
unpacked_word f (l ∷ w) t =
    let (low, g, rest) = taken f l w t in
    unpacked_first l (length w) (bits rise w) (bits mark w) low ∙ ap (λ (v : Word). l ∷ v) (unpacked_word g w rest)

-- The chain is read back from as many letters as the word has, or more: above its own there are no marks.
chain_back : (f : Bool) (w : Word) (k a b : ℕ) (met : List Part) → T (reads f w) → length w ≤ k
    → chain_from (point a b) met (unpacked k (bits rise w) (bits mark w)) ≡ chain_from (point a b) met w
unfolding bits chain_from
chain_back f [] k a b met t h = no_mark k 0 a b met
chain_back f (l ∷ w) zero a b met t h = absurd (omega arith)
chain_back f (l ∷ w) (suc k) a b met t h =
    let (low, g, rest) = taken f l w t in
    ap (chain_from (point a b) met) (unpacked_first l k (bits rise w) (bits mark w) low)
    ∙ chain_step a b met l (unpacked k (bits rise w) (bits mark w)) low
    ∙ chain_back g w k (a + (1 - l / 2)) (b + l / 2) (replicate (l % 2) (point a b) ++ met) rest (omega arith)
    ∙ sym (chain_step a b met l w low)

pub packed_chain_lem : (w : Word) → T (reads true w) → length w ≤ 64 → packed_chain (bits rise w) (bits mark w) ≡ chain_of w
unfolding packed_chain chain_of
packed_chain_lem w t h = chain_back true w 64 0 0 [] t h

-- ---- what the answer says of a record

-- Two numbers hold so many letters: the record names a chain of n, and they are its word's.
pub record PackedFrom (l : List ℕ) (n rises marks letters : ℕ) : Type 0 where
  pub burned : Burned l n
  pub rising : rises ≡ bits rise (word_of (record_parts l))
  pub marking : marks ≡ bits mark (word_of (record_parts l))
  pub word : unpacked letters rises marks ≡ word_of (record_parts l)
  pub few : letters ≤ 64

module _ (l : List ℕ) where
  pub packed_word_lem : (p : Packed) → packed_of l ≡ Ok p → PackedFrom l p.n p.rises p.marks p.letters
  unfolding packed_of packed_by packed_word
  packed_word_lem p e = go (judged_of l) refl e
    where
      w : Word
      w = word_of (record_parts l)

      go : (j : Result ℕ Refusal) → judged_of l ≡ j → packed_by l j ≡ Ok p → PackedFrom l p.n p.rises p.marks p.letters
      go (Ok s) g f =
          let is : packed_word s w ≡ p = cc in
          let same : s ≡ p.n = ap (λ (q : Packed). q.n) is in
          let b = (judged_sum l p.n).0 (g ∙ ap Ok same) in
          let r : bits rise w ≡ p.rises = ap (λ (q : Packed). q.rises) is in
          let m : bits mark w ≡ p.marks = ap (λ (q : Packed). q.marks) is in
          let k : length w ≡ p.letters = ap (λ (q : Packed). q.letters) is in
          record {
            burned = b;
            rising = sym r;
            marking = sym m;
            word = rw (← r, ← m, ← k) (unpacked_word true w (word_reads (record_parts l)));
            few = omega (arith, word_bound p.n 64 (record_parts l) b.chain b.fits);
          }
      go (Err r) g f = let z : ◌≡◌ {A = ℕ} 0 1 = cc in absurd (omega arith)

  -- The refusal is the record's own.
  pub packed_refused : (r : Refusal) → packed_of l ≡ Err r → judged_of l ≡ Err r
  unfolding packed_of packed_by packed_word
  packed_refused r e = go (judged_of l) e
    where
      go : (j : Result ℕ Refusal) → packed_by l j ≡ Err r → j ≡ Err r
      go (Ok n) f = let z : ◌≡◌ {A = ℕ} 0 1 = cc in absurd (omega arith)
      go (Err x) f = cc

-- ---- what the answer says of letters

-- Two numbers hold so many letters: they are those of the word w, which is good and stands for n, less than 2^64.
pub record LettersPacked (w : Word) (n rises marks letters : ℕ) : Type 0 where
  pub good : T (reads true w)
  pub number : n ≡ total (chain_of w)
  pub fits : n < 2 ^ 64
  pub rising : rises ≡ bits rise w
  pub marking : marks ≡ bits mark w
  pub long : letters ≡ length w
  pub few : length w ≤ 64

module _ (w : Word) where
  -- The answer by the two tests.
  abbrev asked : Bool → Bool → Result Packed Refusal
  asked g t = cond g (cond t (Ok (packed_word (total (chain_of w)) w)) (Err TooLarge)) (Err BadWord)

  pub packed_letters_lem : (p : Packed) → packed_letters w ≡ Ok p → LettersPacked w p.n p.rises p.marks p.letters
  unfolding packed_letters packed_word
  packed_letters_lem p e = go (reads true w) (ltb (total (chain_of w)) (2 ^ 64)) refl refl e
    where
      go : (g t : Bool) → reads true w ≡ g → ltb (total (chain_of w)) (2 ^ 64) ≡ t → asked g t ≡ Ok p
          → LettersPacked w p.n p.rises p.marks p.letters
      go true true read low f =
          let good : T (reads true w) = rw read tt in
          let below : total (chain_of w) < 2 ^ 64 = ltb-true (total (chain_of w)) (2 ^ 64) low in
          let is : p ≡ packed_word (total (chain_of w)) w = cc in
          let same : p.n ≡ total (chain_of w) = ap (λ (q : Packed). q.n) is in
          record {
            good = good;
            number = same;
            fits = omega arith;
            rising = ap (λ (q : Packed). q.rises) is;
            marking = ap (λ (q : Packed). q.marks) is;
            long = ap (λ (q : Packed). q.letters) is;
            few = letters_few w good below;
          }
      go true false read low f = let z : ◌≡◌ {A = ℕ} 0 1 = cc in absurd (omega arith)
      go false t read low f = let z : ◌≡◌ {A = ℕ} 0 1 = cc in absurd (omega arith)

  -- A refusal is 7 for a word that is not good, or 10 for one that stands for 2^64 or more.
  pub letters_refused : (r : Refusal) → packed_letters w ≡ Err r
      → ((r ≡ BadWord) × (reads true w ≡ false)) ⊎ ((r ≡ TooLarge) × (reads true w ≡ true) × (2 ^ 64 ≤ total (chain_of w)))
  unfolding packed_letters packed_word
  letters_refused r e = go (reads true w) (ltb (total (chain_of w)) (2 ^ 64)) refl refl e
    where
      go : (g t : Bool) → reads true w ≡ g → ltb (total (chain_of w)) (2 ^ 64) ≡ t → asked g t ≡ Err r
          → ((r ≡ BadWord) × (reads true w ≡ false)) ⊎ ((r ≡ TooLarge) × (reads true w ≡ true) × (2 ^ 64 ≤ total (chain_of w)))
      go true true read low f = let z : ◌≡◌ {A = ℕ} 0 1 = cc in absurd (omega arith)
      go true false read low f =
          let large : r ≡ TooLarge = cc in
          inr (large, read, ltb-false (total (chain_of w)) (2 ^ 64) low)
      go false t read low f = let bad : r ≡ BadWord = cc in inl (bad, read)
