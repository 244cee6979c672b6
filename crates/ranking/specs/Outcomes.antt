-- The outcomes of the services, for chains and words of document 01 and 003.
-- For each service in turn: what it gives for a chain of n; that it gives nothing but a chain of n, with its position. Which
-- refusal a word or a record gets is in Refusals, round trips between the services are in RoundTrips.
use Rattle.std.specs.Prelude.{Some}
use Rattle.std.specs.Prelude.{None, Result, Ok, Err}
use Rattle.std.specs.Prelude.{◌≡◌, refl, ◌↔◌, Bool, true, false, cond, ℕ, ◌+◌, ◌^◌, ◌≤◌, ◌<◌, T, ltb, leb}
use Rattle.std.proofs.Common.{sym, ap, ◌∙◌, arith, ltb→lt, leb→le, le→leb, lt-ltb, le-leb}
use Rattle.std.proofs.Math.Logic.Iff
use mathlib.Core.List.{List, map, Memᴰ}
use Rattle.std.proofs.Math.Decide.{dec_lt}
use Rattle.std.specs.Float.Ieee.Bits.{is_true}
use Rattle.std.proofs.lemmas.Bool.{lt-leb}
use Rattle.chains.specs.Chains.{Part, total, ChainOf}
use Rattle.chains.specs.Words.{Word, word_of, chain_of, reads}
use Rattle.chains.specs.Listing.{list_of, count, count_before, position, chain_at}
use Rattle.chains.proofs.Members.{list_holds}
use Rattle.chains.proofs.Readers.{readers_good}
use Rattle.chains.proofs.RoundTrip.{chain_word_chain, word_chained, word_chain_word, word_reads}
use Rattle.chains.proofs.PositionsOfChains.{chain_at_chain, position_at, at_position_lem}
use Rattle.refusals.specs.declared.Refusal.{Refusal}
use Rattle.refusals.specs.declared.Refusal.TheVariants.{NoSuchPosition, BadWord, TooLarge, LastOfList}
use Rattle.parts.specs.Parts.{part_number}
use Rattle.words.specs.TestLaws.{in_first}
use Rattle.words.specs.Records.{record_parts, judged_of}
use Rattle.words.specs.RecordLaws.{in_table, judged_sum}
use Rattle.words.specs.WordLaws.{parts_of_numbers, numbers_of_parts, chain_judged}
use Rattle.words.specs.Answers.{sized, weighed_of}
use Rattle.ranking.specs.Services.{Outcome, refused, gives, standing, at_position, of_word, after, next_of, judged_as}
use Rattle.ranking.specs.Services.{of_record}

-- ---- refusals

-- Refusals of different numbers differ, and a chain is no refusal.
pub same_refusal : (r s : Refusal) → refused r ≡ refused s → r ≡ s
same_refusal r s e = cc

pub no_refusal : (n : ℕ) (c : List Part) (r : Refusal) → ¬ (gives n c ≡ refused r)
no_refusal n c r e = let z : ◌≡◌ {A = ℕ} 0 1 = cc in omega arith

-- ---- at a position

pub standing_below : (r : Refusal) (n i : ℕ) → i < count n → standing r n i ≡ gives n (chain_at n i)
unfolding standing
standing_below r n i h = rw (lt-leb (count n) i h)

pub standing_past : (r : Refusal) (n i : ℕ) → count n ≤ i → standing r n i ≡ refused r
unfolding standing
standing_past r n i h = rw (le-leb (count n) i h)

-- The refusal is r, and exactly past the count.
pub standing_refused : (r : Refusal) (n i : ℕ) (s : Refusal) → (standing r n i ≡ refused s) ↔ ((s ≡ r) × (count n ≤ i))
unfolding standing
standing_refused r n i s =
    let c = chain_at n i in
    Iff.trans (in_first (leb (count n) i) (refused r) (gives n c) (refused s) (no_refusal n c s)) (there, back)
  where
    there : T (leb (count n) i) × (refused r ≡ refused s) → (s ≡ r) × (count n ≤ i)
    there (past, e) = (sym (same_refusal r s e), leb→le (count n) i past)

    back : (s ≡ r) × (count n ≤ i) → T (leb (count n) i) × (refused r ≡ refused s)
    back (e, past) = (le→leb (count n) i past, ap refused (sym e))

pub at_below : (n i : ℕ) → i < count n → at_position n i ≡ gives n (chain_at n i)
unfolding at_position
at_below n i h = standing_below NoSuchPosition n i h

-- Past the count the refusal is 6.
pub at_past : (n i : ℕ) → count n ≤ i → at_position n i ≡ refused NoSuchPosition
unfolding at_position
at_past n i h = standing_past NoSuchPosition n i h

-- And exactly there.
pub at_refused : (n i : ℕ) → (at_position n i ≡ refused NoSuchPosition) ↔ (count n ≤ i)
unfolding at_position
at_refused n i = Iff.trans (standing_refused NoSuchPosition n i NoSuchPosition) (λ g. g.1, λ l. (refl, l))

-- A chain of n is given at its position.
pub at_chain : (n : ℕ) (c : List Part) → ChainOf n c → at_position n (position n c) ≡ gives n c
at_chain n c h =
    let p = at_position_lem n c h in
    at_below n (position n c) p.0 ∙ ap (gives n) p.1

-- What is given at a position is a chain of n that stands there.
pub at_gives : (n i m : ℕ) (c : List Part) → at_position n i ≡ gives m c → (m ≡ n) × ChainOf n c × (position n c ≡ i)
at_gives n i m c e = go (dec_lt i (count n))
  where
    go : Dec (i < count n) → (m ≡ n) × ChainOf n c × (position n c ≡ i)
    go (yes h) =
        let g = at_below n i h in
        let same : chain_at n i ≡ c = cc in
        (cc, rw same at (chain_at_chain n i h), rw same at (position_at n i h))
    go (no h) =
        let g = at_past n i (omega arith) in
        let z : ◌≡◌ {A = ℕ} 0 1 = cc in
        absurd (omega arith)

-- ---- of a word

-- Reading the word of a chain of n gives the chain.
pub of_chain : (n : ℕ) (c : List Part) → ChainOf n c → n < 2 ^ 64 → of_word (word_of c) ≡ gives n c
unfolding of_word
of_chain n c h f =
    rw (is_true (reads true (word_of c)) (word_reads c), chain_word_chain c h.chained, h.sums, lt-ltb n (2 ^ 64) f)

-- A word stands for a chain.
pub word_chain : (w : Word) → ChainOf (total (chain_of w)) (chain_of w)
word_chain w = record { chained = word_chained w; sums = refl }

-- What reading a word gives is the chain of that word.
pub of_gives : (w : Word) (n : ℕ) (c : List Part) → of_word w ≡ gives n c → ChainOf n c × (word_of c ≡ w) × (n < 2 ^ 64)
unfolding of_word
of_gives w n c e =
    let t = total (chain_of w) in
    let (good, f) =
    (in_first (reads true w) (cond (ltb t (2 ^ 64)) (gives t (chain_of w)) (refused TooLarge)) (refused BadWord) (gives n c)
    (λ g. no_refusal n c BadWord (sym g))).0 e in
    let (fits, g) =
    (in_first (ltb t (2 ^ 64)) (gives t (chain_of w)) (refused TooLarge) (gives n c) (λ g. no_refusal n c TooLarge (sym g))).0 f in
    let same : chain_of w ≡ c = cc g in
    let number : total (chain_of w) ≡ n = cc g in (
      rw (number, same) at (word_chain w),
      rw same at (word_chain_word w good),
      omega (arith, ltb→lt (total (chain_of w)) (2 ^ 64) fits),
    )

-- A good word by what it weighs.
pub of_weighed : (w : Word) (n : ℕ) → T (reads true w) → weighed_of w ≡ Some n
    → (of_word w ≡ gives n (chain_of w)) × Memᴰ w (list_of n)
unfolding weighed_of sized of_word
of_weighed w n h e = go (ltb (total (chain_of w)) (2 ^ 64)) refl
  where
    go : (f : Bool) → ltb (total (chain_of w)) (2 ^ 64) ≡ f → (of_word w ≡ gives n (chain_of w)) × Memᴰ w (list_of n)
    go true fits =
        let k = rw fits at e in
        let number : total (chain_of w) ≡ n = cc k in
        (rw (is_true (reads true w) h, fits, number), (list_holds n w).1 ((readers_good w).0 h, number))
    go false fits =
        let k = rw fits at e in
        let z : ◌≡◌ {A = ℕ} 0 1 = cc k in
        absurd (omega arith)

pub of_over : (w : Word) → T (reads true w) → weighed_of w ≡ None → of_word w ≡ refused TooLarge
unfolding weighed_of sized of_word
of_over w h e = go (ltb (total (chain_of w)) (2 ^ 64)) refl
  where
    go : (f : Bool) → ltb (total (chain_of w)) (2 ^ 64) ≡ f → of_word w ≡ refused TooLarge
    go true fits =
        let k = rw fits at e in
        let z : ◌≡◌ {A = ℕ} 0 1 = cc k in
        absurd (omega arith)
    go false fits = rw (is_true (reads true w) h, fits)

-- The position of a good word's chain is the word's.
pub position_word : (w : Word) (n : ℕ) → T (reads true w) → position n (chain_of w) ≡ count_before w (list_of n)
unfolding position
position_word w n h = rw (word_chain_word w h)

-- ---- next

-- After c comes the chain at the next position; 11 where there is none.
after_below : (n : ℕ) (c : List Part) → position n c + 1 < count n → after n c ≡ at_position n (position n c + 1)
unfolding after
after_below n c l = standing_below LastOfList n (position n c + 1) l ∙ sym (at_below n (position n c + 1) l)

pub after_last : (n : ℕ) (c : List Part) → count n ≤ position n c + 1 → after n c ≡ refused LastOfList
unfolding after
after_last n c l = standing_past LastOfList n (position n c + 1) l

-- The refusal is 11, and exactly after the last chain.
pub after_refused : (n : ℕ) (c : List Part) → ChainOf n c → (r : Refusal)
    → (after n c ≡ refused r) ↔ ((r ≡ LastOfList) × (position n c + 1 ≡ count n))
unfolding after
after_refused n c h r =
    Iff.trans (standing_refused LastOfList n (position n c + 1) r)
    (Iff.and Iff.rfl (λ l. omega (arith, (at_position_lem n c h).0), λ e. omega arith))

-- The same of the word of a chain c of n.
pub next_below : (n : ℕ) (c : List Part) → ChainOf n c → n < 2 ^ 64 → position n c + 1 < count n
    → next_of (of_word (word_of c)) ≡ at_position n (position n c + 1)
unfolding next_of
next_below n c h f l = rw (of_chain n c h f) (after_below n c l)

pub next_last : (n : ℕ) (c : List Part) → ChainOf n c → n < 2 ^ 64 → position n c + 1 ≡ count n
    → next_of (of_word (word_of c)) ≡ refused LastOfList
unfolding next_of
next_last n c h f l = rw (of_chain n c h f) (after_last n c (omega arith))

-- What comes next of a word is a chain of the number that reading the word gives, one position on.
pub next_gives : (w : Word) (n : ℕ) (c : List Part) → next_of (of_word w) ≡ gives n c
    → (d : List Part) × (of_word w ≡ gives n d) × ChainOf n c × (position n c ≡ position n d + 1)
unfolding next_of
next_gives w n c e = go (of_word w) refl
  where
    one_on : (m : ℕ) (d : List Part) → after m d ≡ gives n c → Dec (position m d + 1 < count m)
        → (n ≡ m) × ChainOf m c × (position m c ≡ position m d + 1)
    one_on m d a (yes h) = at_gives m (position m d + 1) n c (sym (after_below m d h) ∙ a)
    one_on m d a (no h) =
        let g = after_last m d (omega arith) in
        let z : ◌≡◌ {A = ℕ} 0 1 = cc in
        absurd (omega arith)

    go : (o : Outcome) → of_word w ≡ o → (d : List Part) × (of_word w ≡ gives n d) × ChainOf n c × (position n c ≡ position n d + 1)
    go (refused r) f =
        let k = rw f at e in
        let z : ◌≡◌ {A = ℕ} 0 1 = cc k in
        absurd (omega arith)
    go (gives m d) f =
        let p = one_on m d (rw f at e) (dec_lt (position m d + 1) (count m)) in
        rw p.0 (d, f, p.1, p.2)

-- ---- of a record

-- Reading the part numbers of a chain of n gives the chain.
pub record_chain : (n : ℕ) (c : List Part) → ChainOf n c → n < 2 ^ 64 → of_record (map part_number c) ≡ gives n c
unfolding of_record judged_as
record_chain n c h f = rw (chain_judged n c h f) (ap (gives n) (parts_of_numbers c (omega (arith, h.sums))))

-- What reading a record gives is the chain of those part numbers.
pub record_gives : (l : List ℕ) (n : ℕ) (c : List Part) → of_record l ≡ gives n c
    → ChainOf n c × (map part_number c ≡ l) × (n < 2 ^ 64)
unfolding of_record judged_as
record_gives l n c e = go (judged_of l) refl
  where
    go : (j : Result ℕ Refusal) → judged_of l ≡ j → ChainOf n c × (map part_number c ≡ l) × (n < 2 ^ 64)
    go (Ok m) f =
        let k = rw f at e in
        let b = (judged_sum l m).0 f in
        let same : record_parts l ≡ c = cc k in
        let number : m ≡ n = cc k in (
          rw (same, number) at b.chain,
          ap (map part_number) (sym same) ∙ numbers_of_parts l ((in_table l).1 b.known),
          rw number at b.fits,
        )
    go (Err r) f =
        let k = rw f at e in
        let z : ◌≡◌ {A = ℕ} 0 1 = cc k in
        absurd (omega arith)

-- It is a chain of the sum of the record's parts.
pub record_sum : (l : List ℕ) (n : ℕ) (c : List Part) → of_record l ≡ gives n c → total (record_parts l) ≡ n
unfolding of_record judged_as
record_sum l n c e = go (judged_of l) refl
  where
    go : (j : Result ℕ Refusal) → judged_of l ≡ j → total (record_parts l) ≡ n
    go (Ok m) f = let number : m ≡ n = cc (rw f at e) in ((judged_sum l m).0 f).chain.sums ∙ number
    go (Err r) f = let z : ◌≡◌ {A = ℕ} 0 1 = cc (rw f at e) in absurd (omega arith)
