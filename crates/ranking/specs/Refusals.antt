-- Which refusal each service gives, in the terms of document 01's table: each number exactly if what the table says holds, and no
-- other number.
-- In order: reading a word; the next chain; reading and placing a record, each where enough is lent; then refusal 1, which comes
-- first, exactly where too little is lent. The tables of refusals, `WordRefusals` and `RecordRefusals`, are in words. That position i is refused
-- with 6 exactly past the count is in RoundTrips.
use Rattle.std.specs.Prelude.{Result, Ok, Err}
use Rattle.std.specs.Prelude.{◌≡◌, ◌↔◌, ◌⊎◌, true, List, ◌∷◌, ◌++◌, ℕ, ◌+◌, ◌^◌, ◌≤◌, ◌<◌, length}
use Rattle.std.proofs.Math.Path.{refl, ap}
use Rattle.std.proofs.Common.{sym, ◌∙◌, ⊎_elim, arith, lt-ltb}
use Rattle.std.proofs.Math.Logic.{inl, inr}
use Rattle.std.proofs.Math.Logic.Iff
use Rattle.std.proofs.Math.Decide.{dec_lt}
use Rattle.std.specs.Float.Ieee.Bits.{is_true}
use Rattle.chains.specs.Chains.{value, total}
use Rattle.chains.specs.Words.{Word, origin, Good, chain_of, reads}
use Rattle.chains.specs.Listing.{count, position}
use Rattle.chains.proofs.Rest.{point_after}
use Rattle.chains.proofs.Bounds.{point_at_most}
use Rattle.chains.proofs.Readers.{readers_good}
use Rattle.chains.proofs.RoundTrip.{chain_word_chain, word_reads}
use Rattle.lent.specs.Lent.{scratch_size, Lends, Enough}
use Rattle.lent.specs.LentLaws.{scratch_little, little_scratch_lem, little_places}
use Rattle.refusals.specs.declared.Refusal.{Refusal}
use Rattle.refusals.specs.declared.Refusal.TheVariants.{LittleLent, NoSuchPosition, BadWord, UnknownPart, NotChained, TooLarge, LastOfList}
use Rattle.refusals.specs.Refusals.{number_of}
use Rattle.words.specs.Records.{record_parts, Burned, judged_of}
use Rattle.words.specs.RecordLaws.{judged_sum}
use Rattle.words.specs.Refusals.{WordRefusals, word_lifted, word_tested, RecordRefusals, record_lifted, judged_refusals}
use Rattle.ranking.specs.Services.{Outcome, refused, gives, lent, lent_of, lent_scratch, answer_of, placed_of, at_position}
use Rattle.ranking.specs.Services.{position_of, of_word, next_of, judged_as, of_record}
use Rattle.ranking.specs.Outcomes.{same_refusal, no_refusal, standing_refused, of_gives, after_refused, after_last}
use Rattle.ranking.specs.RoundTrips.{lent_all, answer_refused, found_refused, placed_refused, refused_alike}

-- ---- reading a word

-- The outcome, and what reading a word answers.
pub word_refusals : (w : Word) → WordRefusals w (λ r. of_word w ≡ refused r)
unfolding of_word
word_refusals w =
    word_tested refused same_refusal w (gives (total (chain_of w)) (chain_of w)) (no_refusal (total (chain_of w)) (chain_of w))

pub read_word_refusals : (w : Word) (s p : List ℕ) → Enough 64 s p
    → WordRefusals w (λ r. answer_of (lent s p (of_word w)) ≡ Err r)
read_word_refusals w s p h = word_lifted (found_refused s p h (of_word w)) (word_refusals w)

-- It is refused with 10 also when one 2^a × 3^b that it passes is 2^64 or more: the point where the letter l stands.
pub point_over : (u : Word) (l : ℕ) (v : Word) → Good (u ++ (l ∷ v)) → 2 ^ 64 ≤ value (point_after origin u)
    → of_word (u ++ (l ∷ v)) ≡ refused TooLarge
point_over u l v g h = (word_refusals (u ++ (l ∷ v))).refusal_10.1 (g, omega (arith, point_at_most u l v g))

-- Where it is not refused it gives the word's chain.
pub word_given : (w : Word) → (of_word w ≡ gives (total (chain_of w)) (chain_of w)) ↔ (Good w × (total (chain_of w) < 2 ^ 64))
unfolding of_word
word_given w = (there, back)
  where
    there : of_word w ≡ gives (total (chain_of w)) (chain_of w) → Good w × (total (chain_of w) < 2 ^ 64)
    there e =
        let (chain, word, fits) = of_gives w (total (chain_of w)) (chain_of w) e in
        ((readers_good w).0 (rw word at (word_reads (chain_of w))), fits)

    back : Good w × (total (chain_of w) < 2 ^ 64) → of_word w ≡ gives (total (chain_of w)) (chain_of w)
    back (good, fits) = rw (is_true (reads true w) ((readers_good w).1 good), lt-ltb (total (chain_of w)) (2 ^ 64) fits)

-- ---- the next chain

-- The refusals of a word whose next chain is asked for: 7 and 10 as in reading it; 11 exactly if it can be read and its chain is
-- the last in its list; no other.
pub record NextRefusals (w : Word) (refused : Refusal → Type 0) : Type 0 where
  pub refusal_7 : refused BadWord ↔ (¬ Good w)
  pub refusal_10 : refused TooLarge ↔ (Good w × (2 ^ 64 ≤ total (chain_of w)))
  pub refusal_11 :
      refused LastOfList
      ↔ (Good w × (total (chain_of w) < 2 ^ 64)
      × (position (total (chain_of w)) (chain_of w) + 1 ≡ count (total (chain_of w))))
  pub no_other : (r : Refusal) → refused r → (r ≡ BadWord) ⊎ ((r ≡ TooLarge) ⊎ (r ≡ LastOfList))

-- The outcome, and what asking for the next chain answers.
module _ (w : Word) where
  -- The word can be read, and its chain is the last in its list.
  abbrev Last : Type 0
  Last = Good w × (total (chain_of w) < 2 ^ 64) × (position (total (chain_of w)) (chain_of w) + 1 ≡ count (total (chain_of w)))

  next_kept : (r : Refusal) → of_word w ≡ refused r → next_of (of_word w) ≡ refused r
  unfolding next_of
  next_kept r e = rw e

  next_cases : (r : Refusal) → next_of (of_word w) ≡ refused r → (of_word w ≡ refused r) ⊎ ((r ≡ LastOfList) × Last)
  unfolding next_of
  next_cases r e = by_outcome (of_word w) refl
    where
      by_outcome : (o : Outcome) → of_word w ≡ o → (of_word w ≡ refused r) ⊎ ((r ≡ LastOfList) × Last)
      by_outcome (refused q) f = inl (f ∙ (rw f at e))
      by_outcome (gives n c) f =
          let (chain, word, fits) = of_gives w n c f in
          let (is, last) = (after_refused n c chain r).0 (rw f at e) in
          let same : chain_of w ≡ c = ap chain_of (sym word) ∙ chain_word_chain c chain.chained in
          let number : total (chain_of w) ≡ n = ap total same ∙ chain.sums in
          inr (is, rw (number, same) ((readers_good w).0 (rw word at (word_reads c)), fits, last))

  next_last_word : Last → next_of (of_word w) ≡ refused LastOfList
  unfolding next_of
  next_last_word (good, fits, last) =
      rw ((word_given w).1 (good, fits)) (after_last (total (chain_of w)) (chain_of w) (omega arith))

  -- Any refusal but 11 is that of reading the word.
  as_read : (r : Refusal) → ¬ (r ≡ LastOfList) → (next_of (of_word w) ≡ refused r) ↔ (of_word w ≡ refused r)
  as_read r n = (
    λ e. ⊎_elim (λ (f : of_word w ≡ refused r). f) (λ (g : (r ≡ LastOfList) × Last). absurd (n g.0)) (next_cases r e),
    next_kept r,
  )

  pub next_refusals : NextRefusals w (λ r. next_of (of_word w) ≡ refused r)
  next_refusals =
      let read = word_refusals w in
      record {
        refusal_7 = Iff.trans (as_read BadWord (λ e. omega (arith, ap number_of e))) read.refusal_7;
        refusal_10 = Iff.trans (as_read TooLarge (λ e. omega (arith, ap number_of e))) read.refusal_10;
        refusal_11 = (
          λ e.
              ⊎_elim
              (λ (f : of_word w ≡ refused LastOfList).
              absurd (⊎_elim (λ (g : LastOfList ≡ BadWord). omega (arith, ap number_of g)) (λ (g : LastOfList ≡ TooLarge). omega (arith, ap number_of g)) (read.no_other LastOfList f)))
              (λ (g : (LastOfList ≡ LastOfList) × Last). g.1)
              (next_cases LastOfList e),
          next_last_word,
        );
        no_other =
            λ r e.
            ⊎_elim
            (λ (f : of_word w ≡ refused r). ⊎_elim (λ (g : r ≡ BadWord). inl g) (λ (g : r ≡ TooLarge). inr (inl g)) (read.no_other r f))
            (λ (g : (r ≡ LastOfList) × Last). inr (inr g.0))
            (next_cases r e);
      }

  pub next_chain_refusals : (s p : List ℕ) → Enough 64 s p
      → NextRefusals w (λ r. answer_of (lent s p (next_of (of_word w))) ≡ Err r)
  next_chain_refusals s p h =
      let told = found_refused s p h (next_of (of_word w)) in
      record {
        refusal_7 = Iff.trans (told BadWord) next_refusals.refusal_7;
        refusal_10 = Iff.trans (told TooLarge) next_refusals.refusal_10;
        refusal_11 = Iff.trans (told LastOfList) next_refusals.refusal_11;
        no_other = λ r e. next_refusals.no_other r ((told r).0 e);
      }

-- ---- reading and placing a record

-- The outcome, and what reading a record and placing it answer.
pub record_refusals : (l : List ℕ) → RecordRefusals l (λ r. of_record l ≡ refused r)
unfolding of_record judged_as
record_refusals l = record_lifted (λ r. as_judged r (judged_of l)) (judged_refusals l)
  where
    as_judged : (r : Refusal) (j : Result ℕ Refusal) → (judged_as l j ≡ refused r) ↔ (j ≡ Err r)
    as_judged r (Ok n) = (
      λ e. absurd (no_refusal n (record_parts l) r e),
      λ e. let z : ◌≡◌ {A = ℕ} 0 1 = cc in absurd (omega arith),
    )
    as_judged r (Err q) = (λ e. cc, λ e. cc)

pub read_record_refusals : (l s : List ℕ) → scratch_size ≤ length s
    → RecordRefusals l (λ r. placed_of (lent_scratch s (of_record l)) ≡ Err r)
read_record_refusals l s h = record_lifted (placed_refused s h (of_record l)) (record_refusals l)

pub place_record_refusals : (l s : List ℕ) → scratch_size ≤ length s
    → RecordRefusals l (λ r. position_of (lent_scratch s (of_record l)) ≡ Err r)
place_record_refusals l s h = record_lifted (refused_alike (lent_scratch s (of_record l))) (read_record_refusals l s h)

-- Where it is not refused it gives the chain of its parts.
pub record_given : (l : List ℕ) (n : ℕ) → (of_record l ≡ gives n (record_parts l)) ↔ Burned l n
unfolding of_record judged_as
record_given l n = Iff.trans (as_judged (judged_of l)) (judged_sum l n)
  where
    as_judged : (j : Result ℕ Refusal) → (judged_as l j ≡ gives n (record_parts l)) ↔ (j ≡ Ok n)
    as_judged (Ok m) = (λ e. cc, λ e. cc)
    as_judged (Err q) = (
      λ e. absurd (no_refusal n (record_parts l) q (sym e)),
      λ e. let z : ◌≡◌ {A = ℕ} 0 1 = cc in absurd (omega arith),
    )

-- ---- too little is lent

-- The scratch has fewer numbers than it must have, or there are fewer than 64 places.
abbrev pub Little : List ℕ → List ℕ → Type 0
Little s p = (length s < scratch_size) ⊎ (length p < 64)

-- Where the outcome itself is not refused with 1: a service that asks for `size` numbers and 64 places,
pub lent_too_little : (size : ℕ) (s p : List ℕ) (o : Outcome) → ¬ (o ≡ refused LittleLent)
    → (lent_of size s p o ≡ refused LittleLent) ↔ ((length s < size) ⊎ (length p < 64))
unfolding lent_of
lent_too_little size s p o n = by_sizes (dec_lt (length s) size) (dec_lt (length p) 64)
  where
    by_sizes : Dec (length s < size) → Dec (length p < 64) → (lent_of size s p o ≡ refused LittleLent) ↔ ((length s < size) ⊎ (length p < 64))
    by_sizes (yes h) d = (λ _. inl h, λ _. rw (little_scratch_lem 64 s p h) refl)
    by_sizes (no h) (yes k) = (λ _. inr k, λ _. rw (little_places size 64 s p k) refl)
    by_sizes (no h) (no k) =
        let e : Lends size 64 s p = record { numbers = omega arith; room = omega arith } in (
          λ f. absurd (n (sym (lent_all s p o e) ∙ f)),
          ⊎_elim (λ (l : length s < size). absurd (h l)) (λ (l : length p < 64). absurd (k l)),
        )

-- one that asks for a scratch, and one that is lent a scratch alone.
pub found_too_little : (s p : List ℕ) (o : Outcome) → ¬ (o ≡ refused LittleLent) → (answer_of (lent s p o) ≡ Err LittleLent) ↔ Little s p
found_too_little s p o n =
    let told = answer_refused (lent s p o) LittleLent in
    let little = lent_too_little scratch_size s p o n in
    (λ e. little.0 (told.0 e), λ l. told.1 (little.1 l))

placed_too_little : (s : List ℕ) (o : Outcome) → ¬ (o ≡ refused LittleLent)
    → (placed_of (lent_scratch s o) ≡ Err LittleLent) ↔ (length s < scratch_size)
unfolding placed_of lent_scratch
placed_too_little s o n = by_size (dec_lt (length s) scratch_size)
  where
    by_size : Dec (length s < scratch_size) → (placed_of (lent_scratch s o) ≡ Err LittleLent) ↔ (length s < scratch_size)
    by_size (yes h) = (λ _. h, λ _. rw (scratch_little s h) refl)
    by_size (no h) = (λ f. absurd (n ((placed_refused s (omega arith) o LittleLent).0 f)), λ k. absurd (h k))

-- So each service is refused with 1 exactly where too little is lent.
module _ (s p : List ℕ) where
  pub read_word_too_little : (w : Word) → (answer_of (lent s p (of_word w)) ≡ Err LittleLent) ↔ Little s p
  read_word_too_little w =
      found_too_little s p (of_word w)
      (λ e. ⊎_elim (λ (f : LittleLent ≡ BadWord). omega (arith, ap number_of f)) (λ (f : LittleLent ≡ TooLarge). omega (arith, ap number_of f)) ((word_refusals w).no_other LittleLent e))

  pub next_chain_too_little : (w : Word) → (answer_of (lent s p (next_of (of_word w))) ≡ Err LittleLent) ↔ Little s p
  next_chain_too_little w =
      found_too_little s p (next_of (of_word w))
      (λ e.
      ⊎_elim (λ (f : LittleLent ≡ BadWord). omega (arith, ap number_of f))
      (⊎_elim (λ (f : LittleLent ≡ TooLarge). omega (arith, ap number_of f)) (λ (f : LittleLent ≡ LastOfList). omega (arith, ap number_of f))) ((next_refusals w).no_other LittleLent e))

  pub chain_at_too_little : (n i : ℕ) → (answer_of (lent s p (at_position n i)) ≡ Err LittleLent) ↔ Little s p
  unfolding at_position
  chain_at_too_little n i = found_too_little s p (at_position n i) (λ e. omega (arith, ap number_of ((standing_refused NoSuchPosition n i LittleLent).0 e).0))

pub read_record_too_little : (l s : List ℕ) → (placed_of (lent_scratch s (of_record l)) ≡ Err LittleLent) ↔ (length s < scratch_size)
read_record_too_little l s =
    placed_too_little s (of_record l)
    (λ e.
    ⊎_elim (λ (f : LittleLent ≡ UnknownPart). omega (arith, ap number_of f))
    (⊎_elim (λ (f : LittleLent ≡ NotChained). omega (arith, ap number_of f)) (λ (f : LittleLent ≡ TooLarge). omega (arith, ap number_of f))) ((record_refusals l).no_other LittleLent e))

pub place_record_too_little : (l s : List ℕ)
    → (position_of (lent_scratch s (of_record l)) ≡ Err LittleLent) ↔ (length s < scratch_size)
place_record_too_little l s = Iff.trans (refused_alike (lent_scratch s (of_record l)) LittleLent) (read_record_too_little l s)
