-- How the answers and the lent memory of the services come out, case by case. In order: a part of what is lent; a scratch too small,
-- and one that is not; a record that is placed; a record and a word in two numbers; the chain at a position; too little lent to a
-- service with places, and enough.
use Rattle.std.proofs.Common.{Some, None, Result, Ok, Err, ◌++◌, ◌-◌, drop, take-append-drop, drop_of_length-le, length-take-le, append_assoc}
use Rattle.std.specs.Array.{IsFirstChunk}
use mathlib.Core.Path.{◌≡◌, refl, sym, ap, ◌∙◌}
use mathlib.Core.Logic.{◌⊎◌, inl, inr}
use mathlib.Core.Bool.{true, false}
use mathlib.Core.List.{List, [], map, Memᴰ}
use Prim.Native.Nat.{ℕ, ◌+◌, ◌^◌, ◌≤◌, ◌<◌}
use Rattle.std.proofs.Math.Nat.{le_of_eq}
use native.Mathlib.Decide.{dec_le}
use native.Mathlib.Omega.{arith}
use lib.Ieee.Bits.{is_true}
use lib.ListN.{length}
use borrow.Author.Tests.{le-ltb, lt-ltb}
use Rattle.lent.specs.Lent.{zeros, filled, scratch_size, little_scratch, too_little, scratch_left, memory_left}
use Rattle.lent.specs.LentLaws.{scratch_little, scratch_enough, enough, zeroed_back}
use Rattle.chains.specs.Chains.{total}
use Rattle.chains.specs.Words.{Word, word_of, chain_of, reads}
use Rattle.chains.specs.Listing.{list_of, count, count_before, position, chain_at}
use Rattle.chains.proofs.Listed.{chain_listed}
use Rattle.chains.proofs.Members.{member_words, list_holds, get_or_member}
use Rattle.chains.proofs.Readers.{readers_good}
use Rattle.chains.proofs.Positions.{word_at_position}
use Rattle.chains.proofs.PositionsOfChains.{position_at}
use Rattle.chains.proofs.Bounds.{letters_bound}
use Rattle.parts.specs.Parts.{part_number}
use Rattle.refusals.specs.declared.Refusal.{Refusal}
use Rattle.refusals.specs.declared.Refusal.TheVariants.{LittleLent, BadWord, TooLarge, LastOfList}
use Rattle.words.specs.Records.{record_parts}
use Rattle.words.specs.RecordLaws.{judged_sum}
use Rattle.words.specs.Packed.{bits, rise, mark, packed_of, packed_letters, packed_chain, parts_left}
use Rattle.words.specs.PackedLaws.{PackedFrom, packed_refused, LettersPacked, letters_refused, packed_chain_lem}
use Rattle.counting.specs.Forward.{word_at}
use Rattle.counting.specs.declared.Listed.{Listed}
use Rattle.counting.specs.Ranked.{listed_at}
use Rattle.counting.specs.RankedLaws.{listed_past, listed_there}
use Rattle.ranking.specs.Services.{Outcome, refused, gives, lent_scratch, lent, lent_of}
use Rattle.ranking.specs.Services.{placed_of, position_of, answer_of, places_left, judged_as, of_record, of_word, standing, after, next_of}
use Rattle.ranking.specs.Outcomes.{standing_below, standing_past, position_word}
use Rattle.ranking.specs.RoundTrips.{refused_alike, same_placed}
use Rattle.ranking.specs.Giving.{placed_at, TwoNumbers, At, Given}
use Rattle.ranking.specs.declared.Placed.{Placed}
use Rattle.ranking.specs.declared.Found.{Found}

-- ---- a part of what is lent, and a scratch too small and one that is not

-- A part that is lent on has its length;
pub part_long : {s t : List ℕ} {k : ℕ} → IsFirstChunk s t k → length t ≡ k
part_long {s} {k = k} h = rw h.same (length-take-le k s h.enough)

-- comes back as it was.
pub part_back : {s t : List ℕ} {k : ℕ} → IsFirstChunk s t k → t ++ drop k s ≡ s
part_back {s} {k = k} h = rw h.same (take-append-drop k s)

pub scratch_refused : (s : List ℕ) (o : Outcome) → length s < scratch_size
    → (Err LittleLent ≡ placed_of (lent_scratch s o)) × (s ≡ scratch_left (little_scratch s) s)
unfolding placed_of lent_scratch memory_left
scratch_refused s o h = rw (scratch_little s h) (refl, refl)

pub scratch_served : {s t t' : List ℕ} (o : Outcome) {r : Result Placed Refusal} → IsFirstChunk s t scratch_size
    → r ≡ placed_of o → t' ≡ zeros scratch_size
    → (r ≡ placed_of (lent_scratch s o)) × (t' ++ drop scratch_size s ≡ scratch_left (little_scratch s) s)
unfolding lent_scratch memory_left
scratch_served {s} o h e f = rw (scratch_enough s h.enough) (e, zeroed_back scratch_size s f)

-- ---- a record that is placed

pub position_placed : (o : Outcome) {n i : ℕ} → placed_of o ≡ Ok (record { n = n; position = i }) → Ok i ≡ position_of o
unfolding placed_of position_of
position_placed (refused r) e = let z : ◌≡◌ {A = ℕ} 0 1 = cc in absurd (omega arith)
position_placed (gives n c) e = ap Ok (sym (same_placed e).1)

pub position_refused : (o : Outcome) {r : Refusal} → placed_of o ≡ Err r → Err r ≡ position_of o
position_refused o {r} e = sym ((refused_alike o r).1 e)

-- ---- a word in two numbers

-- A record's word stands in the list of its sum, and n and its position are what reading the record tells.
module _ {l : List ℕ} {n rises marks letters : ℕ} (p : PackedFrom l n rises marks letters) where
  pub record_listed : Memᴰ (word_of (record_parts l)) (list_of n)
  record_listed = chain_listed n (record_parts l) p.burned.chain

  pub record_placed : placed_at n (word_of (record_parts l)) ≡ placed_of (of_record l)
  unfolding placed_at placed_of of_record judged_as position
  record_placed = rw ((judged_sum l n).1 p.burned)

-- A record that is refused.
pub record_refused : (l : List ℕ) (r : Refusal) → packed_of l ≡ Err r → Err r ≡ placed_of (of_record l)
unfolding placed_of of_record judged_as
record_refused l r e = rw (packed_refused l r e)

-- A word that is packed has an outcome, and stands in the list.
module _ {w : Word} {n rises marks letters : ℕ} (p : LettersPacked w n rises marks letters) where
  pub word_gives : of_word w ≡ gives n (chain_of w)
  unfolding of_word
  word_gives = rw (is_true (reads true w) p.good, ← p.number, lt-ltb n (2 ^ 64) p.fits)

  pub word_held : TwoNumbers n w rises marks
  word_held =
      record {
        member = (list_holds n w).1 ((readers_good w).0 p.good, sym p.number);
        rising = p.rising;
        marking = p.marking;
      }

  -- The next chain is what stands one position on.
  pub next_standing : next_of (of_word w) ≡ standing LastOfList n (count_before w (list_of n) + 1)
  unfolding next_of after
  next_standing = rw (word_gives, position_word w n p.good)

pub word_refused : (w : Word) (r : Refusal) → packed_letters w ≡ Err r → of_word w ≡ refused r
unfolding of_word
word_refused w r e = go (letters_refused w r e)
  where
    go : ((r ≡ BadWord) × (reads true w ≡ false)) ⊎ ((r ≡ TooLarge) × (reads true w ≡ true) × (2 ^ 64 ≤ total (chain_of w))) → of_word w ≡ refused r
    go (inl (n, bad)) = rw (n, bad)
    go (inr (n, good, over)) = rw (n, good, le-ltb (total (chain_of w)) (2 ^ 64) over)

pub next_refused : (w : Word) (r : Refusal) → packed_letters w ≡ Err r → next_of (of_word w) ≡ refused r
unfolding next_of
next_refused w r e = rw (word_refused w r e)

-- ---- the chain at a position

-- A word of the list stands at its own position, and so does its chain.
module _ (n : ℕ) {w : Word} (m : Memᴰ w (list_of n)) where
  pub held_at : {rises marks : ℕ} → TwoNumbers n w rises marks → At n (count_before w (list_of n)) rises marks
  held_at t =
      let (low, same) = word_at_position n w m in
      record { within = low; rising = t.rising ∙ ap (bits rise) (sym same); marking = t.marking ∙ ap (bits mark) (sym same) }

  pub held_chain : chain_at n (count_before w (list_of n)) ≡ chain_of w
  unfolding chain_at
  held_chain = ap chain_of (word_at_position n w m).1

-- The parts of the word at a position are those of the chain there.
module _ {n i rises marks : ℕ} (fits : n < 2 ^ 64) (t : At n i rises marks) where
  at_chain : packed_chain rises marks ≡ chain_at n i
  unfolding chain_at list_of count
  at_chain =
      let (good, number) = (member_words true n (word_at n i)).0 (get_or_member (list_of n) i t.within) in
      rw (t.rising, t.marking) (packed_chain_lem (word_at n i) good (letters_bound 64 (word_at n i) good (omega arith)))

  pub at_given : {k : ℕ} {entry exit : List ℕ} → 64 ≤ length entry → k ≡ length (packed_chain rises marks)
      → exit ≡ parts_left rises marks entry → Given (gives n (chain_at n i)) (Ok (record { n = n; position = i; k = k })) entry exit
  unfolding answer_of places_left parts_left
  at_given {entry = entry} room size left =
      record {
        answer = rw (size, at_chain, position_at n i t.within);
        left = left ∙ rw (le-ltb (length entry) 64 room, at_chain);
      }

-- A refusal, which leaves the places as they were.
pub refused_given : (o : Outcome) (r : Refusal) (places : List ℕ) → o ≡ refused r → Given o (Err r) places places
unfolding answer_of places_left
refused_given o r places e = rw e (record { answer = refl; left = refl })

-- What `position_of` tells of a word of the list, r being its answer.
module _ (n : ℕ) (w : Word) {r : Result ℕ Refusal} (e : r ≡ Ok (count_before w (list_of n))) where
  pub told_position : {p : ℕ} → r ≡ Ok p → p ≡ count_before w (list_of n)
  told_position f = cc (f, e)

  pub told_refusal : {k : Refusal} → r ≡ Err k → ⊥
  told_refusal f = let z : ◌≡◌ {A = ℕ} 0 1 = cc (f, e) in omega arith

-- What `word_at` and `word_after` tell.
module _ (n i : ℕ) where
  pub told_word : (l : Listed) → Some l ≡ listed_at n i → (l.position ≡ i) × At n i l.rises l.marks
  told_word l e = go (dec_le (count n) i)
    where
      go : Dec (count n ≤ i) → (l.position ≡ i) × At n i l.rises l.marks
      go (yes h) = let z : ◌≡◌ {A = ℕ} 0 1 = cc (e, listed_past n i h) in absurd (omega arith)
      go (no h) =
          let same : l ≡ record { position = i; rises = bits rise (word_at n i); marks = bits mark (word_at n i) } =
          cc (e ∙ listed_there n i (omega arith)) in (
            ap (λ (k : Listed). k.position) same,
            record {
              within = omega arith;
              rising = ap (λ (k : Listed). k.rises) same;
              marking = ap (λ (k : Listed). k.marks) same;
            },
          )

  pub told_past : (r : Refusal) → None ≡ listed_at n i → standing r n i ≡ refused r
  told_past r e = go (dec_le (count n) i)
    where
      go : Dec (count n ≤ i) → standing r n i ≡ refused r
      go (yes h) = standing_past r n i h
      go (no h) = let z : ◌≡◌ {A = ℕ} 0 1 = cc (e, listed_there n i (omega arith)) in absurd (omega arith)

  -- The chain there, given by what `give_parts` promises.
  pub standing_given : {position rises marks : ℕ} {answer : Result Found Refusal} {entry exit : List ℕ} (r : Refusal)
      → (position ≡ i) × At n i rises marks
      → (At n position rises marks → Given (gives n (chain_at n position)) answer entry exit)
      → Given (standing r n i) answer entry exit
  standing_given r (e, t) given = rw (standing_below r n i t.within, ← e) (given (rw e t))

-- ---- too little is lent to a service with places, and enough

pub little : {s s' p : List ℕ} (o : Outcome) → too_little 64 s p ≡ true → s' ≡ s
    → (Err LittleLent ≡ answer_of (lent s p o)) × ((p ≡ places_left (lent s p o) p) × (s' ≡ scratch_left (too_little 64 s p) s))
unfolding answer_of lent_of places_left memory_left
little o e f = rw e (refl, (refl, f))

-- The first places come back as an outcome leaves them.
left_back : (o : Outcome) {p q q' : List ℕ} → IsFirstChunk p q 64 → q' ≡ places_left o q → q' ++ drop 64 p ≡ places_left o p
unfolding places_left filled
left_back (refused r) h f = rw f (part_back h)
left_back (gives n c) {p} {q} h f =
    let xs = map part_number c in
    let z = zeros (64 - length xs) in
    let none : drop 64 q ≡ [] = drop_of_length-le q (le_of_eq (part_long h)) in
    rw (f, none, append_assoc xs (z ++ []) (drop 64 p), append_assoc z [] (drop 64 p)) refl

-- By what was given in the parts t and q.
module _ {s t t' p q q' : List ℕ} (h : IsFirstChunk s t scratch_size) (k : IsFirstChunk p q 64) (o : Outcome) where
  pub served_given : {r : Result Found Refusal} → Given o r q q' → t' ≡ zeros scratch_size
      → (r ≡ answer_of (lent s p o))
      × ((q' ++ drop 64 p ≡ places_left (lent s p o) p) × (t' ++ drop scratch_size s ≡ scratch_left (too_little 64 s p) s))
  unfolding lent_of memory_left
  served_given g f =
      rw (enough 64 s p (record { numbers = h.enough; room = k.enough })) (g.answer, (left_back o k g.left, zeroed_back scratch_size s f))
