-- Demand 2: what one service answers and leaves in the places, handed to another, leads back.
-- In order: what an answer says of its outcome; reading a record and placing it; the part numbers that stand in the places; all
-- services for a chain of n; from a record to the chain at its position and back; from a word to its record and back; from a word to
-- the next one.
-- That the outcomes are 003's chains and their positions, each as the service's definition has it, is in Outcomes.
use Rattle.std.specs.Prelude.{Result, Ok, Err}
use Rattle.std.specs.Prelude.{◌≡◌, refl, ◌↔◌, Bool, true, false, cond, List, map, ℕ, ◌+◌, ◌^◌, ◌≤◌, ◌<◌, length, take}
use Rattle.std.proofs.Common.{sym, ap, ◌∙◌, arith}
use Rattle.std.proofs.Math.Logic.Iff
use Rattle.std.proofs.lemmas.List.{length-map}
use Rattle.lent.specs.LentLaws.{filled_first, scratch_enough, enough, not_little}
use Rattle.chains.specs.Chains.{Part, total, ChainOf}
use Rattle.chains.specs.Words.{Word, word_of}
use Rattle.chains.specs.Listing.{count, position}
use Rattle.lent.specs.Lent.{filled, scratch_size, little_scratch, too_little, Enough, Lends}
use Rattle.refusals.specs.declared.Refusal.{Refusal}
use Rattle.refusals.specs.declared.Refusal.TheVariants.{LittleLent, NoSuchPosition, LastOfList}
use Rattle.parts.specs.Parts.{part_number}
use Rattle.words.specs.Records.{record_parts}
use Rattle.words.specs.Conversions.{written_of, letters_left}
use Rattle.words.specs.WordLaws.{chain_written}
use Rattle.ranking.specs.declared.Found.{Found}
use Rattle.ranking.specs.Services.{Outcome, refused, gives, lent, lent_of, lent_scratch, answer_of, places_left}
use Rattle.ranking.specs.Services.{placed_of, position_of, at_position, of_word, after, next_of, of_record}
use Rattle.ranking.specs.Outcomes.{no_refusal, at_refused, at_chain, at_gives, of_chain, of_gives}
use Rattle.ranking.specs.Outcomes.{after_refused, next_below, next_last, next_gives, record_chain, record_gives, record_sum}
use Rattle.ranking.specs.declared.Placed.{Placed}

-- ---- answers and outcomes

lent_enough : (scratch places : List ℕ) (o : Outcome) → too_little 64 scratch places ≡ false → lent scratch places o ≡ o
unfolding lent_of
lent_enough scratch places o e = rw e

-- Then the outcome is the service's own.
pub lent_all : {size : ℕ} (memory places : List ℕ) (o : Outcome) → Lends size 64 memory places → lent_of size memory places o ≡ o
unfolding lent_of
lent_all memory places o h = rw (enough 64 memory places h)

pub lent_scratch_lem : (scratch : List ℕ) (o : Outcome) → scratch_size ≤ length scratch → lent_scratch scratch o ≡ o
unfolding lent_scratch
lent_scratch_lem scratch o h = rw (scratch_enough scratch h)

-- A refusal is answered exactly if the outcome is one,
pub answer_refused : (o : Outcome) (r : Refusal) → (answer_of o ≡ Err r) ↔ (o ≡ refused r)
unfolding answer_of
answer_refused (refused q) r = (λ e. cc, λ e. cc)
answer_refused (gives n c) r = (λ e. let z : ◌≡◌ {A = ℕ} 0 1 = cc in absurd (omega arith), λ e. absurd (no_refusal n c r e))

placed_as : (o : Outcome) (r : Refusal) → (placed_of o ≡ Err r) ↔ (o ≡ refused r)
unfolding placed_of
placed_as (refused q) r = (λ e. cc, λ e. cc)
placed_as (gives n c) r = (λ e. let z : ◌≡◌ {A = ℕ} 0 1 = cc in absurd (omega arith), λ e. absurd (no_refusal n c r e))

-- where enough is lent: scratch and places, or a scratch alone.
pub found_refused : (s p : List ℕ) → Enough 64 s p → (o : Outcome) (r : Refusal)
    → (answer_of (lent s p o) ≡ Err r) ↔ (o ≡ refused r)
found_refused s p h o r = rw (lent_all s p o h) (answer_refused o r)

pub placed_refused : (s : List ℕ) → scratch_size ≤ length s → (o : Outcome) (r : Refusal)
    → (placed_of (lent_scratch s o) ≡ Err r) ↔ (o ≡ refused r)
placed_refused s h o r = rw (lent_scratch_lem s o h) (placed_as o r)

-- A chain is answered only where enough is lent and the service's own outcome gives one.
own_gives :
    (b : Bool) (o : Outcome)
    → ((r : Refusal) → cond b (refused LittleLent) o ≡ refused r → ⊥)
    → (n : ℕ) × (c : List Part) × (b ≡ false) × (o ≡ gives n c)
own_gives true o given = absurd (given LittleLent refl)
own_gives false (refused r) given = absurd (given r refl)
own_gives false (gives n c) given = (n, c, refl, refl)

-- The parts of an answer are those of the same answer.
pub same_found : {f g : Found} → ◌≡◌ {A = Result Found Refusal} (Ok f) (Ok g) → (f.n ≡ g.n) × (f.position ≡ g.position) × (f.k ≡ g.k)
same_found {f} {g} e =
    let same : f ≡ g = cc in
    (ap (λ (h : Found). h.n) same, ap (λ (h : Found). h.position) same, ap (λ (h : Found). h.k) same)

pub same_placed : {f g : Placed} → ◌≡◌ {A = Result Placed Refusal} (Ok f) (Ok g) → (f.n ≡ g.n) × (f.position ≡ g.position)
same_placed {f} {g} e =
    let same : f ≡ g = cc in
    (ap (λ (h : Placed). h.n) same, ap (λ (h : Placed). h.position) same)

found_gives :
    {P : Type 0} (scratch places : List ℕ) (o : Outcome) (n i k : ℕ)
    → answer_of (lent scratch places o) ≡ Ok (record { n = n; position = i; k = k })
    → ((c : List Part) → o ≡ gives n c → too_little 64 scratch places ≡ false → position n c ≡ i → length c ≡ k → P)
    → P
unfolding lent_of answer_of
found_gives scratch places o n i k e then =
    let (m, c, enough, given) =
    own_gives (too_little 64 scratch places) o (λ r f. let z : ◌≡◌ {A = ℕ} 0 1 = cc (rw f at e) in omega arith) in
    let g = same_found {f = record { n = m; position = position m c; k = length c }} (rw (enough, given) at e) in
    then c (given ∙ ap (λ (x : ℕ). gives x c) g.0) enough (ap (λ (x : ℕ). position x c) (sym g.0) ∙ g.1) g.2

placed_gives :
    {P : Type 0} (scratch : List ℕ) (o : Outcome) (n i : ℕ)
    → placed_of (lent_scratch scratch o) ≡ Ok (record { n = n; position = i })
    → ((c : List Part) → o ≡ gives n c → position n c ≡ i → P)
    → P
unfolding lent_scratch placed_of
placed_gives scratch o n i e then =
    let (m, c, enough, given) =
    own_gives (little_scratch scratch) o (λ r f. let z : ◌≡◌ {A = ℕ} 0 1 = cc (rw f at e) in omega arith) in
    let g = same_placed {f = record { n = m; position = position m c }} (rw (enough, given) at e) in
    then c (given ∙ ap (λ (x : ℕ). gives x c) g.0) (ap (λ (x : ℕ). position x c) (sym g.0) ∙ g.1)

-- A chain is the outcome only where enough is lent, and then it is the service's own.
pub lent_gives : (scratch places : List ℕ) (o : Outcome) (n : ℕ) (c : List Part) → lent scratch places o ≡ gives n c
    → Enough 64 scratch places × (o ≡ gives n c)
unfolding lent_of
lent_gives scratch places o n c e =
    let (m, d, enough, given) = own_gives (too_little 64 scratch places) o (λ r f. no_refusal n c r (sym e ∙ f)) in
    (not_little 64 scratch places enough, rw enough at e)

-- ---- reading a record and placing it

-- n, and what placing tells.
unfoldable pub with_number : ℕ → Result ℕ Refusal → Result Placed Refusal
with_number n (Ok i) = Ok (record { n = n; position = i })
with_number n (Err r) = Err r

-- Reading a record tells the sum of its parts and what placing tells, for every record and scratch.
pub read_is_place : (l s : List ℕ)
    → placed_of (lent_scratch s (of_record l)) ≡ with_number (total (record_parts l)) (position_of (lent_scratch s (of_record l)))
unfolding with_number placed_of position_of lent_scratch
read_is_place l s = go (lent_scratch s (of_record l)) refl
  where
    go : (o : Outcome) → lent_scratch s (of_record l) ≡ o → placed_of o ≡ with_number (total (record_parts l)) (position_of o)
    go (refused r) e = refl
    go (gives n c) e =
        let (m, d, enough, given) = own_gives (little_scratch s) (of_record l) (λ r f. no_refusal n c r (sym e ∙ f)) in
        rw (record_sum l n c (rw enough at e))

-- So both refuse alike.
pub refused_alike : (o : Outcome) (r : Refusal) → (position_of o ≡ Err r) ↔ (placed_of o ≡ Err r)
unfolding placed_of position_of
refused_alike (refused q) r = (λ e. cc, λ e. cc)
refused_alike (gives n c) r = (
  λ e. let z : ◌≡◌ {A = ℕ} 0 1 = cc in absurd (omega arith),
  λ e. let z : ◌≡◌ {A = ℕ} 0 1 = cc in absurd (omega arith),
)

-- ---- the part numbers in the places

-- The first k places are the part numbers of the chain.
pub numbers_left_lem : (n : ℕ) (c : List Part) (entry : List ℕ) → take (length c) (places_left (gives n c) entry) ≡ map part_number c
unfolding places_left
numbers_left_lem n c entry = rw (← length-map c part_number) (filled_first 64 (map part_number c) entry)

-- Read as a record, they tell the chain's position.
left_record :
    (o : Outcome) (n i k : ℕ) (c : List Part) (places l : List ℕ)
    → o ≡ gives n c
    → position n c ≡ i
    → length c ≡ k
    → take k (places_left o places) ≡ l
    → ChainOf n c
    → n < 2 ^ 64
    → (s : List ℕ)
    → scratch_size ≤ length s
    → placed_of (lent_scratch s (of_record l)) ≡ Ok (record { n = n; position = i })
unfolding placed_of
left_record o n i k c places l e there size first chain f s h =
    rw (
      ← first,
      e,
      ← there,
      ← size,
      numbers_left_lem n c places,
      lent_scratch_lem s (of_record (map part_number c)) h,
      record_chain n c chain f,
    )

-- The letters that stand first in the room are the word of the numbers written.
letters_left_lem :
    (n : ℕ) (c : List Part)
    → ChainOf n c
    → n < 2 ^ 64
    → (room : List ℕ)
    → 64 ≤ length room
    → take (length (word_of c)) (letters_left (map part_number c) room (written_of (map part_number c) (length room))) ≡ word_of c
letters_left_lem n c chain f room h = rw (chain_written n c chain f room h).1 (filled_first 64 (word_of c) room)

-- ---- a chain of n

-- What the services answer and leave behind for a chain c of n, asked by its record, its position and its word.
pub record Trips (n : ℕ) (c : List Part) (scratch places room : List ℕ) : Type 0 where
  pub read_record : placed_of (lent_scratch scratch (of_record (map part_number c))) ≡ Ok (record { n = n; position = position n c })
  pub place_record : position_of (lent_scratch scratch (of_record (map part_number c))) ≡ Ok (position n c)
  pub chain_at : lent scratch places (at_position n (position n c)) ≡ gives n c
  pub read_word : lent scratch places (of_word (word_of c)) ≡ gives n c
  pub next_chain : position n c + 1 < count n
      → lent scratch places (next_of (of_word (word_of c))) ≡ lent scratch places (at_position n (position n c + 1))
  pub next_last : position n c + 1 ≡ count n → lent scratch places (next_of (of_word (word_of c))) ≡ refused LastOfList
  pub write_word : written_of (map part_number c) (length room) ≡ Ok (length (word_of c))
  pub word_left : letters_left (map part_number c) room (written_of (map part_number c) (length room)) ≡ filled 64 (word_of c) room

pub chain_trips :
    (n : ℕ) (c : List Part) (scratch places room : List ℕ)
    → ChainOf n c
    → n < 2 ^ 64
    → Enough 64 scratch places
    → 64 ≤ length room
    → Trips n c scratch places room
unfolding placed_of position_of
chain_trips n c scratch places room h f e r =
    let served : (o : Outcome) → lent scratch places o ≡ o = λ o. lent_all scratch places o e in
    record {
      read_record = rw (lent_scratch_lem scratch (of_record (map part_number c)) e.numbers, record_chain n c h f);
      place_record = rw (lent_scratch_lem scratch (of_record (map part_number c)) e.numbers, record_chain n c h f);
      chain_at = served (at_position n (position n c)) ∙ at_chain n c h;
      read_word = served (of_word (word_of c)) ∙ of_chain n c h f;
      next_chain = λ l. ap (lent scratch places) (next_below n c h f l);
      next_last = λ l. served (next_of (of_word (word_of c))) ∙ next_last n c h f l;
      write_word = (chain_written n c h f room r).0;
      word_left = (chain_written n c h f room r).1;
    }

-- ---- records and positions

-- What reading a record tells, asked for at that position, gives that record.
pub record_then_position :
    (l s : List ℕ) (n i : ℕ)
    → placed_of (lent_scratch s (of_record l)) ≡ Ok (record { n = n; position = i })
    → (scratch places : List ℕ)
    → Enough 64 scratch places
    → (answer_of (lent scratch places (at_position n i)) ≡ Ok (record { n = n; position = i; k = length l }))
    × (places_left (lent scratch places (at_position n i)) places ≡ filled 64 l places)
unfolding answer_of places_left
record_then_position l s n i e scratch places h =
    placed_gives s (of_record l) n i e λ c given there.
    let (chain, numbers, f) = record_gives l n c given in
    let at : at_position n i ≡ gives n c = rw there at (at_chain n c chain) in
    rw (lent_enough scratch places (at_position n i) (enough 64 scratch places h), at, there, ← numbers, length-map c part_number)
    (refl, refl)

-- What the chain at a position leaves in the places, read as a record, tells that position.
pub position_then_record :
    (n i m j k : ℕ) (scratch places l : List ℕ)
    → n < 2 ^ 64
    → answer_of (lent scratch places (at_position n i)) ≡ Ok (record { n = m; position = j; k = k })
    → take k (places_left (lent scratch places (at_position n i)) places) ≡ l
    → (s : List ℕ)
    → scratch_size ≤ length s
    → (m ≡ n) × (j ≡ i) × (placed_of (lent_scratch s (of_record l)) ≡ Ok (record { n = n; position = i }))
position_then_record n i m j k scratch places l f e first s h =
    found_gives scratch places (at_position n i) m j k e λ c given own there size.
    let (number, chain, at) = at_gives n i m c given in
    let outcome = lent_enough scratch places (at_position n i) own ∙ given ∙ ap (λ (x : ℕ). gives x c) number in (
      number,
      sym there ∙ ap (λ (x : ℕ). position x c) number ∙ at,
      left_record (lent scratch places (at_position n i)) n i k c places l outcome at size first chain f s h,
    )

-- A position is refused with 6 exactly where it is not below the count.
pub position_refused :
    (n i : ℕ) (scratch places : List ℕ)
    → Enough 64 scratch places
    → (answer_of (lent scratch places (at_position n i)) ≡ Err NoSuchPosition) ↔ (count n ≤ i)
position_refused n i scratch places h = Iff.trans (found_refused scratch places h (at_position n i) NoSuchPosition) (at_refused n i)

-- ---- words and records

-- What reading a word leaves in the places, written as a word, is that word.
pub word_then_word :
    (w : Word) (n i k : ℕ) (scratch places l : List ℕ)
    → answer_of (lent scratch places (of_word w)) ≡ Ok (record { n = n; position = i; k = k })
    → take k (places_left (lent scratch places (of_word w)) places) ≡ l
    → (room : List ℕ)
    → 64 ≤ length room
    → (written_of l (length room) ≡ Ok (length w))
    × (letters_left l room (written_of l (length room)) ≡ filled 64 w room)
word_then_word w n i k scratch places l e first room h =
    found_gives scratch places (of_word w) n i k e λ c given own there size.
    let (chain, word, f) = of_gives w n c given in
    let numbers : map part_number c ≡ l =
    rw (lent_enough scratch places (of_word w) own, given, ← size, numbers_left_lem n c places) at first in
    rw (← numbers, ← word) (chain_written n c chain f room h)

-- Read as a record, it tells the word's number and position.
pub word_then_record :
    (w : Word) (n i k : ℕ) (scratch places l : List ℕ)
    → answer_of (lent scratch places (of_word w)) ≡ Ok (record { n = n; position = i; k = k })
    → take k (places_left (lent scratch places (of_word w)) places) ≡ l
    → (s : List ℕ)
    → scratch_size ≤ length s
    → placed_of (lent_scratch s (of_record l)) ≡ Ok (record { n = n; position = i })
word_then_record w n i k scratch places l e first s h =
    found_gives scratch places (of_word w) n i k e λ c given own there size.
    let (chain, word, f) = of_gives w n c given in
    let outcome = lent_enough scratch places (of_word w) own ∙ given in
    left_record (lent scratch places (of_word w)) n i k c places l outcome there size first chain f s h

-- The word written of a record, read, gives that record.
pub record_then_word :
    (l s : List ℕ) (n i k : ℕ) (room : List ℕ) (w : Word)
    → placed_of (lent_scratch s (of_record l)) ≡ Ok (record { n = n; position = i })
    → 64 ≤ length room
    → written_of l (length room) ≡ Ok k
    → take k (letters_left l room (written_of l (length room))) ≡ w
    → (scratch places : List ℕ)
    → Enough 64 scratch places
    → (answer_of (lent scratch places (of_word w)) ≡ Ok (record { n = n; position = i; k = length l }))
    × (places_left (lent scratch places (of_word w)) places ≡ filled 64 l places)
unfolding answer_of places_left
record_then_word l s n i k room w e h told first scratch places g =
    placed_gives s (of_record l) n i e λ c given there.
    let (chain, numbers, f) = record_gives l n c given in
    let (letters, left) = chain_written n c chain f room h in
    let size : length (word_of c) ≡ k = cc (rw numbers at letters) in
    let word : word_of c ≡ w = sym (letters_left_lem n c chain f room h) ∙ rw (← numbers, ← size) at first in
    rw (
      lent_enough scratch places (of_word w) (enough 64 scratch places g),
      ← word,
      of_chain n c chain f,
      there,
      ← numbers,
      length-map c part_number,
    )
    (refl, refl)

-- ---- the next chain

-- What comes next of a word is what stands one position after what reading the word tells.
pub word_then_next :
    (w : Word) (n j k : ℕ) (scratch places : List ℕ)
    → answer_of (lent scratch places (next_of (of_word w))) ≡ Ok (record { n = n; position = j; k = k })
    → (i k' : ℕ) × (answer_of (lent scratch places (of_word w)) ≡ Ok (record { n = n; position = i; k = k' })) × (j ≡ i + 1)
    × (lent scratch places (next_of (of_word w)) ≡ lent scratch places (at_position n j))
unfolding answer_of
word_then_next w n j k scratch places e =
    found_gives scratch places (next_of (of_word w)) n j k e λ c given own there size.
    let (d, word, chain, on) = next_gives w n c given in (
      position n d,
      length d,
      rw (lent_enough scratch places (of_word w) own, word),
      sym there ∙ on,
      ap (lent scratch places) (given ∙ sym (rw there at (at_chain n c chain))),
    )

-- It is refused with 11 exactly where that is the last position.
pub next_refused :
    (w : Word) (n i k : ℕ) (scratch places : List ℕ)
    → answer_of (lent scratch places (of_word w)) ≡ Ok (record { n = n; position = i; k = k })
    → (answer_of (lent scratch places (next_of (of_word w))) ≡ Err LastOfList) ↔ (i + 1 ≡ count n)
unfolding next_of
next_refused w n i k scratch places e =
    found_gives scratch places (of_word w) n i k e λ c given own there size.
    let (chain, word, f) = of_gives w n c given in
    rw (lent_enough scratch places (next_of (of_word w)) own, given, ← there)
    (Iff.trans (answer_refused (after n c) LastOfList) (Iff.trans (after_refused n c chain LastOfList) (λ g. g.1, λ l. (refl, l))))
