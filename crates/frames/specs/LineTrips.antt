-- Demand 2, line by line: the reply to one line, made into another line, leads back.
--
-- In this order: lines made of values; that they are fit, and hold those values; the replies to all lines about one chain of n
-- (`chain_lines`); from the reply to any line of kinds 03 to 06 and 08 to the lines of kinds 03 and 04 about the chain that it
-- gives (`reply_leads`, `record_then_at`, `at_then_record`).
-- Kind 02 is in BestLines; kinds 08 and 09 are in TreeLines. The same of the services' answers is in ranking, RoundTrips.
use Rattle.std.specs.Prelude.{Some}
use Rattle.std.specs.Prelude.{◌≡◌, true, ℕ, ◌+◌, ◌*◌, ◌^◌, ◌≤◌, ◌<◌, T, drop}
use Rattle.std.proofs.Math.Path.{refl, ap}
use Rattle.std.proofs.Common.{sym, ◌∙◌, ⊎_elim, length-append}
use mathlib.Core.List.{List, [], map, ◌++◌, append-nil, append_assoc}
use Rattle.std.proofs.Math.Nat.{mul_assoc, add-zero}
use native.Mathlib.Omega.{arith}
use Rattle.std.proofs.Math.ListN.{length}
use Rattle.std.proofs.lemmas.List.{length-map}
use Rattle.std.proofs.Math.Seq.{drop-append-add}
use Rattle.chains.specs.Chains.{Part, ChainOf}
use Rattle.chains.specs.Words.{Word, word_of, Good, Spelled, reads}
use Rattle.chains.specs.Listing.{count, position}
use Rattle.chains.proofs.Readers.{readers_good}
use Rattle.chains.proofs.RoundTrip.{word_reads}
use Rattle.chains.proofs.Bounds.{word_bound, parts_bound}
use Rattle.refusals.specs.declared.Refusal.TheVariants.{NoSuchPosition, LastOfList}
use Rattle.refusals.specs.declared.Refusal.{Refusal}
use Rattle.parts.specs.Parts.{part_number, largest_part, largest_of}
use Rattle.parts.proofs.Largest.{same_part_lem}
use Rattle.ranking.specs.Services.{Outcome, refused, gives, at_position, of_word, next_of, of_record}
use Rattle.ranking.specs.Outcomes.{at_past, at_chain, of_chain, next_below, next_last, record_chain}
use Rattle.digits.specs.Digits.{is_digit, every, all_digits, digits_of}
use Rattle.digits.proofs.DigitLaws.{every_append, length_digits, all_digits_digits}
use Rattle.lines.specs.Kinds.{row_of, kind_of}
use Rattle.lines.specs.declared.Kind.{Kind}
use Rattle.lines.specs.declared.Kind.TheVariants.{At as at_line, Record as record_line, Word as word_line, Next as next_line}
use Rattle.lines.specs.Lines.{field, fields, count_in, bytes_in, items_in, Fit}
use Rattle.lines.proofs.LineLaws.{line_fit, kind_byte, row_small}
use Rattle.frames.specs.ReplyDigits.{values_digits, largest_digits, record_digits, head_digits, position_at, record_at, largest_at}
use Rattle.frames.specs.ReplyDigits.{chain_digits}
use Rattle.frames.specs.ReplyDigitLaws.{length_values, length_largest, length_head, every_values}
use Rattle.frames.specs.ReadBack.{Fitting, field_after, field_first, fields_after, fields_first, a_read, b_read, ChainRead}
use Rattle.frames.specs.Replies.{Reply, refused_as, served_with, chain_reply, exponents_from, exponents_in, tells_largest}
use Rattle.frames.specs.Replies.{or_sixteen, served, reply_row_of, reply_to}
use Rattle.frames.specs.ServedLaws.{Sound, sixteen_right, made}
use Rattle.frames.specs.ReplyLaws.{reply_fit, served_kind, numbers_fit, position_low, reply_read, reply_largest}

-- ---- lines made of values

-- 03, n, a position.
unfoldable pub at_line_of : ℕ → ℕ → List ℕ
at_line_of n i = digits_of 2 (row_of at_line).byte ++ (digits_of 16 n ++ digits_of 16 i)

-- A line with items: its kind, what stands before the count, how many items there are, what stands after the count, the items.
unfoldable pub items_line : Kind → List ℕ → List ℕ → List ℕ → List ℕ
items_line k front mid xs =
    digits_of 2 (row_of k).byte ++ (front ++ (digits_of 2 (length xs) ++ (mid ++ values_digits (row_of k).width xs)))

-- A word, a word for the next chain: nothing else stands before the letters.
abbrev pub word_line_of : Word → List ℕ
word_line_of w = items_line word_line [] [] w

abbrev pub next_line_of : Word → List ℕ
next_line_of w = items_line next_line [] [] w

-- A line with a record: its kind, what stands before the record, the digits of the record.
abbrev pub with_record : Kind → List ℕ → List ℕ → List ℕ
with_record k front r = digits_of 2 (row_of k).byte ++ (front ++ r)

-- A burned record: 04 and its digits.
abbrev pub record_line_of : List ℕ → List ℕ
record_line_of r = with_record record_line [] r

-- The digits of the record in a chain's reply: all from the number of parts on.
abbrev pub record_in : List ℕ → List ℕ
record_in ds = drop (2 * record_at) ds

-- ---- they are fit, and hold the values

-- The first byte of a line is its kind's.
first_byte : (k : Kind) (l : List ℕ) → kind_of (field (digits_of 2 (row_of k).byte ++ l) 0 1) ≡ Some k
first_byte k l = ap kind_of (field_first 1 (row_of k).byte l (omega (arith, (row_small k).byte_fits))) ∙ kind_byte k

-- A line of kind 03.
module _ (n i : ℕ) where
  length_at : length (at_line_of n i) ≡ 34
  unfolding at_line_of
  length_at = simp (length-append, length_digits)

  at_fit : Fit (at_line_of n i) at_line
  unfolding at_line_of bytes_in row_of
  at_fit =
      record {
        proper = record { some_there = omega (arith, length_at); even = omega (arith, length_at); most = omega (arith, length_at) };
        digits = simp (every_append, all_digits_digits);
        kind = first_byte at_line (digits_of 16 n ++ digits_of 16 i);
        long = omega (arith, length_at);
      }

  at_number : n < 2 ^ 64 → field (at_line_of n i) 1 8 ≡ n
  unfolding at_line_of
  at_number f =
      field_after 1 0 8 (digits_of 2 (row_of at_line).byte) (digits_of 16 n ++ digits_of 16 i) (length_digits 2 (row_of at_line).byte)
      ∙ field_first 8 n (digits_of 16 i) (omega arith)

  at_position_lem : i < 2 ^ 64 → field (at_line_of n i) 9 8 ≡ i
  unfolding at_line_of
  at_position_lem f =
      field_after 1 8 8 (digits_of 2 (row_of at_line).byte) (digits_of 16 n ++ digits_of 16 i) (length_digits 2 (row_of at_line).byte)
      ∙ field_after 8 0 8 (digits_of 16 n) (digits_of 16 i) (length_digits 16 n)
      ∙ ap (λ (l : List ℕ). field l 0 8) (sym (append-nil (digits_of 16 i)))
      ∙ field_first 8 i [] (omega arith)

  at_reply : n < 2 ^ 64 → i < 2 ^ 64 → reply_to (at_line_of n i) ≡ chain_reply (at_position n i)
  unfolding served
  at_reply f g = reply_fit (at_line_of n i) at_line (line_fit (at_line_of n i) at_line at_fit) ∙ rw (at_number f, at_position_lem g)

-- A line with items, as many as fit into it. f bytes stand before the count, and m after it.
module _ (k : Kind) (front mid xs : List ℕ) (f m : ℕ) (few : length xs ≤ 255)
    (front_long : length front ≡ 2 * f) (mid_long : length mid ≡ 2 * m) (count_place : (row_of k).count_at ≡ 1 + f)
    (items_place : (row_of k).before ≡ 1 + f + 1 + m)
    (short : 1 + f + 1 + m + (row_of k).width * length xs ≤ 257) (front_digits : all_digits front ≡ true)
    (mid_digits : all_digits mid ≡ true) where
  abbrev width : ℕ
  width = (row_of k).width

  length_items : length (items_line k front mid xs) ≡ 2 * (1 + f + 1 + m + width * length xs)
  unfolding items_line
  length_items =
      simp (length-append, length_digits, length_values, front_long, mid_long) (omega (arith, mul_assoc 2 width (length xs)))

  items_count : count_in k (items_line k front mid xs) ≡ length xs
  unfolding items_line count_in
  items_count =
      let rest = mid ++ values_digits width xs in
      rw count_place
      (field_after 1 f 1 (digits_of 2 (row_of k).byte) (front ++ (digits_of 2 (length xs) ++ rest)) (length_digits 2 (row_of k).byte)
      ∙ rw (← add-zero f) (field_after f 0 1 front (digits_of 2 (length xs) ++ rest) front_long)
      ∙ field_first 1 (length xs) rest (omega arith))

  pub items_line_fit : Fit (items_line k front mid xs) k
  unfolding items_line bytes_in
  items_line_fit =
      let n = length_items in
      record {
        proper = record { some_there = omega arith; even = omega arith; most = omega arith };
        digits = simp (every_append, all_digits_digits, every_values is_digit all_digits_digits, front_digits, mid_digits);
        kind = first_byte k (front ++ (digits_of 2 (length xs) ++ (mid ++ values_digits width xs)));
        long = n ∙ rw (items_count, items_place);
      }

  pub items_values : Fitting width xs → items_in k (items_line k front mid xs) ≡ xs
  unfolding items_in items_line
  items_values fits =
      let a = digits_of 2 (row_of k).byte in
      let b = digits_of 2 (length xs) in
      let head = a ++ front ++ b ++ mid in
      let whole : a ++ (front ++ (b ++ (mid ++ values_digits width xs))) ≡ head ++ values_digits width xs = simp append_assoc in
      let long : length head ≡ 2 * (1 + f + 1 + m) = simp (length-append, length_digits, front_long, mid_long) (omega arith) in
      let at : (row_of k).before ≡ 1 + f + 1 + m + 0 = omega arith in
      rw (items_count, at, whole)
      (fields_after (1 + f + 1 + m) 0 width (length xs) head (values_digits width xs) long
      ∙ ap (λ (l : List ℕ). fields l 0 width (length xs)) (sym (append-nil (values_digits width xs)))
      ∙ fields_first width xs [] fits)

  -- Where the reply depends on the items alone, it is that to the values.
  pub items_reply : (reply : List ℕ → Reply) → ((line : List ℕ) → served k line ≡ reply (items_in k line)) → Fitting width xs
      → reply_to (items_line k front mid xs) ≡ reply xs
  items_reply reply e fits =
      reply_fit (items_line k front mid xs) k (line_fit (items_line k front mid xs) k items_line_fit)
      ∙ e (items_line k front mid xs)
      ∙ ap reply (items_values fits)

-- A line with the record of the numbers l, and f bytes before it. It tells the exponents of the largest part.
module _ (k : Kind) (front l : List ℕ) (f : ℕ) (wide : (row_of k).width ≡ 2) (front_long : length front ≡ 2 * f)
    (count_place : (row_of k).count_at ≡ 1 + f) (items_place : (row_of k).before ≡ 1 + f + 1 + 2)
    (short : 1 + f + 1 + 2 + 2 * length l ≤ 257) (front_digits : all_digits front ≡ true) (values : Fitting 2 l) where
  abbrev line : List ℕ
  line = with_record k front (record_digits l)

  as_items : line ≡ items_line k front (largest_digits l) l
  unfolding items_line record_digits
  as_items = rw wide

  largest_written : all_digits (largest_digits l) ≡ true
  largest_written = simp (every_append, all_digits_digits)

  record_fit : Fit line k
  record_fit =
      rw as_items
      (items_line_fit k front (largest_digits l) l f 2 (omega arith) front_long (length_largest l) count_place items_place
      (rw wide short) front_digits largest_written)

  record_values : items_in k line ≡ l
  record_values =
      rw as_items
      (items_values k front (largest_digits l) l f 2 (omega arith) front_long (length_largest l) count_place items_place
      (rw wide short) front_digits largest_written (rw wide values))

  record_told : exponents_in k line ≡ largest_of l
  unfolding exponents_from
  record_told =
      let head = digits_of 2 (row_of k).byte ++ front in
      let long : length head ≡ 2 * (1 + f) = simp (length-append, length_digits, front_long) (omega arith) in
      let whole : line ≡ head ++ (record_digits l ++ []) = simp (append_assoc, append-nil) in
      let at : (i : ℕ) → field line (1 + f + i) 1 ≡ field (record_digits l ++ []) i 1 =
      λ i. rw whole (field_after (1 + f) i 1 head (record_digits l ++ []) long) in
      let b_at : 1 + f + 1 + 1 ≡ 1 + f + 2 = omega arith in
      rw (count_place, b_at, at 1, at 2, a_read l [] (omega arith), b_read l [] (omega arith))

  tells_largest_lem : tells_largest k line ≡ true
  tells_largest_lem = rw (record_told, record_values) ((same_part_lem (largest_of l) (largest_of l)).1 refl)

  -- Its reply is that to its numbers.
  pub record_line_reply : (reply : List ℕ → Reply) → served k line ≡ or_sixteen (tells_largest k line) (reply (items_in k line))
      → reply_to line ≡ reply l
  record_line_reply reply e =
      reply_fit line k (line_fit line k record_fit) ∙ e ∙ sixteen_right _ _ tells_largest_lem ∙ ap reply record_values

-- The replies to a record, a word, and a word for the next chain.
pub record_reply : (l : List ℕ) → length l ≤ 126 → Fitting 2 l → reply_to (record_line_of (record_digits l)) ≡ chain_reply (of_record l)
unfolding served row_of every
record_reply l h values =
    record_line_reply record_line [] l 0 refl refl refl refl (omega arith) refl values (λ (x : List ℕ). chain_reply (of_record x)) refl

module _ (w : Word) (h : length w ≤ 255) (fits : Fitting 1 w) where
  pub word_reply : reply_to (word_line_of w) ≡ chain_reply (of_word w)
  unfolding served row_of every
  word_reply =
      items_reply word_line [] [] w 0 0 h refl refl refl refl (omega arith) refl refl
      (λ (l : Word). chain_reply (of_word l)) (λ line. refl) fits

  pub next_reply : reply_to (next_line_of w) ≡ chain_reply (next_of (of_word w))
  unfolding served row_of every
  next_reply =
      items_reply next_line [] [] w 0 0 h refl refl refl refl (omega arith) refl refl
      (λ (l : Word). chain_reply (next_of (of_word l))) (λ line. refl) fits

-- ---- all lines about one chain

letters_fit : (w : Word) → T (reads true w) → Fitting 1 w
unfolding Good
letters_fit w h =
    ⊎_elim (λ (e : w ≡ []). λ i l. absurd (omega (arith, ap length e))) (λ (s : Spelled w). λ i l. omega (arith, s.letters i l))
    ((readers_good w).0 h)

-- The replies to the lines about a chain c of n: at its position, by its record, by its word; and what comes after it.
pub record ChainLines (n : ℕ) (c : List Part) : Type 0 where
  pub placed : reply_to (at_line_of n (position n c)) ≡ chain_reply (gives n c)
  pub burned : reply_to (record_line_of (record_digits (map part_number c))) ≡ chain_reply (gives n c)
  pub spelled : reply_to (word_line_of (word_of c)) ≡ chain_reply (gives n c)
  pub followed : position n c + 1 < count n → reply_to (next_line_of (word_of c)) ≡ reply_to (at_line_of n (position n c + 1))
  pub last : position n c + 1 ≡ count n → reply_to (next_line_of (word_of c)) ≡ refused_as LastOfList

pub chain_lines : (n : ℕ) (c : List Part) → ChainOf n c → n < 2 ^ 64 → ChainLines n c
unfolding chain_reply
chain_lines n c h f =
    let low = position_low n c h f in
    let few : length (map part_number c) ≤ 126 = omega (arith, length-map c part_number, parts_bound n 64 c h f) in
    let short : length (word_of c) ≤ 255 = omega (arith, word_bound n 64 c h f) in
    let fit = letters_fit (word_of c) (word_reads c) in
    record {
      placed = at_reply n (position n c) f (omega arith) ∙ ap chain_reply (at_chain n c h);
      burned = record_reply (map part_number c) few (numbers_fit n c h f) ∙ ap chain_reply (record_chain n c h f);
      spelled = word_reply (word_of c) short fit ∙ ap chain_reply (of_chain n c h f);
      followed = λ l. next_reply (word_of c) short fit ∙ ap chain_reply (next_below n c h f l)
          ∙ sym (at_reply n (position n c + 1) f low);
      last = λ l. next_reply (word_of c) short fit ∙ ap chain_reply (next_last n c h f l);
    }

-- A position that is not below the count.
pub past_count : (n i : ℕ) → n < 2 ^ 64 → i < 2 ^ 64 → count n ≤ i → reply_to (at_line_of n i) ≡ refused_as NoSuchPosition
unfolding chain_reply
past_count n i f g l = at_reply n i f g ∙ rw (at_past n i l)

-- ---- from a reply to other lines

-- n and the record of one of its chains stand in ds, with a and b of the chain's largest part after the number of parts. The lines of
-- kinds 03 and 04 made of what stands there, n and position or the bytes from the number of parts on, are served with ds.
pub record Leads (ds : List ℕ) : Type 0 where
  pub chain : List Part
  pub sums : ChainOf (field ds 1 8) chain
  pub record_there : record_in ds ≡ record_digits (map part_number chain)
  pub largest_a : field ds largest_at 1 ≡ (largest_part chain).a
  pub largest_b : field ds (largest_at + 1) 1 ≡ (largest_part chain).b
  pub placed : reply_to (at_line_of (field ds 1 8) (field ds position_at 8)) ≡ served_with ds
  pub burned : reply_to (record_line_of (record_in ds)) ≡ served_with ds

-- The record of a chain's reply.
pub record_of_chain : (n position : ℕ) (numbers : List ℕ) → record_in (chain_digits n position numbers) ≡ record_digits numbers
unfolding chain_digits
record_of_chain n position numbers =
    rw (← length_head n position, ← add-zero (length (head_digits n position)))
    (drop-append-add (head_digits n position) (record_digits numbers) 0)

pub chain_leads : (n : ℕ) (c : List Part) → ChainOf n c → n < 2 ^ 64 → Leads (chain_digits n (position n c) (map part_number c))
unfolding chain_reply
chain_leads n c h f =
    let ds = chain_digits n (position n c) (map part_number c) in
    let r : ChainRead n (position n c) (map part_number c) ds = rw append-nil at (reply_read n c [] h f) in
    let l = chain_lines n c h f in
    let there = record_of_chain n (position n c) (map part_number c) in
    let largest : (field ds largest_at 1 ≡ (largest_part c).a) × (field ds (largest_at + 1) 1 ≡ (largest_part c).b) =
    rw append-nil at (reply_largest n c [] h f) in
    record {
      chain = c;
      sums = rw r.number h;
      record_there = there;
      largest_a = largest.0;
      largest_b = largest.1;
      placed = rw (r.number, r.position_read) l.placed;
      burned = rw there l.burned;
    }

outcome_leads : (rs : List Refusal) (o : Outcome) → Sound rs o → (ds : List ℕ) → chain_reply o ≡ served_with ds → Leads ds
unfolding chain_reply
outcome_leads rs (refused r) s ds e = let z : ◌≡◌ {A = ℕ} 0 1 = cc in absurd (omega arith)
outcome_leads rs (gives n c) s ds e =
    let same : chain_digits n (position n c) (map part_number c) ≡ ds = cc in
    rw same at (chain_leads n c s.0 s.1)

-- So do all replies of the kinds 03, 04, 05, 06 and 08.
pub reply_leads : (line ds : List ℕ) (k : Kind) → kind_of (field line 0 1) ≡ Some k → T (reply_row_of k).ends_with_chain
    → reply_to line ≡ served_with ds → Leads ds
reply_leads line ds k first t e =
    let (o, sound, f) = (made k line).chain t in
    outcome_leads _ o sound ds (sym f ∙ served_kind line ds k first e)

-- A burned record in particular: what its reply tells, asked for at that position, gets the same digits.
pub record_then_at : (r ds : List ℕ) → reply_to (record_line_of r) ≡ served_with ds
    → reply_to (at_line_of (field ds 1 8) (field ds position_at 8)) ≡ served_with ds
unfolding reply_row_of
record_then_at r ds e = (reply_leads (record_line_of r) ds record_line (first_byte record_line _) tt e).placed

-- And back: the bytes from the number of parts on in the reply at a position, as a burned record, get the same digits.
pub at_then_record : (n i : ℕ) (ds : List ℕ) → reply_to (at_line_of n i) ≡ served_with ds → reply_to (record_line_of (record_in ds)) ≡ served_with ds
unfolding at_line_of reply_row_of
at_then_record n i ds e = (reply_leads (at_line_of n i) ds at_line (first_byte at_line _) tt e).burned
