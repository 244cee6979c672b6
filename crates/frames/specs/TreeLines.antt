-- Lines of kinds 08 and 09 (document 02, T-05 and T-06). A fit line of kind 08 is served exactly if its letters are the tree word of
-- a chain of n, n at least 1 and below 2^64. A fit line of kind 09 is served exactly if its part numbers are those of such a chain
-- and the two bytes before them are a and b of its largest part.
--
-- In this order: served and refused (`tree_served`, `tree_refused`, `to_tree_served`, `to_tree_refused`); lines made of values;
-- every chain of n (`chain_to_tree`, `tree_to_chain`), also the chain that another line's reply tells (`leads_trees`); from the
-- reply to any line of one of the two kinds to a line of the other and back (`tree_then_to_tree`, `to_tree_then_tree`).
use Rattle.std.specs.Prelude.{Some, Ok}
use Rattle.std.proofs.Math.Path.{◌≡◌, refl, sym, ap}
use Rattle.std.proofs.Common.{◌∙◌, inl, inr, arith}
use Rattle.std.specs.Prelude.{◌↔◌, ◌⊎◌, ℕ, zero, suc, ◌^◌, ◌≤◌, ◌<◌, length}
use Rattle.std.proofs.Math.Logic.{⊎_elim}
use Rattle.std.proofs.Math.Logic.Iff
use mathlib.Core.List.{List, [], map, append-nil}
use Rattle.chains.specs.Chains.{Part, Chained, total, ChainOf}
use Rattle.chains.specs.Words.{Word, word_of}
use Rattle.chains.specs.Listing.{position}
use Rattle.chains.proofs.Bounds.{chain_of_0}
use Rattle.refusals.specs.declared.Refusal.{Refusal}
use Rattle.refusals.specs.declared.Refusal.TheVariants.{UnknownPart, NotChained, TooLarge, NoTreeWord, WrongExponents}
use Rattle.refusals.specs.Refusals.{number_of}
use Rattle.parts.specs.Parts.{part_number}
use Rattle.words.specs.Records.{record_parts, judged_of}
use Rattle.words.specs.RecordLaws.{in_table, judged_sum}
use Rattle.words.specs.WordLaws.{numbers_of_parts, chain_judged}
use Rattle.words.specs.Refusals.{Outside}
use Rattle.ranking.specs.Services.{Outcome, refused, gives}
use Rattle.trees.specs.TreeOf.{tree_of}
use Rattle.trees.specs.Answers.{of_tree, TreeWord, no_tree, tree_word, record_tree}
use Rattle.trees.proofs.AnswerLaws.{tree_gives, TreeRefusals, tree_lifted, tree_refusals, record_tree_lem, record_tree_refusals}
use Rattle.trees.proofs.AnswerLaws.{chain_tree_written, chain_tree_read, tree_short, tree_low}
use Rattle.digits.specs.Digits.{every}
use Rattle.lines.specs.Kinds.{row_of, kind_of}
use Rattle.lines.specs.declared.Kind.TheVariants.{Tree as tree_line, ToTree as to_tree_line}
use Rattle.lines.specs.Lines.{field, fields, items_in, shape_of}
use Rattle.frames.specs.ReplyDigits.{record_digits, record_at, numbers_at, chain_digits, letters_digits, letters_count_at, letters_at}
use Rattle.frames.specs.ReadBack.{Fitting, ChainRead, letters_read}
use Rattle.frames.specs.Replies.{Reply, refused_as, served_with, chain_reply, letters_reply, exponents_in, tells_largest, or_sixteen}
use Rattle.frames.specs.Replies.{served, reply_to}
use Rattle.frames.specs.ServedLaws.{few_numbers, number_low}
use Rattle.frames.specs.ReplyLaws.{reply_fit, served_kind, numbers_fit, reply_read}
use Rattle.frames.specs.LineTrips.{items_line, word_line_of, with_record, record_in, items_reply, record_line_reply}
use Rattle.frames.specs.LineTrips.{Leads, chain_lines, record_of_chain}
use Rattle.frames.specs.RecordLines.{LargestTold, Reaches16, Named, empty_named, empty_told, outcome_refused, served_by, tells}
use Rattle.frames.specs.RecordLines.{line_served, line_before, line_fifteen, line_sixteen, line_only}

-- ---- served and refused

-- A chain of n, a number from 1 to below 2^64.
pub record SomeChain : Type 0 where
  pub n : ℕ
  pub chain : List Part
  pub sums : ChainOf n chain
  pub above : 1 ≤ n
  pub fits : n < 2 ^ 64

-- A line is served with ds, by such a chain. In kind 08 the letters w are the chain's tree word, and ds tells the chain. In kind 09
-- the part numbers l are the chain's, and ds tells the tree word.
pub record TreeReply (w ds : List ℕ) : Type 0 where
  pub of : SomeChain
  pub word : w ≡ tree_of of.chain
  pub digits : ds ≡ chain_digits of.n (position of.n of.chain) (map part_number of.chain)

pub record ToTreeReply (l ds : List ℕ) : Type 0 where
  pub of : SomeChain
  pub numbers : l ≡ map part_number of.chain
  pub digits : ds ≡ letters_digits (tree_of of.chain)

-- By the letters alone, and by the part numbers alone.
module _ (w : Word) where
  word_served : (ds : List ℕ) → (chain_reply (of_tree w) ≡ served_with ds) ↔ TreeReply w ds
  unfolding chain_reply
  word_served ds = (λ e. go (of_tree w) refl e, back)
    where
      back : TreeReply w ds → chain_reply (of_tree w) ≡ served_with ds
      back t =
          let c = t.of in
          rw (t.word, chain_tree_read c.n c.chain c.above c.sums c.fits, t.digits)

      go : (o : Outcome) → of_tree w ≡ o → chain_reply (of_tree w) ≡ served_with ds → TreeReply w ds
      go (refused r) g e =
          let z : ◌≡◌ {A = ℕ} 0 1 = cc (rw g at e) in
          absurd (omega arith)
      go (gives n c) g e =
          let (sums, fits, above, word) = tree_gives w n c g in
          let of : SomeChain = record { n = n; chain = c; sums = sums; above = above; fits = fits } in
          record { of = of; word = sym word; digits = cc (rw g at e) }

module _ (l : List ℕ) where
  letters_served : (ds : List ℕ) → (letters_reply (record_tree l) ≡ served_with ds) ↔ ToTreeReply l ds
  unfolding letters_reply
  letters_served ds = (λ e. go (record_tree l) refl e, back)
    where
      back : ToTreeReply l ds → letters_reply (record_tree l) ≡ served_with ds
      back t =
          let c = t.of in
          rw (t.numbers, chain_tree_written c.n c.chain c.above c.sums c.fits, t.digits)

      go : (t : TreeWord) → record_tree l ≡ t → letters_reply (record_tree l) ≡ served_with ds → ToTreeReply l ds
      go (no_tree r) g e =
          let z : ◌≡◌ {A = ℕ} 0 1 = cc (rw g at e) in
          absurd (omega arith)
      go (tree_word w) g e =
          let (n, c, sums, above, fits, numbers, word) = record_tree_lem l w g in
          let told : ds ≡ letters_digits w = cc (rw g at e) in
          let of : SomeChain = record { n = n; chain = c; sums = sums; above = above; fits = fits } in
          record { of = of; numbers = numbers; digits = rw word at told }

  letters_refused : (r : Refusal) → (letters_reply (record_tree l) ≡ refused_as r) ↔ (record_tree l ≡ no_tree r)
  unfolding letters_reply
  letters_refused r = go (record_tree l)
    where
      go : (t : TreeWord) → (letters_reply t ≡ refused_as r) ↔ (t ≡ no_tree r)
      go (no_tree q) = (λ e. cc, λ e. cc)
      go (tree_word w) = (
        λ e. let z : ◌≡◌ {A = ℕ} 0 1 = cc in absurd (omega arith),
        λ e. let z : ◌≡◌ {A = ℕ} 0 1 = cc in absurd (omega arith),
      )

-- A fit line of kind 08.
module _ (line : List ℕ) (f : shape_of line ≡ Ok tree_line) where
  tree_reply : reply_to line ≡ chain_reply (of_tree (items_in tree_line line))
  unfolding served
  tree_reply = reply_fit line tree_line f

  pub tree_served : (ds : List ℕ) → (reply_to line ≡ served_with ds) ↔ TreeReply (items_in tree_line line) ds
  tree_served ds = Iff.trans ((λ e. sym tree_reply ∙ e), λ e. tree_reply ∙ e) (word_served (items_in tree_line line) ds)

  pub tree_refused : TreeRefusals (items_in tree_line line) (λ r. reply_to line ≡ refused_as r)
  tree_refused =
      tree_lifted (λ r. Iff.trans ((λ e. sym tree_reply ∙ e), λ e. tree_reply ∙ e) (outcome_refused (of_tree (items_in tree_line line)) r))
      (tree_refusals (items_in tree_line line))

zero_or_more : (n : ℕ) → (n ≡ 0) ⊎ (1 ≤ n)
zero_or_more zero = inl refl
zero_or_more (suc n) = inr (omega arith)

-- The refusals, as in RecordLines: those of the record, then 16, then 15.
pub record ToTreeLineRefusals (l : List ℕ) (told : Type 0) (refused : Refusal → Type 0) : Type 0 where
  pub refusal_8 : refused UnknownPart ↔ Outside l
  pub refusal_9 : refused NotChained ↔ ((¬ Outside l) × (¬ Chained (record_parts l)))
  pub refusal_10 : refused TooLarge ↔ ((¬ Outside l) × Chained (record_parts l) × (2 ^ 64 ≤ total (record_parts l)))
  pub refusal_16 : refused WrongExponents ↔ (Named l × (¬ told))
  pub refusal_15 : refused NoTreeWord ↔ (told × (l ≡ []))
  pub no_other : (r : Refusal) → refused r → (r ≡ WrongExponents) ⊎ ((r ≡ UnknownPart) ⊎ ((r ≡ NotChained) ⊎ ((r ≡ TooLarge) ⊎ (r ≡ NoTreeWord))))

-- A fit line of kind 09.
module _ (line : List ℕ) (f : shape_of line ≡ Ok to_tree_line) where
  abbrev numbers : List ℕ
  numbers = items_in to_tree_line line

  -- The reply without the two bytes after the number of parts.
  abbrev plain : Reply
  plain = letters_reply (record_tree numbers)

  to_tree_reply : reply_to line ≡ or_sixteen (tells_largest to_tree_line line) plain
  unfolding served
  to_tree_reply = reply_fit line to_tree_line f

  pub to_tree_served : (ds : List ℕ) → (reply_to line ≡ served_with ds) ↔ (LargestTold to_tree_line line × ToTreeReply numbers ds)
  to_tree_served ds =
      Iff.trans (line_served to_tree_line line plain to_tree_reply ds) (Iff.and Iff.rfl (letters_served numbers ds))

  only : (r : Refusal) → plain ≡ refused_as r → (r ≡ UnknownPart) ⊎ ((r ≡ NotChained) ⊎ ((r ≡ TooLarge) ⊎ (r ≡ NoTreeWord)))
  only r e = (record_tree_refusals numbers).no_other r ((letters_refused numbers r).0 e)

  not_16 : ¬ (plain ≡ refused_as WrongExponents)
  not_16 e =
      ⊎_elim (λ (g : WrongExponents ≡ UnknownPart). omega (arith, ap number_of g))
      (⊎_elim (λ (g : WrongExponents ≡ NotChained). omega (arith, ap number_of g)) (⊎_elim (λ (g : WrongExponents ≡ TooLarge). omega (arith, ap number_of g)) (λ (g : WrongExponents ≡ NoTreeWord). omega (arith, ap number_of g)))) (only WrongExponents e)

  named : Reaches16 plain ↔ Named numbers
  unfolding total
  named = (there, back)
    where
      there : Reaches16 plain → Named numbers
      there =
          ⊎_elim
          (λ (s : (ds : List ℕ) × (plain ≡ served_with ds)).
          let t = (letters_served numbers s.0).0 s.1 in
          let c = t.of in
          (c.n, (judged_sum numbers c.n).0 (ap judged_of t.numbers ∙ chain_judged c.n c.chain c.sums c.fits)))
          (λ (e : plain ≡ refused_as NoTreeWord).
          let none_there = (record_tree_refusals numbers).refusal_15.0 ((letters_refused numbers NoTreeWord).0 e) in
          rw none_there empty_named)

      back : Named numbers → Reaches16 plain
      back (n, b) =
          let same = numbers_of_parts numbers ((in_table numbers).1 b.known) in
          ⊎_elim (λ (z : n ≡ 0). inr ((letters_refused numbers NoTreeWord).1 ((record_tree_refusals numbers).refusal_15.1
          (sym same ∙ ap (map part_number) ((chain_of_0 (record_parts numbers)).0 (rw z at b.chain))))))
          (λ (l : 1 ≤ n).
          let of : SomeChain = record { n = n; chain = record_parts numbers; sums = b.chain; above = l; fits = b.fits } in
          inl (_, (letters_served numbers _).1 (record { of = of; numbers = sym same; digits = refl })))
          (zero_or_more n)

  before : (r : Refusal) → number_of r < 15 → {P : Type 0} → (record_tree numbers ≡ no_tree r) ↔ P → (reply_to line ≡ refused_as r) ↔ P
  before r h p = Iff.trans (line_before to_tree_line line plain to_tree_reply r h) (Iff.trans (letters_refused numbers r) p)

  pub to_tree_refused : ToTreeLineRefusals numbers (LargestTold to_tree_line line) (λ r. reply_to line ≡ refused_as r)
  to_tree_refused =
      let tree = record_tree_refusals numbers in
      record {
        refusal_8 = before UnknownPart (omega arith) tree.refusal_8;
        refusal_9 = before NotChained (omega arith) tree.refusal_9;
        refusal_10 = before TooLarge (omega arith) tree.refusal_10;
        refusal_16 = Iff.trans (line_sixteen to_tree_line line plain to_tree_reply not_16) (Iff.and named Iff.rfl);
        refusal_15 = Iff.trans (line_fifteen to_tree_line line plain to_tree_reply)
            (Iff.and Iff.rfl (Iff.trans (letters_refused numbers NoTreeWord) tree.refusal_15));
        no_other = λ r e.
            ⊎_elim (λ (g : plain ≡ refused_as r). inr (only r g)) (λ (g : r ≡ WrongExponents). inl g)
            (line_only to_tree_line line plain to_tree_reply r e);
      }

  -- No numbers, and other bytes than 0 and 0.
  pub empty_to_tree : numbers ≡ [] → ¬ (exponents_in to_tree_line line ≡ record { a = 0; b = 0 }) → reply_to line ≡ refused_as WrongExponents
  empty_to_tree e n = to_tree_refused.refusal_16.1 (rw e empty_named, λ t. n ((empty_told to_tree_line line e).0 t))

-- ---- lines made of values

-- A tree word, and the digits of a record whose tree word is asked for.
abbrev pub tree_line_of : Word → List ℕ
tree_line_of w = items_line tree_line [] [] w

abbrev pub to_tree_line_of : List ℕ → List ℕ
to_tree_line_of r = with_record to_tree_line [] r

-- What stands in the reply to a line: the part numbers of a chain, and the letters of a tree word.
abbrev pub numbers_told : List ℕ → List ℕ
numbers_told ds = fields ds numbers_at 2 (field ds record_at 1)

abbrev pub letters_told : List ℕ → List ℕ
letters_told ds = fields ds letters_at 1 (field ds letters_count_at 1)

word_reply : (w : Word) → length w ≤ 255 → Fitting 1 w → reply_to (tree_line_of w) ≡ chain_reply (of_tree w)
unfolding served row_of every
word_reply w h fits =
    items_reply tree_line [] [] w 0 0 h refl refl refl refl (omega arith) refl refl (λ (v : Word). chain_reply (of_tree v))
    (λ line. refl) fits

numbers_reply : (l : List ℕ) → length l ≤ 126 → Fitting 2 l → reply_to (to_tree_line_of (record_digits l)) ≡ letters_reply (record_tree l)
unfolding served row_of every
numbers_reply l h values =
    record_line_reply to_tree_line [] l 0 refl refl refl refl (omega arith) refl values (λ (x : List ℕ). letters_reply (record_tree x)) refl

-- ---- every chain of n, n at least 1

module _ (n : ℕ) (c : List Part) (chain : ChainOf n c) (above : 1 ≤ n) (fits : n < 2 ^ 64) where
  letters_fit : Fitting 1 (tree_of c)
  letters_fit = λ i l. omega (arith, tree_low n c above chain i l)

  -- Its record is replied to with its tree word, and its tree word with the chain.
  pub chain_to_tree : reply_to (to_tree_line_of (record_digits (map part_number c))) ≡ served_with (letters_digits (tree_of c))
  unfolding letters_reply
  chain_to_tree =
      numbers_reply (map part_number c) (omega (arith, few_numbers n c chain fits)) (numbers_fit n c chain fits)
      ∙ ap letters_reply (chain_tree_written n c above chain fits)

  pub tree_to_chain : reply_to (tree_line_of (tree_of c)) ≡ served_with (chain_digits n (position n c) (map part_number c))
  unfolding chain_reply
  tree_to_chain =
      word_reply (tree_of c) (omega (arith, tree_short n c above chain fits)) letters_fit
      ∙ ap chain_reply (chain_tree_read n c above chain fits)

  -- Kind 08 replies to the chain's tree word as kind 05 does to its path word.
  pub tree_as_word : reply_to (tree_line_of (tree_of c)) ≡ reply_to (word_line_of (word_of c))
  unfolding chain_reply
  tree_as_word = tree_to_chain ∙ sym (chain_lines n c chain fits).spelled

  -- What stands in the two replies.
  letters_told_lem : letters_told (letters_digits (tree_of c)) ≡ tree_of c
  letters_told_lem =
      let r = letters_read (tree_of c) (omega (arith, tree_short n c above chain fits)) letters_fit in
      rw r.count r.each

  numbers_told_lem : numbers_told (chain_digits n (position n c) (map part_number c)) ≡ map part_number c
  numbers_told_lem =
      let r : ChainRead n (position n c) (map part_number c) (chain_digits n (position n c) (map part_number c)) =
      rw append-nil at (reply_read n c [] chain fits) in
      rw r.parts r.each

-- The chain that a reply ds of the kinds 02 to 06 or 08 tells: its record gets its tree word, and that gets ds.
pub leads_trees : (ds : List ℕ) (l : Leads ds) → 1 ≤ field ds 1 8
    → (reply_to (to_tree_line_of (record_in ds)) ≡ served_with (letters_digits (tree_of l.chain)))
    × (reply_to (tree_line_of (tree_of l.chain)) ≡ served_with ds)
unfolding chain_reply
leads_trees ds l above =
    let n = field ds 1 8 in
    let c = l.chain in
    let same = sym (chain_lines n c l.sums (number_low ds 1)).burned ∙ rw l.record_there at l.burned in (
      rw l.record_there (chain_to_tree n c l.sums above (number_low ds 1)),
      tree_to_chain n c l.sums above (number_low ds 1) ∙ same,
    )

-- ---- from one kind to the other and back

-- ds is the reply to a line of kind 08 with the letters w. The line of kind 09 with the record in ds is served with es, in which w
-- stands. The line of kind 08 with the letters in es is served with ds again.
pub record WordBack (w ds : List ℕ) : Type 0 where
  pub es : List ℕ
  pub asked : reply_to (to_tree_line_of (record_in ds)) ≡ served_with es
  pub same : letters_told es ≡ w
  pub again : reply_to (tree_line_of (letters_told es)) ≡ served_with ds

-- ds is the reply to a line of kind 09 with the part numbers l. The line of kind 08 with the letters in ds is served with es, in
-- which l stands. The line of kind 09 with the record in es is served with ds again.
pub record RecordBack (l ds : List ℕ) : Type 0 where
  pub es : List ℕ
  pub asked : reply_to (tree_line_of (letters_told ds)) ≡ served_with es
  pub same : numbers_told es ≡ l
  pub again : reply_to (to_tree_line_of (record_in es)) ≡ served_with ds

module _ (n : ℕ) (c : List Part) (chain : ChainOf n c) (above : 1 ≤ n) (fits : n < 2 ^ 64) where
  word_back : WordBack (tree_of c) (chain_digits n (position n c) (map part_number c))
  word_back =
      let told = letters_told_lem n c chain above fits in
      record {
        es = letters_digits (tree_of c);
        asked = rw (record_of_chain n (position n c) (map part_number c)) (chain_to_tree n c chain above fits);
        same = told;
        again = rw told (tree_to_chain n c chain above fits);
      }

  record_back : RecordBack (map part_number c) (letters_digits (tree_of c))
  record_back =
      record {
        es = chain_digits n (position n c) (map part_number c);
        asked = rw (letters_told_lem n c chain above fits) (tree_to_chain n c chain above fits);
        same = numbers_told_lem n c chain above fits;
        again = rw (record_of_chain n (position n c) (map part_number c)) (chain_to_tree n c chain above fits);
      }

-- Any line of kind 08 that is served, and any line of kind 09 that is served.
pub tree_then_to_tree : (line ds : List ℕ) → kind_of (field line 0 1) ≡ Some tree_line → reply_to line ≡ served_with ds
    → WordBack (items_in tree_line line) ds
unfolding served
tree_then_to_tree line ds first e =
    let t = (word_served (items_in tree_line line) ds).0 (served_kind line ds tree_line first e) in
    let c = t.of in
    rw (← t.word, ← t.digits) at (word_back c.n c.chain c.sums c.above c.fits)

pub to_tree_then_tree : (line ds : List ℕ) → kind_of (field line 0 1) ≡ Some to_tree_line → reply_to line ≡ served_with ds
    → RecordBack (items_in to_tree_line line) ds
unfolding served
to_tree_then_tree line ds first e =
    let told = (served_by (tells_largest to_tree_line line) (tells to_tree_line line) _ ds).0 (served_kind line ds to_tree_line first e) in
    let t = (letters_served (items_in to_tree_line line) ds).0 told.1 in
    let c = t.of in
    rw (← t.numbers, ← t.digits) at (record_back c.n c.chain c.sums c.above c.fits)
