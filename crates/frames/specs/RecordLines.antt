-- Lines with a record, of kinds 04, 07 and 09 (document 02, T-06): a and b of its largest part stand after k, and 16 is the refusal
-- where other bytes stand there.
--
-- In this order: how 16 stands to what else such a line gets, one law for the three kinds; lines of kind 04, served and refused
-- (`record_served`, `record_refused`); lengths of lines of the three kinds. Lines of kinds 07 and 09 are in RunLines and TreeLines.
use Rattle.std.specs.Prelude.{Some, Result, Ok, Err}
use Rattle.std.proofs.Math.Path.{◌≡◌, refl, sym}
use Rattle.std.proofs.Common.{ap, ◌∙◌, inl, inr, ⊎_elim, arith, eqb-true}
use Rattle.std.specs.Prelude.{◌↔◌, ◌⊎◌, Bool, cond, List, [], map, ℕ, ◌+◌, ◌*◌, ◌^◌, ◌≤◌, ◌<◌, eqb, length}
use Rattle.std.proofs.Math.Logic.Iff
use Rattle.std.proofs.Math.Bool.{true, false}
use Rattle.std.proofs.lemmas.Bool.{eqb-false}
use Rattle.chains.specs.Chains.{Chained, total}
use Rattle.chains.specs.Listing.{position}
use Rattle.refusals.specs.declared.Refusal.{Refusal}
use Rattle.refusals.specs.declared.Refusal.TheVariants.{BadLength, UnknownPart, NotChained, TooLarge, NoTreeWord, WrongExponents}
use Rattle.refusals.specs.Refusals.{number_of}
use Rattle.refusals.proofs.Numbers.{same_number}
use Rattle.parts.specs.Parts.{part_number, largest_part, largest_of}
use Rattle.parts.proofs.Largest.{largest_of_parts, same_part_lem}
use Rattle.words.specs.Records.{record_parts, InTable, Burned, judged_of}
use Rattle.words.specs.RecordLaws.{in_table, judged_sum}
use Rattle.words.specs.WordLaws.{numbers_of_parts, chain_judged}
use Rattle.words.specs.Refusals.{Outside}
use Rattle.ranking.specs.Services.{Outcome, refused, gives, judged_as, of_record}
use Rattle.ranking.specs.Refusals.{record_refusals}
use Rattle.digits.specs.Digits.{all_digits}
use Rattle.lines.specs.Kinds.{row_of, kind_of}
use Rattle.lines.specs.declared.Kind.{Kind}
use Rattle.lines.specs.declared.Kind.TheVariants.{Record as record_line, Run as run_line, ToTree as to_tree_line}
use Rattle.lines.specs.Lines.{field, count_in, bytes_in, items_in, bad_length, shape_of}
use Rattle.lines.proofs.LineLaws.{length_proper, unfit_length, shape_kind, unfit_kind_length}
use Rattle.frames.specs.ReplyDigits.{chain_digits}
use Rattle.frames.specs.Replies.{Reply, refused_as, served_with, chain_reply, exponents_in, tells_largest, or_sixteen}
use Rattle.frames.specs.Replies.{served, reply_by_shape, reply_to}
use Rattle.frames.specs.ReplyLaws.{reply_fit}

-- ---- 16 and what else such a line gets

-- The line's two bytes are a and b of the largest part of its record.
abbrev pub LargestTold : Kind → List ℕ → Type 0
LargestTold k line = exponents_in k line ≡ largest_of (items_in k line)

pub tells : (k : Kind) (line : List ℕ) → (tells_largest k line ≡ true) ↔ LargestTold k line
tells k line = same_part_lem (exponents_in k line) (largest_of (items_in k line))

-- A refusal has one number, and is no reply that serves; false is not true.
number_of_lem : {q r : Refusal} → refused_as q ≡ refused_as r → q ≡ r
number_of_lem e = cc

not_served : {r : Refusal} {ds : List ℕ} → refused_as r ≡ served_with ds → ⊥
not_served e = let z : ◌≡◌ {A = ℕ} 0 1 = cc in omega arith

never : {P : Type 0} → (false ≡ true) ↔ P → ¬ P
never right p = let f = right.1 p in let z : ◌≡◌ {A = ℕ} 0 1 = cc in omega arith

-- The line is served as x says, where the two bytes are right, as P says.
pub served_by : {P : Type 0} (b : Bool) → (b ≡ true) ↔ P → (x : Reply) (ds : List ℕ)
    → (or_sixteen b x ≡ served_with ds) ↔ (P × (x ≡ served_with ds))
unfolding or_sixteen
served_by true right x ds = (λ e. (right.0 refl, e), λ h. h.1)
served_by false right (served_with es) ds = (λ e. absurd (not_served e), λ h. absurd (never right h.0))
served_by false right (refused_as r) ds = (λ e. absurd (not_served e), λ h. absurd (never right h.0))

-- It is refused as x says, but for 15 and 16.
refused_before : (b : Bool) (x : Reply) (r : Refusal) → ¬ (r ≡ NoTreeWord) → ¬ (r ≡ WrongExponents) → (or_sixteen b x ≡ refused_as r) ↔ (x ≡ refused_as r)
unfolding or_sixteen
refused_before true x r h g = ((λ e. e), λ e. e)
refused_before false (served_with ds) r h g = (λ e. absurd (g (sym (number_of_lem e))), λ e. absurd (not_served (sym e)))
refused_before false (refused_as q) r h g = go (eqb (number_of q) 15) refl
  where
    go : (t : Bool) → eqb (number_of q) 15 ≡ t → (refused_as (cond t WrongExponents q) ≡ refused_as r) ↔ (refused_as q ≡ refused_as r)
    go true t = (λ e. absurd (g (sym (number_of_lem e))), λ e. absurd (h (sym (number_of_lem e) ∙ same_number q NoTreeWord (eqb-true (number_of q) 15 t))))
    go false t = ((λ e. e), λ e. e)

-- With 15 where x says so and the bytes are right.
refused_15 : {P : Type 0} (b : Bool) → (b ≡ true) ↔ P → (x : Reply) → (or_sixteen b x ≡ refused_as NoTreeWord) ↔ (P × (x ≡ refused_as NoTreeWord))
unfolding or_sixteen
refused_15 true right x = (λ e. (right.0 refl, e), λ h. h.1)
refused_15 false right (served_with ds) = (λ e. absurd (omega (arith, ap number_of (number_of_lem e))), λ h. absurd (never right h.0))
refused_15 {P} false right (refused_as q) = go (eqb (number_of q) 15) refl
  where
    go : (t : Bool) → eqb (number_of q) 15 ≡ t → (refused_as (cond t WrongExponents q) ≡ refused_as NoTreeWord) ↔ (P × (refused_as q ≡ refused_as NoTreeWord))
    go true t = (λ e. absurd (omega (arith, ap number_of (number_of_lem e))), λ h. absurd (never right h.0))
    go false t = (λ e. absurd (eqb-false (number_of q) 15 t (ap number_of (number_of_lem e))), λ h. absurd (never right h.0))

-- With 16 where they are wrong and x reaches that test: it serves, or it is 15. And with no number but 16 and those of x.
abbrev pub Reaches16 : Reply → Type 0
Reaches16 x = ((ds : List ℕ) × (x ≡ served_with ds)) ⊎ (x ≡ refused_as NoTreeWord)

refused_16 : {P : Type 0} (b : Bool) → (b ≡ true) ↔ P → (x : Reply) → ¬ (x ≡ refused_as WrongExponents)
    → (or_sixteen b x ≡ refused_as WrongExponents) ↔ (Reaches16 x × (¬ P))
unfolding or_sixteen
refused_16 true right x n = (λ e. absurd (n e), λ h. absurd (h.1 (right.0 refl)))
refused_16 false right (served_with ds) n = (λ e. (inl (ds, refl), never right), λ h. refl)
refused_16 {P} false right (refused_as q) n = go (eqb (number_of q) 15) refl
  where
    go : (t : Bool) → eqb (number_of q) 15 ≡ t → (refused_as (cond t WrongExponents q) ≡ refused_as WrongExponents) ↔ (Reaches16 (refused_as q) × (¬ P))
    go true t = (λ e. (inr (ap refused_as (same_number q NoTreeWord (eqb-true (number_of q) 15 t))), never right), λ h. refl)
    go false t = (
      λ e. absurd (n e),
      λ h.
          ⊎_elim (λ (s : (ds : List ℕ) × (refused_as q ≡ served_with ds)). absurd (not_served s.1))
          (λ (f : refused_as q ≡ refused_as NoTreeWord). absurd (eqb-false (number_of q) 15 t (ap number_of (number_of_lem f)))) h.0,
    )

refused_only : (b : Bool) (x : Reply) (r : Refusal) → or_sixteen b x ≡ refused_as r → (x ≡ refused_as r) ⊎ (r ≡ WrongExponents)
unfolding or_sixteen
refused_only true x r e = inl e
refused_only false (served_with ds) r e = inr (sym (number_of_lem e))
refused_only false (refused_as q) r e = go (eqb (number_of q) 15) e
  where
    go : (t : Bool) → refused_as (cond t WrongExponents q) ≡ refused_as r → (refused_as q ≡ refused_as r) ⊎ (r ≡ WrongExponents)
    go true f = inr (sym (number_of_lem f))
    go false f = inl f

-- A fit line with a record, whose reply without the two bytes is `plain`.
module _ (k : Kind) (line : List ℕ) (plain : Reply) (reply : reply_to line ≡ or_sixteen (tells_largest k line) plain) where
  as_reply : {y : Reply} {P : Type 0} → (or_sixteen (tells_largest k line) plain ≡ y) ↔ P → (reply_to line ≡ y) ↔ P
  as_reply h = (λ e. h.0 (sym reply ∙ e), λ p. reply ∙ h.1 p)

  pub line_served : (ds : List ℕ) → (reply_to line ≡ served_with ds) ↔ (LargestTold k line × (plain ≡ served_with ds))
  line_served ds = as_reply (served_by (tells_largest k line) (tells k line) plain ds)

  pub line_before : (r : Refusal) → number_of r < 15 → (reply_to line ≡ refused_as r) ↔ (plain ≡ refused_as r)
  line_before r h = as_reply (refused_before (tells_largest k line) plain r (λ e. omega (arith, ap number_of e)) (λ e. omega (arith, ap number_of e)))

  pub line_fifteen : (reply_to line ≡ refused_as NoTreeWord) ↔ (LargestTold k line × (plain ≡ refused_as NoTreeWord))
  line_fifteen = as_reply (refused_15 (tells_largest k line) (tells k line) plain)

  pub line_sixteen : ¬ (plain ≡ refused_as WrongExponents) → (reply_to line ≡ refused_as WrongExponents) ↔ (Reaches16 plain × (¬ LargestTold k line))
  line_sixteen n = as_reply (refused_16 (tells_largest k line) (tells k line) plain n)

  pub line_only : (r : Refusal) → reply_to line ≡ refused_as r → (plain ≡ refused_as r) ⊎ (r ≡ WrongExponents)
  line_only r e = refused_only (tells_largest k line) plain r (sym reply ∙ e)

-- ---- lines of kind 04

-- The numbers l name a chain of a number below 2^64.
abbrev pub Named : List ℕ → Type 0
Named l = (n : ℕ) × Burned l n

-- The two bytes of numbers that name a chain must be a and b of its largest part.
pub told_part : (k : Kind) (line : List ℕ) → Named (items_in k line)
    → LargestTold k line ↔ (exponents_in k line ≡ largest_part (record_parts (items_in k line)))
unfolding record_parts InTable
told_part k line (n, b) =
    let same = largest_of_parts (items_in k line) (b.known 0) in
    (λ t. t ∙ same, λ t. t ∙ sym same)

-- No numbers name the chain of 0, and their two bytes must be 0 and 0.
pub empty_named : Named []
unfolding total
empty_named = (0, (judged_sum [] 0).0 (chain_judged 0 [] (record { chained = tt; sums = refl }) (omega arith)))

pub empty_told : (k : Kind) (line : List ℕ) → items_in k line ≡ [] → LargestTold k line ↔ (exponents_in k line ≡ record { a = 0; b = 0 })
unfolding largest_of largest_part
empty_told k line e = (λ t. rw e at t, λ t. rw e t)

-- The reply to a service's outcome is a refusal exactly if the outcome is.
pub outcome_refused : (o : Outcome) (r : Refusal) → (chain_reply o ≡ refused_as r) ↔ (o ≡ refused r)
unfolding chain_reply
outcome_refused (refused q) r = (λ e. cc, λ e. cc)
outcome_refused (gives n c) r = (
  λ e. let z : ◌≡◌ {A = ℕ} 0 1 = cc in absurd (omega arith),
  λ e. let z : ◌≡◌ {A = ℕ} 0 1 = cc in absurd (omega arith),
)

-- The chain of a record and its digits.
pub record RecordReply (l ds : List ℕ) : Type 0 where
  pub n : ℕ
  pub burned : Burned l n
  pub digits : ds ≡ chain_digits n (position n (record_parts l)) l

module _ (l ds : List ℕ) where
  by_judged : (j : Result ℕ Refusal) → judged_of l ≡ j → (chain_reply (judged_as l j) ≡ served_with ds) ↔ RecordReply l ds
  unfolding chain_reply judged_as
  by_judged (Err r) g = (
    λ e. let z : ◌≡◌ {A = ℕ} 0 1 = cc in absurd (omega arith),
    λ t. let h = sym g ∙ (judged_sum l t.n).1 t.burned in
        let z : ◌≡◌ {A = ℕ} 0 1 = cc in absurd (omega arith),
  )
  by_judged (Ok n) g =
      let burned = (judged_sum l n).0 g in
      let same = numbers_of_parts l ((in_table l).1 burned.known) in (
        λ e. let d : chain_digits n (position n (record_parts l)) (map part_number (record_parts l)) ≡ ds = cc in
            record { n = n; burned = burned; digits = sym (rw same at d) },
        λ t. let h = sym g ∙ (judged_sum l t.n).1 t.burned in
            let number : n ≡ t.n = cc in
            rw (same, number, t.digits),
      )

  numbers_served : (chain_reply (of_record l) ≡ served_with ds) ↔ RecordReply l ds
  unfolding of_record
  numbers_served = by_judged (judged_of l) refl

-- The refusals, where `refused r` says that the line is refused with r, and `told` that its two bytes are right: each number exactly
-- if what the documents say holds and nothing before it does, in the order of the tests; and no other number.
pub record RecordLineRefusals (l : List ℕ) (told : Type 0) (refused : Refusal → Type 0) : Type 0 where
  pub refusal_8 : refused UnknownPart ↔ Outside l
  pub refusal_9 : refused NotChained ↔ ((¬ Outside l) × (¬ Chained (record_parts l)))
  pub refusal_10 : refused TooLarge ↔ ((¬ Outside l) × Chained (record_parts l) × (2 ^ 64 ≤ total (record_parts l)))
  pub refusal_16 : refused WrongExponents ↔ (Named l × (¬ told))
  pub no_other : (r : Refusal) → refused r → (r ≡ WrongExponents) ⊎ ((r ≡ UnknownPart) ⊎ ((r ≡ NotChained) ⊎ (r ≡ TooLarge)))

-- A fit line of kind 04.
module _ (line : List ℕ) (f : shape_of line ≡ Ok record_line) where
  abbrev numbers : List ℕ
  numbers = items_in record_line line

  -- The reply without the two bytes.
  abbrev plain : Reply
  plain = chain_reply (of_record numbers)

  reply : reply_to line ≡ or_sixteen (tells_largest record_line line) plain
  unfolding served
  reply = reply_fit line record_line f

  pub record_served : (ds : List ℕ) → (reply_to line ≡ served_with ds) ↔ (LargestTold record_line line × RecordReply numbers ds)
  record_served ds = Iff.trans (line_served record_line line plain reply ds) (Iff.and Iff.rfl (numbers_served numbers ds))

  only : (r : Refusal) → plain ≡ refused_as r → (r ≡ UnknownPart) ⊎ ((r ≡ NotChained) ⊎ (r ≡ TooLarge))
  only r e = (record_refusals numbers).no_other r ((outcome_refused (of_record numbers) r).0 e)

  none_else : (r : Refusal) → 10 < number_of r → ¬ (plain ≡ refused_as r)
  none_else r h e = ⊎_elim (λ (g : r ≡ UnknownPart). omega (arith, ap number_of g)) (⊎_elim (λ (g : r ≡ NotChained). omega (arith, ap number_of g)) (λ (g : r ≡ TooLarge). omega (arith, ap number_of g))) (only r e)

  named : Reaches16 plain ↔ Named numbers
  named = (
    ⊎_elim (λ (s : (ds : List ℕ) × (plain ≡ served_with ds)). let t = (numbers_served numbers s.0).0 s.1 in (t.n, t.burned))
        (λ (e : plain ≡ refused_as NoTreeWord). absurd (none_else NoTreeWord (omega arith) e)),
    λ b. inl (_, (numbers_served numbers _).1 (record { n = b.0; burned = b.1; digits = refl })),
  )

  before : (r : Refusal) → number_of r < 15 → {P : Type 0} → (of_record numbers ≡ refused r) ↔ P → (reply_to line ≡ refused_as r) ↔ P
  before r h p = Iff.trans (line_before record_line line plain reply r h) (Iff.trans (outcome_refused (of_record numbers) r) p)

  pub record_refused : RecordLineRefusals numbers (LargestTold record_line line) (λ r. reply_to line ≡ refused_as r)
  record_refused =
      let read = record_refusals numbers in
      record {
        refusal_8 = before UnknownPart (omega arith) read.refusal_8;
        refusal_9 = before NotChained (omega arith) read.refusal_9;
        refusal_10 = before TooLarge (omega arith) read.refusal_10;
        refusal_16 = Iff.trans (line_sixteen record_line line plain reply (none_else WrongExponents (omega arith)))
            (Iff.and named Iff.rfl);
        no_other = λ r e.
            ⊎_elim (λ (g : plain ≡ refused_as r). inr (only r g)) (λ (g : r ≡ WrongExponents). inl g) (line_only record_line line plain reply r e);
      }

  -- No numbers, and other bytes than 0 and 0.
  pub empty_record : numbers ≡ [] → ¬ (exponents_in record_line line ≡ record { a = 0; b = 0 }) → reply_to line ≡ refused_as WrongExponents
  empty_record e n = record_refused.refusal_16.1 (rw e empty_named, λ t. n ((empty_told record_line line e).0 t))

-- ---- lengths

-- How long a line is: two bytes more than before T-06.
module _ (line : List ℕ) where
  pub record_bytes : bytes_in record_line line ≡ 4 + 2 * count_in record_line line
  unfolding bytes_in row_of
  record_bytes = refl

  pub to_tree_bytes : bytes_in to_tree_line line ≡ 4 + 2 * count_in to_tree_line line
  unfolding bytes_in row_of
  to_tree_bytes = refl

  pub run_bytes : bytes_in run_line line ≡ 20 + 2 * count_in run_line line
  unfolding bytes_in row_of
  run_bytes = refl

-- A line of digits whose length is not that of its kind gets 2.
module _ (k : Kind) (line : List ℕ) (digits : all_digits line ≡ true) (kind : kind_of (field line 0 1) ≡ Some k) where
  wrong_length : ¬ (length line ≡ 2 * bytes_in k line) → reply_to line ≡ refused_as BadLength
  unfolding reply_to reply_by_shape
  wrong_length n = go (bad_length (length line)) refl
    where
      go : (b : Bool) → bad_length (length line) ≡ b → reply_to line ≡ refused_as BadLength
      go true e = rw (unfit_length line e)
      go false e =
          rw (shape_kind line (length_proper (length line) e) digits, unfit_kind_length line (kind_of (field line 0 1)) k kind n)

  -- So does one that says that it has more parts than fit into 514 characters.
  too_long : 257 < bytes_in k line → reply_to line ≡ refused_as BadLength
  unfolding reply_to reply_by_shape
  too_long h = go (bad_length (length line)) refl
    where
      go : (b : Bool) → bad_length (length line) ≡ b → reply_to line ≡ refused_as BadLength
      go true e = rw (unfit_length line e)
      go false e = wrong_length (λ f. omega (arith, (length_proper (length line) e).most))

-- These are 127 parts in kinds 04 and 09, and 119 in kind 07.
module _ (line : List ℕ) (digits : all_digits line ≡ true) where
  pub record_127 : kind_of (field line 0 1) ≡ Some record_line → 127 ≤ count_in record_line line → reply_to line ≡ refused_as BadLength
  record_127 kind h = too_long record_line line digits kind (omega (arith, record_bytes line))

  pub to_tree_127 : kind_of (field line 0 1) ≡ Some to_tree_line → 127 ≤ count_in to_tree_line line → reply_to line ≡ refused_as BadLength
  to_tree_127 kind h = too_long to_tree_line line digits kind (omega (arith, to_tree_bytes line))

  pub run_119 : kind_of (field line 0 1) ≡ Some run_line → 119 ≤ count_in run_line line → reply_to line ≡ refused_as BadLength
  run_119 kind h = too_long run_line line digits kind (omega (arith, run_bytes line))

  -- A line as it was before T-06, without a and b, gets 2.
  pub record_before : kind_of (field line 0 1) ≡ Some record_line → length line ≡ 2 * (2 + 2 * count_in record_line line)
      → reply_to line ≡ refused_as BadLength
  record_before kind e = wrong_length record_line line digits kind (λ f. omega (arith, record_bytes line))

  pub to_tree_before : kind_of (field line 0 1) ≡ Some to_tree_line → length line ≡ 2 * (2 + 2 * count_in to_tree_line line)
      → reply_to line ≡ refused_as BadLength
  to_tree_before kind e = wrong_length to_tree_line line digits kind (λ f. omega (arith, to_tree_bytes line))

  pub run_before : kind_of (field line 0 1) ≡ Some run_line → length line ≡ 2 * (18 + 2 * count_in run_line line)
      → reply_to line ≡ refused_as BadLength
  run_before kind e = wrong_length run_line line digits kind (λ f. omega (arith, run_bytes line))
