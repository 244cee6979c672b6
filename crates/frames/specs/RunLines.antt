-- Lines of kind 07 (document 02, T-02 and T-06): a fit line is served with n × x modulo m exactly if m is a modulus, x is a residue,
-- the part numbers name a chain, of n, and the two bytes before them are a and b of its largest part.
--
-- In this order: served and refused (`run_served`, `run_refused`); a line made of values; every chain of n runs to n × x modulo m
-- (`chain_run`), and so does every chain that another line's reply tells (`leads_run`).
use Rattle.std.specs.Prelude.{Result, Ok, Err}
use Rattle.std.specs.Prelude.{◌≡◌, ◌↔◌, ◌⊎◌, ℕ, ◌*◌, ◌%◌, ◌^◌, ◌≤◌, ◌<◌, length}
use Rattle.std.proofs.Math.Path.{refl}
use Rattle.std.proofs.Common.{ap, ◌∙◌, inl, inr, ⊎_elim, mod-lt, arith, length-append}
use Rattle.std.proofs.Math.Logic.Iff
use Rattle.std.proofs.Math.Bool.{true}
use mathlib.Core.List.{List, [], map, ◌++◌, append_assoc}
use Rattle.chains.specs.Chains.{Part, Chained, total, ChainOf}
use Rattle.refusals.specs.declared.Refusal.{Refusal}
use Rattle.refusals.specs.declared.Refusal.TheVariants.{UnknownPart, NotChained, TooLarge, BadModulus, BadResidue, NoTreeWord, WrongExponents}
use Rattle.refusals.specs.Refusals.{number_of}
use Rattle.parts.specs.Parts.{part_number}
use Rattle.words.specs.Records.{record_parts, Burned}
use Rattle.words.specs.RecordLaws.{judged_sum}
use Rattle.words.specs.WordLaws.{chain_judged}
use Rattle.words.specs.Refusals.{Outside}
use Rattle.running.specs.Ran.{ran_of}
use Rattle.running.proofs.RanLaws.{Modulus, ResidueBy, ran_residue, run_refusals}
use Rattle.digits.specs.Digits.{is_digit, every, digits_of}
use Rattle.digits.proofs.DigitLaws.{every_append, length_digits, all_digits_digits}
use Rattle.lines.specs.Kinds.{row_of}
use Rattle.lines.specs.declared.Kind.TheVariants.{Run as run_line}
use Rattle.lines.specs.Lines.{field, items_in, shape_of}
use Rattle.frames.specs.ReplyDigits.{single_digits, record_digits}
use Rattle.frames.specs.ReadBack.{Fitting, field_after, field_first, single_read}
use Rattle.frames.specs.Replies.{Reply, refused_as, served_with, ran_reply, modulus_in, residue_in, exponents_in, tells_largest, or_sixteen}
use Rattle.frames.specs.Replies.{served, reply_to}
use Rattle.frames.specs.ServedLaws.{few_numbers, number_low}
use Rattle.frames.specs.ReplyLaws.{reply_fit, numbers_fit}
use Rattle.frames.specs.LineTrips.{with_record, record_in, record_line_reply, Leads}
use Rattle.frames.specs.RecordLines.{LargestTold, Reaches16, Named, empty_named, empty_told, line_served, line_before, line_sixteen, line_only}

-- ---- served and refused

-- A reply tells the run's answer.
told_residue : (a : Result ℕ Refusal) (ds : List ℕ) → (ran_reply a ≡ served_with ds) ↔ ((r : ℕ) × (a ≡ Ok r) × (ds ≡ single_digits r))
unfolding ran_reply
told_residue (Ok r) ds = (
  λ e. (r, refl, cc),
  λ h. let same : r ≡ h.0 = cc h.1 in rw (same, h.2),
)
told_residue (Err q) ds = (
  λ e. let z : ◌≡◌ {A = ℕ} 0 1 = cc in absurd (omega arith),
  λ h. let f = h.1 in let z : ◌≡◌ {A = ℕ} 0 1 = cc in absurd (omega arith),
)

told_refused : (a : Result ℕ Refusal) (r : Refusal) → (ran_reply a ≡ refused_as r) ↔ (a ≡ Err r)
unfolding ran_reply
told_refused (Ok x) r = (
  λ e. let z : ◌≡◌ {A = ℕ} 0 1 = cc in absurd (omega arith),
  λ e. let z : ◌≡◌ {A = ℕ} 0 1 = cc in absurd (omega arith),
)
told_refused (Err q) r = (λ e. cc, λ e. cc)

-- The residue of the chain that the numbers l name, and its digits.
pub record RunReply (l : List ℕ) (m x : ℕ) (ds : List ℕ) : Type 0 where
  pub able : ResidueBy m x
  pub n : ℕ
  pub burned : Burned l n
  pub digits : ds ≡ single_digits (n * x % m)

-- The refusals, as in RecordLines: those of the run, then 16.
pub record RunLineRefusals (l : List ℕ) (m x : ℕ) (told : Type 0) (refused : Refusal → Type 0) : Type 0 where
  pub refusal_13 : refused BadModulus ↔ (¬ Modulus m)
  pub refusal_14 : refused BadResidue ↔ (Modulus m × (m ≤ x))
  pub refusal_8 : refused UnknownPart ↔ (ResidueBy m x × Outside l)
  pub refusal_9 : refused NotChained ↔ (ResidueBy m x × ((¬ Outside l) × (¬ Chained (record_parts l))))
  pub refusal_10 : refused TooLarge ↔ (ResidueBy m x × ((¬ Outside l) × Chained (record_parts l) × (2 ^ 64 ≤ total (record_parts l))))
  pub refusal_16 : refused WrongExponents ↔ (ResidueBy m x × (Named l × (¬ told)))
  pub no_other : (r : Refusal) → refused r → (r ≡ WrongExponents) ⊎ ((r ≡ BadModulus) ⊎ ((r ≡ BadResidue) ⊎ ((r ≡ UnknownPart) ⊎ ((r ≡ NotChained) ⊎ (r ≡ TooLarge)))))

module _ (line : List ℕ) (f : shape_of line ≡ Ok run_line) where
  abbrev m : ℕ
  m = modulus_in line

  abbrev x : ℕ
  x = residue_in line

  abbrev numbers : List ℕ
  numbers = items_in run_line line

  -- The reply without the two bytes after the number of parts.
  abbrev plain : Reply
  plain = ran_reply (ran_of numbers m x)

  reply : reply_to line ≡ or_sixteen (tells_largest run_line line) plain
  unfolding served
  reply = reply_fit line run_line f

  run_told : (ds : List ℕ) → (plain ≡ served_with ds) ↔ RunReply numbers m x ds
  run_told ds = (there, back)
    where
      there : plain ≡ served_with ds → RunReply numbers m x ds
      there e =
          let (r, a, d) = (told_residue (ran_of numbers m x) ds).0 e in
          let (able, named) = (ran_residue numbers m x r).0 a in
          record { able = able; n = named.0; burned = named.1; digits = d ∙ ap single_digits named.2 }

      back : RunReply numbers m x ds → plain ≡ served_with ds
      back t =
          let r = t.n * x % m in
          (told_residue (ran_of numbers m x) ds).1 (r, (ran_residue numbers m x r).1 (t.able, (t.n, t.burned, refl)), t.digits)

  pub run_served : (ds : List ℕ) → (reply_to line ≡ served_with ds) ↔ (LargestTold run_line line × RunReply numbers m x ds)
  run_served ds = Iff.trans (line_served run_line line plain reply ds) (Iff.and Iff.rfl (run_told ds))

  only : (r : Refusal) → plain ≡ refused_as r → (r ≡ BadModulus) ⊎ ((r ≡ BadResidue) ⊎ ((r ≡ UnknownPart) ⊎ ((r ≡ NotChained) ⊎ (r ≡ TooLarge))))
  only r e = (run_refusals numbers m x).no_other r ((told_refused (ran_of numbers m x) r).0 e)

  none_else : (r : Refusal) → 14 < number_of r → ¬ (plain ≡ refused_as r)
  none_else r h e =
      ⊎_elim (λ (g : r ≡ BadModulus). omega (arith, ap number_of g))
      (⊎_elim (λ (g : r ≡ BadResidue). omega (arith, ap number_of g))
      (⊎_elim (λ (g : r ≡ UnknownPart). omega (arith, ap number_of g)) (⊎_elim (λ (g : r ≡ NotChained). omega (arith, ap number_of g)) (λ (g : r ≡ TooLarge). omega (arith, ap number_of g))))) (only r e)

  named : Reaches16 plain ↔ (ResidueBy m x × Named numbers)
  named = (
    ⊎_elim (λ (s : (ds : List ℕ) × (plain ≡ served_with ds)). let t = (run_told s.0).0 s.1 in (t.able, (t.n, t.burned)))
        (λ (e : plain ≡ refused_as NoTreeWord). absurd (none_else NoTreeWord (omega arith) e)),
    λ h. inl (_, (run_told _).1 (record { able = h.0; n = h.1.0; burned = h.1.1; digits = refl })),
  )

  before : (r : Refusal) → number_of r < 15 → {P : Type 0} → (ran_of numbers m x ≡ Err r) ↔ P → (reply_to line ≡ refused_as r) ↔ P
  before r h p = Iff.trans (line_before run_line line plain reply r h) (Iff.trans (told_refused (ran_of numbers m x) r) p)

  pub run_refused : RunLineRefusals numbers m x (LargestTold run_line line) (λ r. reply_to line ≡ refused_as r)
  run_refused =
      let run = run_refusals numbers m x in
      record {
        refusal_13 = before BadModulus (omega arith) run.refusal_13;
        refusal_14 = before BadResidue (omega arith) run.refusal_14;
        refusal_8 = before UnknownPart (omega arith) run.refusal_8;
        refusal_9 = before NotChained (omega arith) run.refusal_9;
        refusal_10 = before TooLarge (omega arith) run.refusal_10;
        refusal_16 = Iff.trans (line_sixteen run_line line plain reply (none_else WrongExponents (omega arith)))
            (Iff.trans (Iff.and named Iff.rfl) (λ h. (h.0.0, (h.0.1, h.1)), λ h. ((h.0, h.1.0), h.1.1)));
        no_other = λ r e.
            ⊎_elim (λ (g : plain ≡ refused_as r). inr (only r g)) (λ (g : r ≡ WrongExponents). inl g) (line_only run_line line plain reply r e);
      }

  -- No numbers, and other bytes than 0 and 0.
  pub empty_run : ResidueBy m x → numbers ≡ [] → ¬ (exponents_in run_line line ≡ record { a = 0; b = 0 }) → reply_to line ≡ refused_as WrongExponents
  empty_run able e n = run_refused.refusal_16.1 (able, (rw e empty_named, λ t. n ((empty_told run_line line e).0 t)))

-- ---- a line made of values

-- 07, m, x, then the digits of a record.
abbrev pub run_line_of : ℕ → ℕ → List ℕ → List ℕ
run_line_of m x r = with_record run_line (digits_of 16 m ++ digits_of 16 x) r

-- Its fields, where all values fit.
module _ (m x : ℕ) (numbers : List ℕ) (few : length numbers ≤ 118) (values : Fitting 2 numbers) (low : m < 2 ^ 64)
    (below : x < 2 ^ 64) where
  abbrev front : List ℕ
  front = digits_of 16 m ++ digits_of 16 x

  abbrev line : List ℕ
  line = run_line_of m x (record_digits numbers)

  front_long : length front ≡ 32
  front_long = simp (length-append, length_digits)

  line_modulus : modulus_in line ≡ m
  line_modulus =
      field_after 1 0 8 (digits_of 2 (row_of run_line).byte) _ (length_digits 2 (row_of run_line).byte)
      ∙ rw append_assoc (field_first 8 m _ (omega arith))

  line_residue : residue_in line ≡ x
  line_residue =
      field_after 1 8 8 (digits_of 2 (row_of run_line).byte) _ (length_digits 2 (row_of run_line).byte)
      ∙ rw append_assoc (field_after 8 0 8 (digits_of 16 m) _ (length_digits 16 m) ∙ field_first 8 x _ (omega arith))

  run_reply : reply_to line ≡ ran_reply (ran_of numbers m x)
  unfolding served row_of every
  run_reply =
      let written : every is_digit front ≡ true = simp (every_append, all_digits_digits) in
      record_line_reply run_line front numbers 16 refl front_long refl refl (omega arith) written values
      (λ (l : List ℕ). ran_reply (ran_of l (modulus_in line) (residue_in line))) refl
      ∙ rw (line_modulus, line_residue)

-- ---- every chain of n

module _ (n : ℕ) (c : List Part) (chain : ChainOf n c) (fits : n < 2 ^ 64) (m x : ℕ) (able : ResidueBy m x) where
  pub chain_run : reply_to (run_line_of m x (record_digits (map part_number c))) ≡ served_with (single_digits (n * x % m))
  unfolding ran_reply
  chain_run =
      let burned = (judged_sum (map part_number c) n).0 (chain_judged n c chain fits) in
      let few = few_numbers n c chain fits in
      run_reply m x (map part_number c) (omega arith) (numbers_fit n c chain fits) (omega arith) (omega arith)
      ∙ rw ((ran_residue (map part_number c) m x (n * x % m)).1 (able, (n, burned, refl)))

-- The residue that stands in the reply.
pub residue_read : (n m x : ℕ) → ResidueBy m x → field (single_digits (n * x % m)) 1 8 ≡ n * x % m
residue_read n m x able = (single_read (n * x % m) (omega (arith, mod-lt (n * x) {m = m} (omega arith)))).1

-- The chain that a reply of the kinds 02 to 06 or 08 tells, run on x modulo m, gives the n of that reply times x, modulo m.
pub leads_run : (ds : List ℕ) → Leads ds → (m x : ℕ) → ResidueBy m x
    → reply_to (run_line_of m x (record_in ds)) ≡ served_with (single_digits (field ds 1 8 * x % m))
leads_run ds l m x able = rw l.record_there (chain_run (field ds 1 8) l.chain l.sums (number_low ds 1) m x able)
