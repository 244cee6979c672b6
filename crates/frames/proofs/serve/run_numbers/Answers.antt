-- `run_numbers` answers what the run does, or 16 for a residue where the line tells another part than the largest.
use Rattle.std.proofs.Common.{Result, Err}
use mathlib.Core.Path.{◌≡◌, sym, ap, ◌∙◌}
use mathlib.Core.Logic.{⊎_elim}
use mathlib.Core.Bool.{Bool}
use mathlib.Core.List.{List}
use Prim.Native.Nat.{ℕ, ◌%◌, ◌^◌}
use native.Mathlib.Omega.{arith}
use Rattle.chains.specs.Chains.{Part}
use Rattle.refusals.specs.Refusals.{number_of}
use Rattle.refusals.specs.declared.Refusal.{Refusal}
use Rattle.refusals.specs.declared.Refusal.TheVariants.{UnknownPart, NotChained, TooLarge, BadModulus, BadResidue}
use Rattle.parts.specs.Parts.{largest_of, same_part}
use Rattle.running.specs.Ran.{ran_of}
use Rattle.running.proofs.RanLaws.{run_refusals}
use Rattle.lines.specs.Kinds.{row_of}
use Rattle.lines.specs.declared.Kind.TheVariants.{Run as run_line}
use Rattle.lines.proofs.LineLaws.{field_fits}
use Rattle.frames.specs.Replies.{refused_as, ran_reply, modulus_in, residue_in, exponents_from, exponents_in, or_sixteen}
use Rattle.frames.specs.ServedLaws.{sixteen_right, sixteen_wrong, sixteen_refused}
use Rattle.std.proofs.lemmas.Result.{err_from_is_err_and}
use Rattle.frames.proofs.serve.run_numbers.Goals as goal

-- The run of the numbers l was asked for with m and x, and a answered.
module _ (line l : List ℕ) (m x : ℕ) (a : Result ℕ Refusal) (modulus : m ≡ modulus_in line % 2 ^ 64) (residue : x ≡ residue_in line % 2 ^ 64)
    (e : a ≡ ran_of l m x) where
  asked : (y : Result ℕ Refusal) → a ≡ y → ran_of l (modulus_in line) (residue_in line) ≡ y
  asked y f =
      let same-m : m ≡ modulus_in line = modulus ∙ field_fits line 1 8 (omega arith) in
      let same-x : x ≡ residue_in line = residue ∙ field_fits line 9 8 (omega arith) in
      rw (← same-m, ← same-x) (sym e ∙ f)

  -- The line tells a part, and `right` says whether it is the largest.
  by_answer : (told : Part) (right : Bool) (y : Result ℕ Refusal) → told ≡ exponents_from line 18 → right ≡ same_part told (largest_of l) → a ≡ y
      → or_sixteen right (ran_reply y)
      ≡ or_sixteen (same_part (exponents_in run_line line) (largest_of l)) (ran_reply (ran_of l (modulus_in line) (residue_in line)))
  unfolding row_of
  by_answer told right y there same f = rw (asked y f, ← there, ← same)

  -- 15 is no refusal of a run.
  by_refusal : (r : Refusal) → a ≡ Err r
      → refused_as r ≡ or_sixteen (same_part (exponents_in run_line line) (largest_of l)) (ran_reply (ran_of l (modulus_in line) (residue_in line)))
  unfolding ran_reply
  by_refusal r f =
      rw (asked (Err r) f)
      (sym (sixteen_refused _ r (λ g.
      ⊎_elim (λ (h : r ≡ BadModulus). omega (arith, ap number_of (sym g ∙ h)))
      (⊎_elim (λ (h : r ≡ BadResidue). omega (arith, ap number_of (sym g ∙ h)))
      (⊎_elim (λ (h : r ≡ UnknownPart). omega (arith, ap number_of (sym g ∙ h))) (⊎_elim (λ (h : r ≡ NotChained). omega (arith, ap number_of (sym g ∙ h))) (λ (h : r ≡ TooLarge). omega (arith, ap number_of (sym g ∙ h))))))
      ((run_refusals l m x).no_other r (sym e ∙ f)))))

pub returns-in_err-residue : goal.returns-in_err-residue
unfolding ran_reply
returns-in_err-residue c =
    let p = err_from_is_err_and c.from_residual.result c.from_residual.ensures.1 in
    rw (p.1, p.2) (by_refusal _ _ _ _ _ c.field_of-m.ensures c.field_of-x.ensures c.run_chain.ensures _ c.in_err-residue.was)

pub returns-then-not-is_largest : goal.returns-then-not-is_largest
unfolding ran_reply
returns-then-not-is_largest c =
    sym (sixteen_wrong _ _ c.if-not-is_largest.true)
    ∙ by_answer _ _ _ _ _ c.field_of-m.ensures c.field_of-x.ensures c.run_chain.ensures _ _ _ c.exponents_in.ensures
    c.is_largest.ensures c.in_ok-residue.was

pub returns : goal.returns
returns c =
    sym (sixteen_right _ _ c.if-not-is_largest.false)
    ∙ by_answer _ _ _ _ _ c.field_of-m.ensures c.field_of-x.ensures c.run_chain.ensures _ _ _ c.exponents_in.ensures
    c.is_largest.ensures c.in_ok-residue.was
