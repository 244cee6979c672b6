-- `meltsjuk_reply` answers the length of the reply, since a refusal is two digits, and 1 is refused only where too little is lent.
use Rattle.std.specs.Prelude.{Bool, true, false, List, length, Result, Ok, Err}
use Rattle.std.proofs.Common.{◌≡◌, refl, sym, ap, ◌∙◌, ℕ, ◌≤◌, arith}
use denote.Enum.Bare.{same_true, same_false}
use Rattle.refusals.specs.declared.Refusal.{Refusal}
use Rattle.refusals.specs.contracts.Refusal.{the_type}
use Rattle.refusals.specs.declared.Refusal.TheVariants.{LittleLent}
use Rattle.refusals.specs.Refusals.{number_of}
use Rattle.digits.proofs.DigitLaws.{length_digits}
use Rattle.frames.specs.Replies.{Reply, refused_as, served_with, digits_in, reply_to, reply_of, replied_of, answer_to}
use Rattle.meltsjuk.specs.Answers.{digits_or_refusal}
use Rattle.frames.specs.Refusals.{reply_refusal, two_or_more}
use Rattle.meltsjuk.proofs.meltsjuk_reply.Goals as goal

-- The answer of `reply` and the number that is told: 1 for refusal 1, two digits for a later refusal, or as many as `reply` tells.
by_answer : (little : Bool) (line : List ℕ) (P : Result ℕ Refusal → ℕ → Type 0) → P (Err LittleLent) 1
    → ((r : Refusal) → 2 ≤ number_of r → P (Err r) 2) → ((k : ℕ) → P (Ok k) k) → P (answer_to little line) (digits_or_refusal little line)
unfolding answer_to replied_of reply_of digits_in
by_answer true line P one later served = one
by_answer false line P one later served = go (reply_to line) refl
  where
    go : (x : Reply) → reply_to line ≡ x → P (replied_of x) (length (digits_in x))
    go (refused_as r) e = rw (length_digits 2 (number_of r)) (later r (two_or_more r (reply_refusal line r e)))
    go (served_with ds) e = served (length ds)

module _ (little : Bool) (line : List ℕ) where
  told_digits : (k : ℕ) → Ok k ≡ answer_to little line → k ≡ digits_or_refusal little line
  told_digits k =
      by_answer little line (λ (a : Result ℕ Refusal) (n : ℕ). Ok k ≡ a → k ≡ n)
      (λ e. let z : ◌≡◌ {A = ℕ} 0 1 = cc in absurd (omega arith))
      (λ r l e. let z : ◌≡◌ {A = ℕ} 0 1 = cc in absurd (omega arith))
      (λ j e. cc)

  told_1 : (q : Refusal) → Err q ≡ answer_to little line → q ≡ LittleLent → 1 ≡ digits_or_refusal little line
  told_1 q =
      by_answer little line (λ (a : Result ℕ Refusal) (n : ℕ). Err q ≡ a → q ≡ LittleLent → 1 ≡ n)
      (λ e h. refl)
      (λ r l e h. let same : LittleLent ≡ r = cc in let one : 1 ≡ number_of r = ap number_of same in absurd (omega arith))
      (λ j e h. let z : ◌≡◌ {A = ℕ} 0 1 = cc in absurd (omega arith))

  told_later : (q : Refusal) → Err q ≡ answer_to little line → (q ≡ LittleLent → ⊥) → 2 ≡ digits_or_refusal little line
  told_later q =
      by_answer little line (λ (a : Result ℕ Refusal) (n : ℕ). Err q ≡ a → (q ≡ LittleLent → ⊥) → 2 ≡ n)
      (λ e h. let same : q ≡ LittleLent = cc in absurd (h same))
      (λ r l e h. refl)
      (λ j e h. let z : ◌≡◌ {A = ℕ} 0 1 = cc in absurd (omega arith))

pub returns-in-Ok : goal.returns-in-Ok
returns-in-Ok c =
    record { answer = told_digits _ _ _ (c.in-Ok.ensures.answer); out = c.reply.ensures.out; scratch = c.reply.ensures.scratch }

pub returns-then-eq-clause-answer : goal.returns-then-eq-clause-answer
returns-then-eq-clause-answer c = told_1 _ _ _ (c.in-Err.ensures.answer) (same_true the_type tt _ _ (sym c.eq.ensures ∙ c.if-eq.true))

pub returns-else-eq-clause-answer : goal.returns-else-eq-clause-answer
returns-else-eq-clause-answer c = told_later _ _ _ (c.in-Err.ensures.answer) (same_false the_type _ _ (sym c.eq.ensures ∙ c.if-eq.false))
