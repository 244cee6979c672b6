-- The tests stand in the order of the definition.
use Rattle.std.proofs.Common.{Option, Some, None, Ok, Err}
use mathlib.Core.Path.{◌≡◌, sym, ◌∙◌}
use mathlib.Core.Bool.{Bool, true, false}
use Prim.Native.Nat.{ℕ, ◌^◌, ◌<◌}
use native.Mathlib.Omega.{arith}
use borrow.Author.Rules.{rules}
use Rattle.std.proofs.Common.{ok_or}
use Rattle.std.proofs.lemmas.Result.{err_from_is_err_and}
use borrow.Author.Tests.{lt-ltb, le-ltb}
use Rattle.chains.specs.Words.{Word}
use Rattle.refusals.specs.declared.Refusal.{Refusal}
use Rattle.refusals.specs.declared.Refusal.TheVariants.{TooLarge, NoTreeWord}
use Rattle.words.specs.Answers.{sized}
use Rattle.words.proofs.Sized.{number_is, over_is}
use Rattle.trees.specs.Trees.{produced, number}
use Rattle.trees.specs.Answers.{foreign, tree_judged}
use Rattle.trees.proofs.judging.judge.Goals as goal

module _ (w : Word) (g : Bool) (read : g ≡ foreign w) where
  has_foreign : g ≡ true → Err NoTreeWord ≡ tree_judged w
  unfolding tree_judged
  has_foreign e = rw (← read, e)

  module _ (known : g ≡ false) where
    over : None ≡ sized (number w) → Err TooLarge ≡ tree_judged w
    unfolding tree_judged
    over e = rw (← read, known, le-ltb (number w) (2 ^ 64) (over_is (number w) e))

    refused : (o : Option ℕ) → o ≡ sized (number w) → (r : Refusal) → ok_or o TooLarge ≡ Err r → Err r ≡ tree_judged w
    refused (Some n) e r d = let z : ◌≡◌ {A = ℕ} 0 1 = cc in absurd (omega arith)
    refused None e r d = let same : TooLarge ≡ r = cc in rw same at (over e)

    module _ (n : ℕ) (small : n < 2 ^ 64) (is : Some n ≡ sized (number w)) (t : Bool) (tested : t ≡ produced w n) where
      same : n ≡ number w
      same = number_is (number w) n is

      made : t ≡ true → Ok n ≡ tree_judged w
      unfolding tree_judged
      made e = rw (← read, known, ← same, lt-ltb n (2 ^ 64) small, ← tested, e)

      not_made : t ≡ false → Err NoTreeWord ≡ tree_judged w
      unfolding tree_judged
      not_made e = rw (← read, known, ← same, lt-ltb n (2 ^ 64) small, ← tested, e)

-- What the weighing found.
told : (n : ℕ) (w : Word) (o : Option ℕ) → o ≡ sized (number w) → ok_or o TooLarge ≡ Ok n → Some n ≡ sized (number w)
told n w (Some m) e d = let same : m ≡ n = cc in rw same at e
told n w None e d = let z : ◌≡◌ {A = ℕ} 0 1 = cc in absurd (omega arith)

pub returns-then-is_foreign : goal.returns-then-is_foreign
returns-then-is_foreign c =
    has_foreign _ _ c.is_foreign.ensures c.if-is_foreign.true

pub returns-in_err-n : goal.returns-in_err-n
returns-in_err-n c =
    let p = err_from_is_err_and c.from_residual.result c.from_residual.ensures.1 in
    rw (p.1, p.2) (refused _ _ c.is_foreign.ensures c.if-is_foreign.false _ c.weigh.ensures _ (sym c.ok_or.ensures.value ∙ c.in_err-n.was))

pub returns-then-is_produced : goal.returns-then-is_produced
returns-then-is_produced c =
    made _ _ c.is_foreign.ensures c.if-is_foreign.false c.in_ok-n.n (search rules)
    (told _ _ _ c.weigh.ensures (sym c.ok_or.ensures.value ∙ c.in_ok-n.was)) _ c.is_produced.ensures c.if-is_produced.true

pub returns-else-is_produced : goal.returns-else-is_produced
returns-else-is_produced c =
    not_made _ _ c.is_foreign.ensures c.if-is_foreign.false c.in_ok-n.n (search rules)
    (told _ _ _ c.weigh.ensures (sym c.ok_or.ensures.value ∙ c.in_ok-n.was)) _ c.is_produced.ensures c.if-is_produced.false
