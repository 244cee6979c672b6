-- Both words are read before either answer: a comparison of good words is their order, and any other is refused.
use mathlib.Core.Path.{◌≡◌, sym, ap, ◌∙◌}
use mathlib.Core.Bool.{Bool, true, false, cond, ◌&&◌}
use Rattle.chains.specs.Words.{Word, reads}
use Rattle.comparing.specs.Answers.{order_of, compared_of}
use Rattle.std.specs.Prelude.{Ok, Err}
use Rattle.refusals.specs.declared.Refusal.TheVariants.{BadWord}
use Rattle.comparing.proofs.compare_words.Goals as goal

-- With p and q the readers' answers.
module _ (u v : Word) (p q : Bool) (eu : p ≡ reads true u) (ev : q ≡ reads true v) where
  tested : (t : Bool) → (p && q) ≡ t → compared_of u v ≡ cond t (Ok (order_of u v)) (Err BadWord)
  unfolding compared_of
  tested t e = rw (← eu, ← ev, e)

pub returns-then-is_good_by_eights : goal.returns-then-is_good_by_eights
returns-then-is_good_by_eights c =
    ap Ok c.in_order.ensures
    ∙ sym (tested _ _ c.is_good_by_eights.result c.is_good_by_eights-2.result
    c.is_good_by_eights.ensures c.is_good_by_eights-2.ensures true c.if-is_good_by_eights.true)

pub returns : goal.returns
returns c =
    sym (tested _ _ c.is_good_by_eights.result c.is_good_by_eights-2.result
    c.is_good_by_eights.ensures c.is_good_by_eights-2.ensures false c.if-is_good_by_eights.false)
