-- The letters read so far, from the last one back, are the end of the word, and n is their number: this is the invariant. If their
-- number reaches 2^64, so does the word's.
use Rattle.std.proofs.Common.{Option, Some, None}
use mathlib.Core.Path.{◌≡◌, sym, ◌∙◌}
use mathlib.Core.List.{◌∷◌}
use Prim.Native.Nat.{ℕ, suc, ◌-◌, ◌≤◌, ◌<◌}
use native.Mathlib.Nat.{le_trans}
use native.Mathlib.Omega.{arith}
use lib.ListN.{length, drop, get_or}
use lib.Seq.{drop-cons, drop-length}
use Rattle.chains.specs.Words.{Word}
use Rattle.words.specs.Answers.{sized}
use Rattle.words.proofs.Sized.{sized_over, number_is, over_is}
use Rattle.trees.specs.Trees.{number}
use Rattle.trees.proofs.TreeLaws.{number_later}
use Rattle.trees.proofs.numbers.weigh.Goals as goal

none_read : (l : Word) → Some 1 ≡ sized (number (drop (length l) l))
unfolding number sized
none_read l = rw drop-length

-- One letter more, the one before what has been read: x is what it gives.
module _
    (l : Word) (n i : ℕ) (h : 0 < i) (k : i ≤ length l) (read : Some n ≡ sized (number (drop i l))) (x : Option ℕ)
    (f : (w : Word) → number w ≡ n → x ≡ sized (number (get_or l (i - 1) 0 ∷ w)))
  where
    next : x ≡ sized (number (drop (i - 1) l))
    next =
        let e : suc (i - 1) ≡ i = omega arith in
        rw (drop-cons l (i - 1) 0 (omega arith), e) (f (drop i l) (sym (number_is _ n read)))

    over : x ≡ None → None ≡ sized (number l)
    over e = sym (sized_over (number l) (le_trans (over_is _ (sym e ∙ next)) (number_later (i - 1) l)))

pub loop-i-init : goal.loop-i-init
loop-i-init c = none_read c.args.letters.now

pub returns-in_err-n : goal.returns-in_err-n
returns-in_err-n c =
    c.from_residual.ensures
    ∙ over _ _ _ c.loop-i-test.true c.loop-i.auto.i c.loop-i.invariant _ c.with_letter.ensures c.in_err-n.was

pub loop-i-preserved : goal.loop-i-preserved
loop-i-preserved c =
    sym c.in_ok-n.was ∙ next _ _ _ c.loop-i-test.true c.loop-i.auto.i c.loop-i.invariant _ c.with_letter.ensures

pub returns : goal.returns
returns c =
    let z : c.loop-i.i ≡ 0 = omega arith in
    rw z at c.loop-i.invariant
