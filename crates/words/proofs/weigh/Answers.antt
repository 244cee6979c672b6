-- The letters read so far, from the last one back, are the end of the word, and n is what they stand for: this is the invariant. If
-- they stand for 2^64 or more, so does the word.
use Rattle.std.proofs.Common.{Option, Some, None}
use mathlib.Core.Path.{◌≡◌, sym, ◌∙◌}
use mathlib.Core.List.{◌∷◌}
use Prim.Native.Nat.{ℕ, suc, ◌-◌, ◌≤◌, ◌<◌}
use native.Mathlib.Nat.{le_trans}
use native.Mathlib.Omega.{arith}
use lib.ListN.{length, drop, get_or}
use lib.Seq.{drop-cons, drop-length}
use Rattle.chains.specs.Chains.{total}
use Rattle.chains.specs.Words.{Word, chain_from, chain_of}
use Rattle.words.specs.Answers.{sized, weighed_of}
use Rattle.words.proofs.Sized.{sized_over, number_is, over_is, drop_less}
use Rattle.words.proofs.weigh.Goals as goal

none_read : (l : Word) → Some 0 ≡ weighed_of (drop (length l) l)
unfolding weighed_of sized total chain_from chain_of
none_read l = rw drop-length

-- One letter more, the one before what has been read: x is what it gives.
module _ (l : Word) (n i : ℕ) (h : 0 < i) (k : i ≤ length l) (read : Some n ≡ weighed_of (drop i l)) (x : Option ℕ)
    (f : (w : Word) → total (chain_of w) ≡ n → x ≡ weighed_of (get_or l (i - 1) 0 ∷ w)) where
  next : x ≡ weighed_of (drop (i - 1) l)
  unfolding weighed_of
  next =
      let e : suc (i - 1) ≡ i = omega arith in
      rw (drop-cons l (i - 1) 0 (omega arith), e) (f (drop i l) (sym (number_is _ n read)))

  over : x ≡ None → None ≡ weighed_of l
  unfolding weighed_of
  over e = sym (sized_over (total (chain_of l)) (le_trans (over_is _ (sym e ∙ next)) (drop_less (i - 1) l)))

pub loop-i-init : goal.loop-i-init
loop-i-init c = none_read c.args.letters.now

pub returns-in_err-n : goal.returns-in_err-n
returns-in_err-n c =
    c.from_residual.ensures
    ∙ over _ _ _ c.loop-i-test.true c.loop-i.auto.i c.loop-i.invariant _ c.with_letter.ensures c.in_err-n.was

pub loop-i-preserved : goal.loop-i-preserved
loop-i-preserved c =
    sym c.in_ok-n.was ∙ next _ _ _ c.loop-i-test.true c.loop-i.auto.i c.loop-i.invariant _ c.with_letter.ensures

pub returns : goal.returns
returns c =
    let z : c.loop-i.i ≡ 0 = omega arith in
    rw z at c.loop-i.invariant
