-- A word is as good as what is left of it from any place up to the one reached: this is the invariant. So it is as good as its last
-- eight letters.
use mathlib.Core.Path.{◌≡◌, refl, sym, ap, ◌∙◌}
use mathlib.Core.Bool.{Bool, true, false}
use Prim.Native.Nat.{ℕ, zero, suc, ◌+◌, ◌-◌, ◌≤◌, ◌<◌}
use native.Mathlib.Nat.{le_refl}
use native.Mathlib.Decide.{dec_le}
use native.Mathlib.Omega.{arith}
use lib.ListN.{length, take, drop, length-drop}
use lib.Seq.{drop-drop, take_all}
use Rattle.chains.specs.Words.{Word, reads}
use Rattle.comparing.specs.Eights.{all_follow}
use Rattle.comparing.specs.FollowLaws.{reads_drop, reads_false, reads_threes}
use Rattle.comparing.proofs.judging.is_good_by_eights.Invariants.{AsGood}
use Rattle.comparing.proofs.judging.is_good_by_eights.Goals.{else-loop-i-test, then-loop-i-test+else-not-follow+else-step-last}
use Rattle.comparing.proofs.judging.is_good_by_eights.Goals as goal

module _ (l : Word) where
  at_start : AsGood l 0
  at_start zero h = refl
  at_start (suc j) h = absurd (omega arith)

  module _ (i : ℕ) (g : AsGood l i) where
    -- Eight letters follow each other at i: up to seven of them may be left out.
    further : (d : ℕ) → d < 8 → i + 8 ≤ length l → all_follow 3 (take 8 (drop i l)) ≡ true → AsGood l (i + d)
    further d m h t j k = go (dec_le j i)
      where
        go : Dec (j ≤ i) → reads true l ≡ reads true (drop j l)
        go (yes n) = g j n
        go (no n) =
            let d : i + (j - i) ≡ j = omega arith in
            g i (le_refl i) ∙ reads_drop (j - i) 8 (drop i l) (omega arith) (rw length-drop (omega arith)) t
            ∙ ap (reads true) (drop-drop (j - i) i l ∙ ap (λ n. drop n l) d)

    stop : all_follow 3 (take 8 (drop i l)) ≡ false → false ≡ reads true l
    stop t = sym (g i (le_refl i) ∙ reads_false 8 (drop i l) t)

    -- The last eight letters decide.
    at_end : (n : ℕ) (r : Bool) → n ≤ i → n + 8 ≡ length l → r ≡ reads true (take 8 (drop n l)) → r ≡ reads true l
    at_end n r h e d = d ∙ ap (reads true) (take_all 8 (drop n l) (rw length-drop (omega arith))) ∙ sym (g n h)

pub returns-then-letters-lt8 : goal.returns-then-letters-lt8
returns-then-letters-lt8 c =
    let w = c.args.letters.now in
    c.is_good_eight.ensures _ c.few_letters.ensures ∙ reads_threes (8 - length w) w

pub loop-i-init : goal.loop-i-init
loop-i-init c =
    at_start _

pub returns-then-not-follow : goal.returns-then-not-follow
returns-then-not-follow c =
    stop _ c.loop-i.i c.loop-i.invariant (sym (c.follow.ensures _ c.eight_at.ensures) ∙ c.if-not-follow.true)

pub loop-i-preserved : goal.loop-i-preserved
loop-i-preserved c =
    further _ c.loop-i.i c.loop-i.invariant _ (omega arith) (omega arith)
    (sym (c.follow.ensures _ c.eight_at.ensures) ∙ c.if-not-follow.false)

pub returns : goal.returns
returns c =
    let w = c.args.letters.now in
    let good : AsGood w (length w - 8) = elim c.loop-i-test.branch [
      | else-loop-i-test b ↦ λ j h. c.loop-i.invariant j (omega arith)
      | then-loop-i-test+else-not-follow+else-step-last b ↦
          λ j h. further w c.loop-i.i c.loop-i.invariant 7 (omega arith) (omega arith)
          (sym (b.follow.ensures _ b.eight_at.ensures) ∙ b.if-not-follow.false) j (omega arith)
    ] in
    at_end w (length w - 8) good (length w - 8) _ (le_refl (length w - 8)) (omega arith)
    (c.is_good_eight-2.ensures _ c.eight_at-2.ensures)
