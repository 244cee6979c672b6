-- Each letter pushes out a 3 in front: after i letters the number is that of 8 - i letters 3 and the first i letters.
use mathlib.Core.Path.{◌≡◌, refl, subst}
use mathlib.Core.List.{[], ◌∷◌, ◌++◌, append_assoc}
use Prim.Native.Nat.{ℕ, suc, ◌+◌, ◌-◌, ◌<◌}
use native.Mathlib.Numerals.{add-one}
use native.Mathlib.Omega.{arith}
use lib.Dec.{lit<}
use lib.ListN.{length, take, drop, get_or, replicate}
use lib.Seq.{take-suc, take-length}
use Rattle.chains.specs.Words.{Word}
use Rattle.comparing.specs.Eights.{high_first, EightOf}
use Rattle.comparing.proofs.EightBits.{bytes_all}
use Rattle.comparing.proofs.eights.few_letters.Invariants.{filled}
use Rattle.comparing.proofs.eights.few_letters.Goals as goal

threes : EightOf (replicate 8 3) 0x0303_0303_0303_0303
unfolding high_first
threes = record { bytes = bytes_all 8 3 (lit< tt); long = refl; number = refl }

one_more : (l : Word) (i : ℕ) → i < length l → i < 8 → drop 1 (filled l i) ++ (get_or l i 0 ∷ []) ≡ filled l (i + 1)
one_more l i h k =
    let d : 8 - i ≡ suc (8 - suc i) = omega arith in
    rw (add-one, d, take-suc l i 0 h) (append_assoc (replicate (8 - suc i) 3) (take i l) (get_or l i 0 ∷ []))

all_in : (l : Word) (i x : ℕ) → i ≡ length l → EightOf (filled l i) x → EightOf (replicate (8 - length l) 3 ++ l) x
all_in l i x e o = rw (e, take-length) at o

pub loop-letter-init : goal.loop-letter-init
loop-letter-init c = threes

pub loop-letter-preserved : goal.loop-letter-preserved
loop-letter-preserved c =
    let w = c.args.letters.now in
    subst (λ u. EightOf u c.with_last-x.result) (one_more w c.loop-letter.letter-index c.loop-letter-test.true (omega arith))
    (c.with_last-x.ensures (filled w c.loop-letter.letter-index) c.loop-letter.invariant)

pub returns : goal.returns
returns c = all_in _ c.loop-letter.letter-index _ (omega arith) c.loop-letter.invariant
