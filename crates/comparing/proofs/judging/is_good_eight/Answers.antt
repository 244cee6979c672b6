-- Eight letters are a good word exactly if each may stand after the one before it and the last is 3. A number k of bits of x, and so at
-- most x, is x with the two bits of 3 exactly if it is x and x has the two.
use mathlib.Core.Path.{◌≡◌, refl, sym, ap, ◌∙◌}
use mathlib.Core.Bool.{Bool, true, false, ◌&&◌}
use mathlib.Core.List.{◌∷◌}
use Prim.Native.Nat.{ℕ, ◌+◌, ◌%◌, ◌≤◌}
use native.Mathlib.Omega.{arith}
use lib.Dec.{eqb}
use lib.Bits.{bit_and, bit_or, and_le_l, and_mask, or_add_and}
use lib.ListN.{length, get_or}
use borrow.Author.Tests.{eqb-true, eqb-false, eq-eqb, ne_eqb}
use Rattle.chains.specs.Words.{Word, reads}
use Rattle.comparing.specs.Eights.{EightOf, all_follow}
use Rattle.comparing.specs.FollowLaws.{reads_neighbours, follow_low}
use Rattle.comparing.proofs.EightBits.{last_letter}
use Rattle.comparing.proofs.judging.is_good_eight.Goals as goal

both_bits : (x k : ℕ) → k ≤ x → eqb k (bit_or x 3) ≡ (eqb k x && eqb (x % 4) 3)
both_bits x k h = go (eqb (x % 4) 3) (eqb k x) refl refl
  where
    sum : bit_or x 3 + x % 4 ≡ x + 3
    sum = ap (λ m. bit_or x 3 + m) (sym (and_mask x 2)) ∙ or_add_and x 3

    go : (s t : Bool) → eqb (x % 4) 3 ≡ s → eqb k x ≡ t → eqb k (bit_or x 3) ≡ (t && s)
    go true true d e = eq-eqb k (bit_or x 3) (omega (arith, sum, eqb-true (x % 4) 3 d, eqb-true k x e))
    go true false d e = ne_eqb k (bit_or x 3) (λ f. eqb-false k x e (omega (arith, sum, eqb-true (x % 4) 3 d)))
    go false true d e = ne_eqb k (bit_or x 3) (λ f. eqb-false (x % 4) 3 d (omega (arith, sum)))
    go false false d e = ne_eqb k (bit_or x 3) (λ f. eqb-false (x % 4) 3 d (omega (arith, sum)))

module _ (u : Word) (x : ℕ) (o : EightOf u x) where
  ends : (f : Bool) → all_follow 3 u ≡ f → (f && eqb (x % 4) 3) ≡ (f && eqb (get_or (3 ∷ u) (length u) 0) 3)
  ends false t = refl
  ends true t =
      let l : x % 4 ≡ get_or u 7 0 = omega (arith, last_letter u x o, follow_low 3 u t 7 (omega (arith, o.long))) in
      ap (λ y. eqb y 3) (l ∙ ap (λ n. get_or (3 ∷ u) n 0) (sym o.long))

  good_by_bits : (a : ℕ) → eqb (bit_and x a) x ≡ all_follow 3 u → eqb (bit_and x a) (bit_or x 3) ≡ reads true u
  good_by_bits a f =
      both_bits x (bit_and x a) (and_le_l x a)
      ∙ ap (λ t. t && eqb (x % 4) 3) f
      ∙ ends (all_follow 3 u) refl
      ∙ sym (reads_neighbours u)

pub returns : goal.returns
returns c u o = good_by_bits u c.args.x o c.allowed.result (c.allowed.ensures u o)
