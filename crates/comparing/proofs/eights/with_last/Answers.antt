-- The seven letters that stay make less than 2^56.
use mathlib.Core.Path.{◌≡◌, ◌∙◌}
use mathlib.Core.List.{[], ◌∷◌, ◌++◌}
use Prim.Native.Nat.{ℕ, zero, suc, ◌+◌, ◌*◌, ◌^◌, ◌<◌}
use native.Mathlib.Omega.{arith}
use lib.Dec.{lit<}
use lib.ListN.{length, length-append}
use borrow.Author.Rules.{rules}
use Rattle.chains.specs.Words.{Word}
use Rattle.comparing.specs.Eights.{Bytes, high_first}
use Rattle.comparing.specs.EightLaws.{eights_fit, one_behind}
use Rattle.comparing.proofs.eights.with_last.Goals as goal

bytes_behind : (w : Word) (t : ℕ) → t < 256 → Bytes w → Bytes (w ++ (t ∷ []))
bytes_behind [] t h b zero = h
bytes_behind [] t h b (suc i) = lit< tt
bytes_behind (x ∷ w) t h b zero = b 0
bytes_behind (x ∷ w) t h b (suc i) = bytes_behind w t h (λ j. b (suc j)) i

pub returns : goal.returns
unfolding high_first
returns c [] o = absurd (omega (arith, o.long))
returns c (y ∷ w) o =
    let n : length w ≡ 7 = omega (arith, o.long) in
    let h : high_first w < 2 ^ 56 = rw n at (eights_fit w (λ i. o.bytes (suc i))) in
    let e : c.args.x ≡ y * 2 ^ 56 + high_first w = rw n at o.number in
    record {
      bytes = bytes_behind w c.args.letter (search rules) (λ i. o.bytes (suc i));
      long = length-append w (c.args.letter ∷ []) ∙ omega arith;
      number = omega (arith, one_behind w c.args.letter);
    }
