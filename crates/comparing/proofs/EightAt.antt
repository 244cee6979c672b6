-- Eight letters at a place of a word: they are eight bytes, and the rest of the word stands behind them.
use mathlib.Core.Path.{◌≡◌, sym, ap, ap₂, ◌∙◌}
use mathlib.Core.List.{[], ◌∷◌, ◌++◌}
use Prim.Native.Nat.{ℕ, zero, suc, ◌+◌, ◌≤◌}
use native.Mathlib.Omega.{arith}
use lib.Dec.{lit<}
use lib.ListN.{length, take, drop, length-drop, take-append-drop}
use lib.Seq.{get_or-drop, length-take-le, drop-drop}
use Rattle.chains.specs.Words.{Word}
use Rattle.comparing.specs.Answers.{order_of}
use Rattle.comparing.specs.Eights.{Bytes, EightOf}
use Rattle.comparing.specs.EightLaws.{order_one}

pub bytes_take : (n : ℕ) (w : Word) → Bytes w → Bytes (take n w)
bytes_take zero w b i = lit< tt
bytes_take (suc n) [] b i = lit< tt
bytes_take (suc n) (x ∷ w) b zero = b 0
bytes_take (suc n) (x ∷ w) b (suc i) = bytes_take n w (λ j. b (suc j)) i

abbrev eight : Word → ℕ → Word
eight w i = take 8 (drop i w)

pub eight_bytes : (w : Word) (i : ℕ) → Bytes w → Bytes (eight w i)
eight_bytes w i b = bytes_take 8 (drop i w) (λ j. rw get_or-drop (b (i + j)))

pub eight_long : (w : Word) (i : ℕ) → i + 8 ≤ length w → length (eight w i) ≡ 8
eight_long w i h = length-take-le 8 (drop i w) (rw length-drop (omega arith))

behind : (w : Word) (i : ℕ) → drop i w ≡ eight w i ++ drop (i + 8) w
behind w i = sym (take-append-drop 8 (drop i w)) ∙ ap (λ l. eight w i ++ l) (drop-drop 8 i w)

-- Two words from the place i on stand as two words that have the eight letters there as one letter, and then the rests.
pub order_eight : (u v : Word) (i x y : ℕ) → EightOf (eight u i) x → EightOf (eight v i) y
    → order_of (drop i u) (drop i v) ≡ order_of (x ∷ drop (i + 8) u) (y ∷ drop (i + 8) v)
order_eight u v i x y p q =
    rw (p.number, q.number)
    (ap₂ order_of (behind u i) (behind v i)
    ∙ order_one (eight u i) (eight v i) (drop (i + 8) u) (drop (i + 8) v) (p.long ∙ sym q.long) p.bytes q.bytes)
