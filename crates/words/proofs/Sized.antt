-- A number below 2^64, or that it is not: which of the two, and what a word of a known answer stands for.
use Rattle.std.proofs.Common.{Some, None}
use mathlib.Core.Path.{◌≡◌, refl}
use mathlib.Core.Bool.{Bool, true, false, cond}
use mathlib.Core.List.{[], ◌∷◌}
use Prim.Native.Nat.{ℕ, zero, suc, ◌^◌, ◌≤◌, ◌<◌}
use native.Mathlib.Nat.{le_refl, le_trans}
use native.Mathlib.Omega.{arith}
use lib.Dec.{ltb}
use lib.ListN.{drop}
use borrow.Author.Tests.{lt-ltb, le-ltb, ltb-false}
use Rattle.chains.specs.Chains.{total}
use Rattle.chains.specs.Words.{Word, chain_of}
use Rattle.chains.proofs.Weight.{weight, total_chain_of}
use Rattle.words.specs.Answers.{sized}

pub sized_number : (n : ℕ) → n < 2 ^ 64 → sized n ≡ Some n
unfolding sized
sized_number n h = rw (lt-ltb n (2 ^ 64) h)

pub sized_over : (n : ℕ) → 2 ^ 64 ≤ n → sized n ≡ None
unfolding sized
sized_over n h = rw (le-ltb n (2 ^ 64) h)

pub number_is : (n m : ℕ) → Some m ≡ sized n → m ≡ n
unfolding sized
number_is n m e = go (ltb n (2 ^ 64)) e
  where
    go : (t : Bool) → Some m ≡ cond t (Some n) None → m ≡ n
    go true d = cc
    go false d = cc

pub over_is : (n : ℕ) → None ≡ sized n → 2 ^ 64 ≤ n
unfolding sized
over_is n e = go (ltb n (2 ^ 64)) refl e
  where
    go : (t : Bool) → ltb n (2 ^ 64) ≡ t → None ≡ cond t (Some n) None → 2 ^ 64 ≤ n
    go true d f = let z : ◌≡◌ {A = ℕ} 0 1 = cc in absurd (omega arith)
    go false d f = ltb-false n (2 ^ 64) d

-- A word stands for no less than what is left of it behind its first letters.
letter_more : (l : ℕ) (w : Word) → weight w ≤ weight (l ∷ w)
unfolding weight
letter_more zero w = omega arith
letter_more (suc zero) w = omega arith
letter_more (suc (suc zero)) w = omega arith
letter_more (suc (suc (suc zero))) w = omega arith
letter_more (suc (suc (suc (suc x)))) w = omega arith

weight_drop : (i : ℕ) (w : Word) → weight (drop i w) ≤ weight w
weight_drop zero w = le_refl (weight w)
weight_drop (suc i) [] = le_refl (weight [])
weight_drop (suc i) (l ∷ w) = le_trans (weight_drop i w) (letter_more l w)

pub drop_less : (i : ℕ) (w : Word) → total (chain_of (drop i w)) ≤ total (chain_of w)
drop_less i w = omega (arith, total_chain_of (drop i w), total_chain_of w, weight_drop i w)
