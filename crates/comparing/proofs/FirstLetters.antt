-- The order of two words by their first letters: the lower one comes earlier, and where the letters are the same the rests decide. A
-- letter may be any number, so that eight letters taken as one are a letter too.
use mathlib.Core.Path.{◌≡◌, refl}
use mathlib.Core.Bool.{true, false, not}
use mathlib.Core.List.{◌∷◌}
use Prim.Native.Nat.{ℕ, ◌<◌}
use native.Mathlib.Nat.{le_refl}
use native.Mathlib.Decide.{dec_lt}
use native.Mathlib.Omega.{arith}
use borrow.Author.Tests.{lt-ltb, le-ltb, eq-eqb, ne_eqb}
use Rattle.std.specs.declared.cmp.Ordering.{Ordering}
use Rattle.std.specs.declared.cmp.Ordering.TheVariants.{Less, Equal, Greater}
use Rattle.std.specs.Ordering.{nat_cmp, ordering_then, ordering_index}
use lib.Dec.{eqb}
use Rattle.chains.specs.Words.{Word}
use Rattle.chains.specs.Listing.{before}
use Rattle.comparing.specs.Answers.{order_of}

pub order_first : (x y : ℕ) (s t : Word) → order_of (x ∷ s) (y ∷ t) ≡ ordering_then (nat_cmp x y) (order_of s t)
unfolding order_of before
order_first x y s t = go (dec_lt x y) (dec_lt y x)
  where
    go : Dec (x < y) → Dec (y < x) → order_of (x ∷ s) (y ∷ t) ≡ ordering_then (nat_cmp x y) (order_of s t)
    go (yes h) k = rw (lt-ltb x y h)
    go (no h) (yes k) = rw (le-ltb x y (omega arith), ne_eqb x y (omega arith), lt-ltb y x k)
    go (no h) (no k) =
        let e : x ≡ y = omega arith in
        rw (e, le-ltb y y (le_refl y), eq-eqb y y refl)

-- What a first letter that differs decides, and what one that does not leaves to the rest.
pub decided : (o p : Ordering) → not (eqb (ordering_index o) 1) ≡ true → o ≡ ordering_then o p
decided Less p t = refl
decided Equal p t = cc
decided Greater p t = refl

pub passed : (o p : Ordering) → not (eqb (ordering_index o) 1) ≡ false → ordering_then o p ≡ p
passed Less p t = cc
passed Equal p t = refl
passed Greater p t = cc
