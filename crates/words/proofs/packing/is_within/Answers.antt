-- The answer is that of the second test where the first one passes.
use mathlib.Core.Path.{◌≡◌, refl}
use mathlib.Core.Logic.{◌↔◌}
use mathlib.Core.Bool.{Bool, true, false, false≢true}
use Prim.Native.Nat.{◌≤◌}
use native.Mathlib.Omega.{arith}
use lib.Dec.{leb}
use borrow.Author.Tests.{leb-true, leb-false}
use Rattle.chains.specs.Chains.{Part}
use Rattle.words.proofs.packing.is_within.Goals as goal

module _ (q p : Part) where
  abbrev Within : Type 0
  Within = (q.a ≤ p.a) × (q.b ≤ p.b)

  no : ¬ Within → (false ≡ true) ↔ Within
  no h = (λ e. absurd (false≢true e), λ w. absurd (h w))

  by_second : q.a ≤ p.a → (leb q.b p.b ≡ true) ↔ Within
  by_second h = go (leb q.b p.b) refl
    where
      go : (r : Bool) → leb q.b p.b ≡ r → (r ≡ true) ↔ Within
      go true e = (λ _. (h, leb-true q.b p.b e), λ _. refl)
      go false e = no (λ w. omega (arith, w.1, leb-false q.b p.b e))

pub returns-then-p-q : goal.returns-then-p-q
returns-then-p-q c =
    no _ _ (λ w. omega (arith, w.0, c.if-p-q.true))

pub returns : goal.returns
returns c =
    by_second _ _ c.if-p-q.false
