-- p has no lower exponent, and one that is higher.
use mathlib.Core.Path.{◌≡◌, refl}
use mathlib.Core.Logic.{◌↔◌}
use mathlib.Core.Bool.{Bool, true, false, ◌||◌, false≢true}
use Prim.Native.Nat.{◌≤◌}
use native.Mathlib.Omega.{arith}
use lib.Dec.{ltb}
use borrow.Author.Tests.{ltb-true, ltb-false}
use Rattle.chains.specs.Chains.{Part}
use Rattle.chains.specs.Divides.{Above}
use Rattle.words.proofs.records.is_above.Goals as goal

module _ (p q : Part) where
  no : ¬ Above p q → (false ≡ true) ↔ Above p q
  no h = (λ e. absurd (false≢true e), λ a. absurd (h a))

  by_either : q.a ≤ p.a → q.b ≤ p.b → ((ltb q.a p.a || ltb q.b p.b) ≡ true) ↔ Above p q
  by_either h k = go (ltb q.a p.a) refl (ltb q.b p.b) refl
    where
      go : (r : Bool) → ltb q.a p.a ≡ r → (s : Bool) → ltb q.b p.b ≡ s → ((r || s) ≡ true) ↔ Above p q
      go true e s f = (λ _. record { across = h; upward = k; apart = omega (arith, ltb-true q.a p.a e) }, λ _. refl)
      go false e true f = (λ _. record { across = h; upward = k; apart = omega (arith, ltb-true q.b p.b f) }, λ _. refl)
      go false e false f = no (λ a. omega (arith, a.apart, ltb-false q.a p.a e, ltb-false q.b p.b f))

pub returns-then-p-q : goal.returns-then-p-q
returns-then-p-q c =
    no _ _ (λ a. omega (arith, a.across, c.if-p-q.true))

pub returns-then-p-q-2 : goal.returns-then-p-q-2
returns-then-p-q-2 c =
    no _ _ (λ a. omega (arith, a.upward, c.if-p-q-2.true))

pub returns : goal.returns
returns c =
    by_either _ _ c.if-p-q.false c.if-p-q-2.false
