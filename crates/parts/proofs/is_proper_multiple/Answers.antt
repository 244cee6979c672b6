-- `parts::is_proper_multiple` meets its contract. Of 0 only 0 is a multiple; a proper multiple of any other y is above y, and a
-- number above y is one if dividing by y leaves nothing.
use mathlib.Core.Path.{◌≡◌, sym, ◌∙◌}
use mathlib.Core.Logic.{◌↔◌}
use mathlib.Core.Bool.{true, false}
use Prim.Native.Nat.{ℕ, ◌*◌, ◌/◌, ◌%◌, ◌≤◌, ◌<◌}
use native.Mathlib.Nat.{mul-zero, mul-mod_left, mul-le-mul_right, div-add-mod', lt_of_not-le}
use native.Mathlib.Omega.{arith}
use lib.Dec.{eqb}
use borrow.Author.Tests.{eqb-true, eq-eqb}
use Rattle.chains.specs.Chains.{ProperMultiple}
use Rattle.parts.proofs.is_proper_multiple.Goals as goal

of_zero : (x y : ℕ) → y ≡ 0 → (eqb x 0 ≡ true) ↔ ProperMultiple x y
unfolding ProperMultiple
of_zero x y z = (
  (λ (e : eqb x 0 ≡ true). (2, omega arith, omega (arith, eqb-true x 0 e))),
  (λ (m : ProperMultiple x y). eq-eqb x 0 (m.2 ∙ rw (z, mul-zero m.0))),
)

not_above : (x y : ℕ) → x ≤ y → (y ≡ 0 → ⊥) → (false ≡ true) ↔ ProperMultiple x y
unfolding ProperMultiple
not_above x y h p = (
  (λ (e : false ≡ true). let z : ◌≡◌ {A = ℕ} 0 1 = cc in absurd (omega arith)),
  (λ (m : ProperMultiple x y). absurd (p (omega (arith, m.2, mul-le-mul_right y m.1)))),
)

by_rest : (x y : ℕ) → y < x → (y ≡ 0 → ⊥) → (eqb (x % y) 0 ≡ true) ↔ ProperMultiple x y
unfolding ProperMultiple
by_rest x y h p = (
  (λ (e : eqb (x % y) 0 ≡ true).
      let whole : x / y * y ≡ x = omega (arith, div-add-mod' x y, eqb-true (x % y) 0 e) in
      (x / y, lt_of_not-le (λ (l : x / y ≤ 1). omega (arith, mul-le-mul_right y l)), sym whole)),
  (λ (m : ProperMultiple x y). eq-eqb (x % y) 0 (rw m.2 (mul-mod_left m.0 y))),
)

pub returns-then-y-eq0 : goal.returns-then-y-eq0
returns-then-y-eq0 c = of_zero _ _ c.if-y-eq0.true

pub returns-then-x-y : goal.returns-then-x-y
returns-then-x-y c = not_above _ _ c.if-x-y.true c.if-y-eq0.false

pub returns : goal.returns
returns c = by_rest _ _ c.if-x-y.false c.if-y-eq0.false
