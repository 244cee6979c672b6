-- `parts::number_of` meets its contract. A point past the bounds of a part, or past the digits of 3^b, is 2^64 or more; any other
-- has its rank for a number.
use mathlib.Core.Path.{◌≡◌, sym, ap, ◌∙◌}
use mathlib.Core.Logic.{◌⊎◌, inl, inr, ⊎_elim}
use Rattle.std.specs.Prelude.{Some, None}
use Prim.Native.Nat.{ℕ, ◌+◌, ◌*◌, ◌/◌, ◌≤◌, ◌<◌}
use native.Mathlib.Nat.{mul-le-mul}
use native.Mathlib.Omega.{arith}
use borrow.Author.Tests.{le-leb, lt-leb}
use Rattle.chains.specs.Chains.{Part, value}
use Rattle.parts.specs.Parts.{limit, number_of}
use Rattle.chains.proofs.Bounds.{part_bounds}
use Rattle.parts.proofs.Numbers.{inside, rank, outside_over, inside_found, number_rank, number_none, number_at}
use Rattle.parts.proofs.number_of.Goals as goal

-- Past the bounds of a part.
far : (p : Part) → (63 < p.a) ⊎ (40 < p.b) → None ≡ number_of p
far p h =
    sym (number_none p (λ (l : value p < limit).
    ⊎_elim (λ (g : 63 < p.a). omega (arith, part_bounds p l)) (λ (g : 40 < p.b). omega (arith, part_bounds p l)) h))

-- Past the digits of 3^b, and not.
module _ (p : Part) (across : p.a ≤ 63) (upward : p.b ≤ 40) where
  over : 63 < p.a + 1623 * p.b / 1024 → None ≡ number_of p
  unfolding inside
  over h =
      let large = outside_over p (omega arith) (omega arith) (lt-leb (p.a + 1623 * p.b / 1024) 63 h) in
      sym (number_none p (λ (l : value p < limit). omega arith))

  module _ (h : p.a + 1623 * p.b / 1024 ≤ 63) where
    low : value p < limit
    unfolding inside
    low = (inside_found p (omega arith) (omega arith) (le-leb (p.a + 1623 * p.b / 1024) 63 h)).0

    number : Some (rank p.a p.b) ≡ number_of p
    number = ap Some (sym (number_rank p low)) ∙ sym (number_at p low)

-- The products in a rank are small.
abbrev Small : ℕ → ℕ → Type 0
Small a b = (a * b ≤ 2520) × (b * (203 * b + 328) ≤ 337920) × (a * (323 * a + 832) ≤ 1334403)

small_products : (a b : ℕ) → a ≤ 63 → b ≤ 40 → Small a b
small_products a b ha hb =
    let line-b : 203 * b + 328 ≤ 8448 = omega arith in
    let line-a : 323 * a + 832 ≤ 21181 = omega arith in
    (mul-le-mul ha hb, mul-le-mul hb line-b, mul-le-mul ha line-a)

pub returns-then-a-gt63 : goal.returns-then-a-gt63
returns-then-a-gt63 c = far _ (inl c.if-a-gt63.true)

pub returns-then-b-gt40 : goal.returns-then-b-gt40
returns-then-b-gt40 c = far _ (inr c.if-b-gt40.true)

pub returns-then-a-b-gt63 : goal.returns-then-a-b-gt63
returns-then-a-b-gt63 c = over _ c.if-a-gt63.false c.if-b-gt40.false c.if-a-b-gt63.true

pub overflow_mul-number : goal.overflow_mul-number
overflow_mul-number c =
    omega (arith, small_products _ _ c.if-a-gt63.false c.if-b-gt40.false)

pub overflow_mul-number-3 : goal.overflow_mul-number-3
overflow_mul-number-3 c =
    omega (arith, small_products _ _ c.if-a-gt63.false c.if-b-gt40.false)

pub overflow_add-number-2 : goal.overflow_add-number-2
overflow_add-number-2 c =
    omega (arith, small_products _ _ c.if-a-gt63.false c.if-b-gt40.false)

pub overflow_add-number-3 : goal.overflow_add-number-3
overflow_add-number-3 c =
    omega (arith, small_products _ _ c.if-a-gt63.false c.if-b-gt40.false)

pub overflow_mul-number-5 : goal.overflow_mul-number-5
overflow_mul-number-5 c =
    omega (arith, small_products _ _ c.if-a-gt63.false c.if-b-gt40.false)

pub overflow_add-number-5 : goal.overflow_add-number-5
overflow_add-number-5 c =
    omega (arith, small_products _ _ c.if-a-gt63.false c.if-b-gt40.false)

pub overflow_add-number-6 : goal.overflow_add-number-6
overflow_add-number-6 c =
    omega (arith, small_products _ _ c.if-a-gt63.false c.if-b-gt40.false)

pub overflow_cast-result : goal.overflow_cast-result
overflow_cast-result c =
    omega (arith, small_products _ _ c.if-a-gt63.false c.if-b-gt40.false)

pub returns : goal.returns
unfolding rank
returns c = number _ c.if-a-gt63.false c.if-b-gt40.false c.if-a-b-gt63.false
