-- The test before the product says whether the sum is below 2^64.
use Rattle.std.proofs.Common.{Some}
use mathlib.Core.Path.{◌≡◌, sym, ap, ◌∙◌}
use Prim.Native.Nat.{ℕ, zero, suc, ◌+◌, ◌-◌, ◌*◌, ◌/◌, ◌^◌, ◌≤◌, ◌<◌}
use native.Mathlib.Omega.{arith}
use Rattle.words.proofs.Sized.{sized_number, sized_over}
use Rattle.words.proofs.weights.scaled.Goals as goal

over : (n up r l : ℕ) → up ≤ 1 → r ≤ 1 → l ≡ (2 ^ 64 - 1 - r) / (2 + up) → l < n → 2 ^ 64 ≤ r + (2 + up) * n
over n zero r l h k e t = omega arith
over n (suc zero) r l h k e t = omega arith
over n (suc (suc up)) r l h k e t = absurd (omega arith)

below : (n up r l : ℕ) → up ≤ 1 → r ≤ 1 → l ≡ (2 ^ 64 - 1 - r) / (2 + up) → n ≤ l
    → (2 * n + up * n + r ≡ r + (2 + up) * n) × (r + (2 + up) * n < 2 ^ 64)
below n zero r l h k e t = (omega arith, omega arith)
below n (suc zero) r l h k e t = (omega arith, omega arith)
below n (suc (suc up)) r l h k e t = absurd (omega arith)

pub returns-then-largest-n : goal.returns-then-largest-n
returns-then-largest-n c =
    sym (sized_over _ (over _ _ _ _ c.requires.0 c.requires.1 c.largest.ensures c.if-largest-n.true))

pub overflow_mul-result : goal.overflow_mul-result
overflow_mul-result c =
    omega (
      arith,
      (let fits : (2 * c.args.n + c.args.up * c.args.n + c.args.r
          ≡ c.args.r + (2 + c.args.up) * c.args.n)
          × (c.args.r + (2 + c.args.up) * c.args.n < 2 ^ 64) = below _ _ _ _ c.requires.0 c.requires.1 c.largest.ensures c.if-largest-n.false in fits),
    )

pub overflow_mul-result-2 : goal.overflow_mul-result-2
overflow_mul-result-2 c =
    omega (
      arith,
      (let fits : (2 * c.args.n + c.args.up * c.args.n + c.args.r
          ≡ c.args.r + (2 + c.args.up) * c.args.n)
          × (c.args.r + (2 + c.args.up) * c.args.n < 2 ^ 64) = below _ _ _ _ c.requires.0 c.requires.1 c.largest.ensures c.if-largest-n.false in fits),
    )

pub overflow_add-result : goal.overflow_add-result
overflow_add-result c =
    omega (
      arith,
      (let fits : (2 * c.args.n + c.args.up * c.args.n + c.args.r
          ≡ c.args.r + (2 + c.args.up) * c.args.n)
          × (c.args.r + (2 + c.args.up) * c.args.n < 2 ^ 64) = below _ _ _ _ c.requires.0 c.requires.1 c.largest.ensures c.if-largest-n.false in fits),
    )

pub overflow_add-result-2 : goal.overflow_add-result-2
overflow_add-result-2 c =
    omega (
      arith,
      (let fits : (2 * c.args.n + c.args.up * c.args.n + c.args.r
          ≡ c.args.r + (2 + c.args.up) * c.args.n)
          × (c.args.r + (2 + c.args.up) * c.args.n < 2 ^ 64) = below _ _ _ _ c.requires.0 c.requires.1 c.largest.ensures c.if-largest-n.false in fits),
    )

pub returns : goal.returns
returns c =
    ap Some (let fits : (2 * c.args.n + c.args.up * c.args.n + c.args.r
    ≡ c.args.r + (2 + c.args.up) * c.args.n)
    × (c.args.r + (2 + c.args.up) * c.args.n < 2 ^ 64) = below _ _ _ _ c.requires.0 c.requires.1 c.largest.ensures c.if-largest-n.false in fits).0 ∙ sym (sized_number _ (let fits : (2 * c.args.n + c.args.up * c.args.n + c.args.r
    ≡ c.args.r + (2 + c.args.up) * c.args.n)
    × (c.args.r + (2 + c.args.up) * c.args.n < 2 ^ 64) = below _ _ _ _ c.requires.0 c.requires.1 c.largest.ensures c.if-largest-n.false in fits).1)
