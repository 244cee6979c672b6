-- The two quotients are constants, but for r.
use mathlib.Core.Path.{◌≡◌, refl}
use Prim.Native.Nat.{ℕ, zero, suc, ◌+◌, ◌-◌, ◌/◌, ◌^◌, ◌≤◌}
use native.Mathlib.Omega.{arith}
use Rattle.words.proofs.weights.largest.Goals as goal

one : (up : ℕ) → up ≤ 1 → (up ≡ 0 → ⊥) → up ≡ 1
one zero h e = absurd (e refl)
one (suc zero) h e = refl
one (suc (suc up)) h e = absurd (omega arith)

half : (up r : ℕ) → up ≡ 0 → r ≤ 1 → 9223372036854775807 ≡ (2 ^ 64 - 1 - r) / (2 + up)
half up r e h = rw e (omega arith)

third : (up r : ℕ) → up ≡ 1 → r ≤ 1 → 6148914691236517205 - r ≡ (2 ^ 64 - 1 - r) / (2 + up)
third up r e h = rw e (omega arith)

pub overflow_sub-result : goal.overflow_sub-result
overflow_sub-result c =
    omega (arith, c.requires.1)

pub returns-then-up-eq0 : goal.returns-then-up-eq0
returns-then-up-eq0 c =
    half _ _ c.if-up-eq0.true c.requires.1

pub returns-else-up-eq0 : goal.returns-else-up-eq0
returns-else-up-eq0 c =
    third _ _ (one c.args.up c.requires.0 c.if-up-eq0.false) c.requires.1
