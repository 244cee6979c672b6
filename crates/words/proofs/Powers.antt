-- A power of two below 2^64, as a shift makes it.
use mathlib.Core.Path.{◌≡◌}
use Prim.Native.Nat.{ℕ, ◌*◌, ◌%◌, ◌^◌, ◌<◌}
use native.Mathlib.Nat.{pow-suc, one-mul, mod-eq_of_lt, pow-le-pow_right}
use native.Mathlib.Omega.{arith}

pub power : (k : ℕ) → k < 64 → 1 * 2 ^ k % 2 ^ 64 ≡ 2 ^ k
power k h =
    rw (one-mul (2 ^ k)) (mod-eq_of_lt (omega (arith, pow-suc 2 k, pow-le-pow_right {n = 2} (omega arith) h)))
