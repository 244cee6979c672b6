-- `live_columns` meets its contract: the leading zeros and the length in bits make 64.
use mathlib.Core.Path.{◌≡◌}
use Prim.Native.Nat.{◌-◌, ◌^◌, ◌<◌}
use native.Mathlib.Omega.{arith}
use lib.Count.{count_leading_zeros, leading_length}
use Rattle.grid.proofs.live_columns.Goals as goal

pub returns : goal.returns
returns c =
    let m = c.args.m in
    let fits : m < 2 ^ 64 = omega arith in
    let l = leading_length 64 m fits in
    let e : 64 - count_leading_zeros 64 m ≡ l.0 = omega (arith, l.1) in
    rw e (omega (arith, l.1), l.2, l.3)
