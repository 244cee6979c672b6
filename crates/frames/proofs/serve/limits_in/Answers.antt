-- `limits_in` reads three bytes at once: each limit is a byte of them.
use mathlib.Core.Path.{◌≡◌}
use mathlib.Core.List.{List}
use Prim.Native.Nat.{ℕ, ◌+◌, ◌*◌, ◌/◌, ◌%◌, ◌^◌}
use native.Mathlib.Omega.{arith}
use lib.ListN.{length}
use Rattle.lines.specs.Kinds.{row_of}
use Rattle.lines.specs.declared.Kind.TheVariants.{Best as best_line}
use Rattle.lines.specs.Lines.{field, bytes_in, Fit}
use Rattle.lines.proofs.LineLaws.{field_split, field_below}
use Rattle.frames.specs.Replies.{limits_in}
use Rattle.frames.proofs.serve.limits_in.Goals as goal

-- x is what was read.
module _ (line : List ℕ) (f : Fit line best_line) (x : ℕ) (e : x ≡ field line 9 3 % 2 ^ 64) where
  length_is : length line ≡ 40
  unfolding bytes_in row_of
  length_is = omega (arith, f.long)

  by_bytes : field line 9 3 ≡ field line 9 1 * 65536 + (field line 10 1 * 256 + field line 11 1)
  by_bytes =
      omega (arith, field_split line 9 1 2 (omega (arith, length_is)), field_split line 10 1 1 (omega (arith, length_is)))

  each : (x / 65536 % 256 ≡ field line 9 1) × (x / 256 % 256 ≡ field line 10 1) × (x % 256 ≡ field line 11 1)
  each =
      let k = field_below line 9 1 in
      let a = field_below line 10 1 in
      let b = field_below line 11 1 in
      (omega (arith, by_bytes), omega (arith, by_bytes), omega (arith, by_bytes))

pub returns : goal.returns
unfolding limits_in
returns c =
    let (parts, doublings, triplings) = each c.args.line.now c.requires c.field_of-three.result c.field_of-three.ensures in
    rw (parts, doublings, triplings)
