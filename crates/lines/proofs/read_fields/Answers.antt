-- `read_fields` writes the values one after the other: after i turns the first i stand.
use Rattle.std.proofs.Common.{◌≡◌, List, ℕ, ◌+◌, ◌-◌, ◌*◌, arith}
use Rattle.std.proofs.lemmas.List.{map-set, length-map}
use borrow.Rule.Slice.PartMut.{mid_of}
use Rattle.digits.specs.Digits.{number_of}
use Rattle.lines.specs.Lines.{field}
use Rattle.lines.proofs.Fields.{no_field, more}
use Rattle.lines.proofs.read_fields.Goals as goal

-- What stands for the i-th value, where w is how many bytes it has, told once for its start and once for its end.
value : (line : List ℕ) (from i width w₁ w₂ v : ℕ) → w₁ ≡ width → w₂ ≡ width
    → v ≡ number_of (mid_of (2 * (from + w₁ * i)) (2 * (from + w₁ * i) + 2 * w₂ - 2 * (from + w₁ * i)) line)
    → v ≡ field line (from + width * i) width
unfolding field
value line from i width w₁ w₂ v d e h =
    let size : 2 * (from + width * i) + 2 * width - 2 * (from + width * i) ≡ 2 * width = omega arith in
    rw (d, e, size) at h

pub loop-i-init : goal.loop-i-init
loop-i-init g c = no_field _ _ _ _

pub loop-i-preserved : goal.loop-i-preserved
loop-i-preserved g c =
    let told = value c.args.line.now c.args.from c.loop-i.i _ _ _ _ c.WIDTH.ensures c.WIDTH-in-loop-i.ensures c.item_of.ensures in
    rw map-set
    (more c.args.line.now _ _ _ _ c.loop-i.i _ c.loop-i.invariant (rw length-map (omega arith)) told)
