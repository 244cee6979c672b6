-- `read_fields` writes the values one after the other: after i turns the first i stand.
use Rattle.std.proofs.Common.{map}
use Rattle.lines.proofs.Fields.{Stand}
use Rattle.lines.proofs.read_fields.Given as goal

abbrev pub invariant-loop-i : goal.invariant-loop-i
invariant-loop-i g l = Stand l.line l.from g.T.Item.WIDTH (map g.T.Item.value l.initial.places) (map g.T.Item.value l.places) l.i
