-- `item_at` answers the field of the item's bytes: so few bytes make a number below 2^64.
use Rattle.std.proofs.Common.{◌∙◌}
use Rattle.lines.proofs.LineLaws.{field_whole}
use Rattle.lines.proofs.item_at.Goals as goal

pub returns : goal.returns
returns g c =
    c.of.ensures ∙ rw (c.field_of.ensures, c.WIDTH.ensures) (field_whole c.args.line.now c.args.at _ g.met.T.Item.narrow)
