-- `item_of` answers the number of the characters: so few of them make a number below 2^64.
use Rattle.std.proofs.Common.{◌∙◌, arith}
use Rattle.digits.proofs.DigitLaws.{number_fits}
use Rattle.lines.proofs.LineLaws.{number_whole}
use Rattle.lines.proofs.item_of.Goals as goal

pub returns : goal.returns
returns g c =
    let fits = number_fits c.args.part.now (omega (arith, c.requires, g.met.T.Item.narrow)) in
    c.of.ensures ∙ number_whole g.T.Item.WIDTH c.args.part.now _ c.requires (omega (arith, fits, c.read_number-number.ensures))
