-- `giving::give_parts` meets its contract: the parts that two numbers hold are those of the chain at the position.
use Rattle.std.proofs.Common.{rules, arith}
use Rattle.ranking.proofs.Answers.{at_given}
use Rattle.ranking.proofs.giving.give_parts.Goals as goal

pub returns : goal.returns
returns c =
    λ t. at_given (search rules) t (omega (arith, c.told-places)) c.put_parts-k.ensures.answer c.put_parts-k.ensures.places
