-- `try_from` follows the cases of `kind_of`.
use Rattle.std.proofs.Common.{tests, rules}
use Rattle.bench.specs.Planning.{kind_of}
use Rattle.bench.proofs.amounts.KindTryFromU8.try_from.Goals as goal

pub returns-in-1 : goal.returns-in-1
unfolding kind_of
returns-in-1 c = search (rules, tests)

pub returns-in-2 : goal.returns-in-2
unfolding kind_of
returns-in-2 c = search (rules, tests)

pub returns-in_default : goal.returns-in_default
unfolding kind_of
returns-in_default c = search (rules, tests)
