-- `giving::refuse` meets its contract: the scratch is zeroed.
use Rattle.std.proofs.Common.{refl, ◌∙◌}
use Rattle.lent.specs.LentLaws.{whole_zeroed}
use Rattle.ranking.proofs.giving.refuse.Goals as goal

pub returns : goal.returns
returns g c = record { value = refl; scratch_after = c.clear_scratch.ensures ∙ whole_zeroed _ c.told-scratch }
