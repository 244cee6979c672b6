-- `raise` writes row b and then row b + 1, which is as it was until then.
use Rattle.bench.proofs.PlanLoops.{raised_over}
use Rattle.bench.proofs.moving.raise.Goals as goal

pub returns : goal.returns
returns c = raised_over _ _ _
