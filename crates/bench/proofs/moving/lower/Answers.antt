-- `lower` writes row b and then row b + 1, which is as it was until then.
use Rattle.bench.proofs.PlanLoops.{lowered_over}
use Rattle.bench.proofs.moving.lower.Goals as goal

pub returns : goal.returns
returns c = lowered_over _ _ _
