-- The part that is copied is a state, and so is the place that it is put in.
use Rattle.std.proofs.Common.{◌∙◌}
use Rattle.bench.proofs.StateLaws.{state_copied}
use Rattle.bench.proofs.states.copy_state.Goals as goal

pub returns : goal.returns
returns c = c.copy_within.ensures.after ∙ state_copied c.args.from c.args.to c.args.bench.now
