-- Below `name`, each saved state is a chain of n.
use Rattle.bench.proofs.StateLaws.{SavedBelow}
use Rattle.bench.proofs.states.is_sound.Given as goal

abbrev pub invariant-loop-name : goal.invariant-loop-name
invariant-loop-name l = SavedBelow l.n l.name l.bench
