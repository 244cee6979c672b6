-- `best_in` asks for the best chain with the limits and the prices that stand in the line.
use Rattle.frames.proofs.serve.best_in.Goals as goal

pub returns : goal.returns
returns c =
    record {
      value = rw (← c.limits_in.ensures, ← c.prices_in.ensures) c.best_chain.ensures.answer;
      places_after = rw (← c.limits_in.ensures, ← c.prices_in.ensures) c.best_chain.ensures.places;
      scratch_after = c.best_chain.ensures.scratch;
    }
