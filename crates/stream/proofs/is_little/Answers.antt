-- `is_little` makes one test for each of the four.
use mathlib.Core.Path.{sym}
use native.Mathlib.Omega.{arith}
use Rattle.lent.specs.Lent.{scratch_size}
use Rattle.lent.specs.LentLaws.{little_scratch_lem, little_places}
use Rattle.stream.specs.AnswerLaws.{little_memory, few_kept, by_k}
use Rattle.stream.proofs.is_little.Goals as goal

pub returns-then-scratch-lt-SCRATCH : goal.returns-then-scratch-lt-SCRATCH
returns-then-scratch-lt-SCRATCH c = sym (little_memory _ _ _ _ (little_scratch_lem 515 _ _ (omega arith)))

pub returns-then-out-lt515 : goal.returns-then-out-lt515
returns-then-out-lt515 c = sym (little_memory _ _ _ _ (little_places scratch_size 515 _ _ (omega arith)))

pub returns-then-kept-lt515 : goal.returns-then-kept-lt515
returns-then-kept-lt515 c = sym (few_kept _ _ _ _ (omega arith))

pub returns : goal.returns
returns c = sym (by_k _ _ _ _ (omega arith) (omega arith) (omega arith))
