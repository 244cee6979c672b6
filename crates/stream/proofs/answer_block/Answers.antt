-- `answer_block` has its lines answered where enough is lent, then zeroes what is left of `kept` and the scratch.
use mathlib.Core.Path.{◌≡◌, sym, ◌∙◌}
use mathlib.Core.List.{List}
use Prim.Native.Nat.{ℕ}
use lib.ListN.{take}
use Rattle.lent.specs.Lent.{filled, memory_left}
use Rattle.lent.specs.LentLaws.{used_left}
use Rattle.stream.specs.Answers.{used_of, kept_left}
use Rattle.stream.specs.AnswerLaws.{lent_enough}
use Rattle.stream.specs.Pieces.{Keeps}
use Rattle.stream.proofs.answer_block.Goals as goal

-- What is kept, once the places behind it are zeroed.
kept_alone : (line entry kept : List ℕ) (n : ℕ) → Keeps line entry kept n
    → filled 515 (take n kept) kept ≡ filled 515 (take 515 line) entry
unfolding filled
kept_alone line entry kept n k = rw (k.first, k.rest.later)

pub returns-clause-kept : goal.returns-clause-kept
unfolding used_of kept_left
returns-clause-kept c =
    rw (sym c.is_little.ensures ∙ c.if-is_little.false) (c.clear_behind.ensures ∙ kept_alone _ _ _ _ c.answer_lines-gone.ensures.keeps)

pub returns-clause-scratch : goal.returns-clause-scratch
unfolding memory_left
returns-clause-scratch c =
    let n = sym c.is_little.ensures ∙ c.if-is_little.false in
    rw n (c.clear_scratch.ensures ∙ used_left (lent_enough _ _ _ _ n).memory.numbers c.answer_lines-gone.ensures.only_first)
