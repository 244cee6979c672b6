-- `answer_lines` answers a line at each turn. The measure is what is left of the block.
use Rattle.stream.specs.AnswerLaws.{wrote_fits}
use Rattle.stream.proofs.Turns.{none_answered, one_more, no_room, all_used, all_wrote, rest_kept}
use borrow.Author.Rules.{rules}
use Rattle.stream.proofs.answer_lines.Goals as goal

pub loop-end-init : goal.loop-end-init
loop-end-init c =
    search (rules, none_answered)

pub overflow_sub-out : goal.overflow_sub-out
overflow_sub-out c =
    search (rules, wrote_fits)

pub returns-then-out-written-lt515 : goal.returns-then-out-written-lt515
returns-then-out-written-lt515 c =
    let t = c.loop-end.invariant in
    record { goes = no_room t c.if-out-written-lt515.true; wrote = t.wrote; keeps = t.keeps; only_first = t.rest }

pub loop-end-preserved : goal.loop-end-preserved
loop-end-preserved c =
    let f = c.finish_line-written.ensures in
    one_more c.loop-end.invariant _ _ _ _ _ c.in-Some.ensures.0 c.in-Some.ensures.1 c.requires.memory.numbers f.adds f.only_first f.scratch_after

pub returns : goal.returns
returns c =
    let t = c.loop-end.invariant in
    let u = c.in_default.ensures in
    record { goes = all_used t u; wrote = all_wrote t u; keeps = rest_kept t u _ _ c.keep.ensures; only_first = t.rest }
