-- `tell_tree` hands on the items of the line.
use native.Mathlib.Omega.{arith}
use Rattle.lines.specs.Kinds.{row_of}
use Rattle.lines.specs.declared.Kind.TheVariants.{ToTree as to_tree_line}
use Rattle.frames.specs.Replies.{served}
use Rattle.frames.proofs.CallLaws.{read_room, read_all}
use Rattle.frames.proofs.serve.tell_tree.Goals as goal

pub slice_bounds-tell_tree_of-end : goal.slice_bounds-tell_tree_of-end
unfolding row_of
slice_bounds-tell_tree_of-end c =
    let s = c.before in
    omega (
      arith,
      read_room to_tree_line _ _ _ s.requires c.numbers_in-k.ensures.value (omega arith) _ _ c.numbers_in-k.ensures.numbers_after
          (omega arith) (omega arith),
    )

pub returns : goal.returns
unfolding served row_of
returns c =
    let s = c.before in
    rw (← read_all to_tree_line _ _ _ s.requires c.numbers_in-k.ensures.value (omega arith) _ _ c.numbers_in-k.ensures.numbers_after)
    c.tell_tree_of.ensures
