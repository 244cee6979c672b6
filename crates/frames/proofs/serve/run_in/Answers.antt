-- `run_in` hands on the items of the line.
use native.Mathlib.Omega.{arith}
use Rattle.lines.specs.Kinds.{row_of}
use Rattle.lines.specs.declared.Kind.TheVariants.{Run as run_line}
use Rattle.frames.specs.Replies.{served}
use Rattle.frames.proofs.CallLaws.{read_room, read_all}
use Rattle.frames.proofs.serve.run_in.Goals as goal

pub slice_bounds-run_numbers-end : goal.slice_bounds-run_numbers-end
unfolding row_of
slice_bounds-run_numbers-end c =
    let s = c.before in
    omega (
      arith,
      read_room run_line _ _ _ s.requires c.numbers_in-k.ensures.value (omega arith) _ _ c.numbers_in-k.ensures.numbers_after
          (omega arith) (omega arith),
    )

pub returns : goal.returns
unfolding served row_of
returns c =
    let s = c.before in
    rw (← read_all run_line _ _ _ s.requires c.numbers_in-k.ensures.value (omega arith) _ _ c.numbers_in-k.ensures.numbers_after)
    c.run_numbers.ensures
