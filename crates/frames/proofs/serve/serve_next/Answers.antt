-- `serve_next` replies with the chain after that of the word that stands in the line.
use mathlib.Core.Path.{refl}
use native.Mathlib.Omega.{arith}
use Rattle.lines.specs.Kinds.{row_of}
use Rattle.lines.specs.declared.Kind.TheVariants.{Next as next_line}
use Rattle.frames.specs.Replies.{served}
use Rattle.frames.proofs.CallLaws.{read_room, read_all, found_fits, found_handled}
use Rattle.frames.proofs.serve.serve_next.Goals as goal

pub slice_bounds-next_chain-end : goal.slice_bounds-next_chain-end
unfolding row_of
slice_bounds-next_chain-end c =
    let s = c.before in
    omega (
      arith,
      read_room next_line _ _ _ s.requires c.letters_in-k.ensures.value (omega arith) _ _ c.letters_in-k.ensures.letters_after
          (omega arith) (omega arith),
    )

pub tell_found-requires : goal.tell_found-requires
tell_found-requires c =
    (found_fits _ _ c.before.args.scratch.now _ _ (omega arith) refl c.next_chain-found.ensures.answer c.next_chain-found.ensures.places (omega arith), omega arith)

pub returns : goal.returns
unfolding served row_of
returns c =
    let s = c.before in
    let w = read_all next_line _ _ _ s.requires c.letters_in-k.ensures.value (omega arith) _ _ c.letters_in-k.ensures.letters_after in
    rw (← w)
    (found_handled _ _ s.args.scratch.now _ _ (omega arith) refl c.next_chain-found.ensures.answer c.next_chain-found.ensures.places (omega arith) _
    c.next_chain-found.ensures.scratch c.tell_found.ensures)
