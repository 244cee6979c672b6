-- `serve_word` replies with the chain of the word that stands in the line.
use mathlib.Core.Path.{refl}
use native.Mathlib.Omega.{arith}
use Rattle.lines.specs.Kinds.{row_of}
use Rattle.lines.specs.declared.Kind.TheVariants.{Word as word_line}
use Rattle.frames.specs.Replies.{served}
use Rattle.frames.proofs.CallLaws.{read_room, read_all, found_fits, found_handled}
use Rattle.frames.proofs.serve.serve_word.Goals as goal

pub slice_bounds-read_word-end : goal.slice_bounds-read_word-end
unfolding row_of
slice_bounds-read_word-end c =
    let s = c.before in
    omega (
      arith,
      read_room word_line _ _ _ s.requires c.letters_in-k.ensures.value (omega arith) _ _ c.letters_in-k.ensures.letters_after
          (omega arith) (omega arith),
    )

pub tell_found-requires : goal.tell_found-requires
tell_found-requires c =
    (found_fits _ _ c.before.args.scratch.now _ _ (omega arith) refl c.read_word-found.ensures.answer c.read_word-found.ensures.places (omega arith), omega arith)

pub returns : goal.returns
unfolding served row_of
returns c =
    let s = c.before in
    let w = read_all word_line _ _ _ s.requires c.letters_in-k.ensures.value (omega arith) _ _ c.letters_in-k.ensures.letters_after in
    rw (← w)
    (found_handled _ _ s.args.scratch.now _ _ (omega arith) refl c.read_word-found.ensures.answer c.read_word-found.ensures.places (omega arith) _
    c.read_word-found.ensures.scratch c.tell_found.ensures)
