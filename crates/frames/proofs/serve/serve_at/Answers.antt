-- `serve_at` replies with the chain at the position that the line asks for.
use mathlib.Core.Path.{refl, ◌∙◌}
use native.Mathlib.Omega.{arith}
use Rattle.lines.proofs.LineLaws.{field_fits}
use Rattle.frames.specs.Replies.{served}
use Rattle.frames.proofs.CallLaws.{found_fits, found_handled}
use Rattle.frames.proofs.serve.serve_at.Goals as goal

pub tell_found-requires : goal.tell_found-requires
tell_found-requires c =
    (found_fits _ _ c.args.scratch.now _ _ (omega arith) refl c.chain_at-found.ensures.answer c.chain_at-found.ensures.places (omega arith), omega arith)

pub returns : goal.returns
unfolding served
returns c =
    let line = c.args.line.now in
    let n = c.field_of.ensures ∙ field_fits line 1 8 (omega arith) in
    let i = c.field_of-2.ensures ∙ field_fits line 9 8 (omega arith) in
    rw (← n, ← i) (found_handled _ _ c.args.scratch.now _ _ (omega arith) refl c.chain_at-found.ensures.answer c.chain_at-found.ensures.places
    (omega arith) _ c.chain_at-found.ensures.scratch c.tell_found.ensures)
