-- `serve_kind` serves a fit line as its kind.
use Rattle.std.proofs.Common.{◌≡◌, Result, Ok, ap, ◌∙◌, List, ℕ}
use Rattle.refusals.specs.declared.Refusal.{Refusal}
use Rattle.lines.specs.declared.Kind.{Kind}
use Rattle.lines.specs.Lines.{shape_of, Fit}
use Rattle.lines.proofs.LineLaws.{fit_line}
use Rattle.frames.specs.Replies.{reply_to, served}
use Rattle.frames.specs.ReplyLaws.{reply_fit}
use Rattle.frames.specs.Calls.{Handled, FitAs}
use Rattle.frames.proofs.serve.serve_kind.Goals as goal

-- The line is fit, as the kind k, and its reply is that kind's.
module _ (k kind : Kind) (line : List ℕ) (f : FitAs kind line) (e : kind ≡ k) where
  fit_shape : shape_of line ≡ Ok k
  fit_shape = f ∙ ap Ok e

  fits : Fit line k
  fits = fit_line line k fit_shape

  handled : {r : Result ℕ Refusal} {s s' o o' : List ℕ} → Handled (served k line) r s s' o o' → Handled (reply_to line) r s s' o o'
  handled h = rw (reply_fit line k fit_shape) h

pub returns-in-Count : goal.returns-in-Count
returns-in-Count c = handled _ _ _ c.requires c.in-Count.is c.serve_count.ensures

pub serve_best-requires : goal.serve_best-requires
serve_best-requires c = fits _ _ _ c.requires c.in-Best.is

pub returns-in-Best : goal.returns-in-Best
returns-in-Best c = handled _ _ _ c.requires c.in-Best.is c.serve_best.ensures

pub returns-in-At : goal.returns-in-At
returns-in-At c = handled _ _ _ c.requires c.in-At.is c.serve_at.ensures

pub serve_record-requires : goal.serve_record-requires
serve_record-requires c = fits _ _ _ c.requires c.in-Record.is

pub returns-in-Record : goal.returns-in-Record
returns-in-Record c = handled _ _ _ c.requires c.in-Record.is c.serve_record.ensures

pub serve_word-requires : goal.serve_word-requires
serve_word-requires c = fits _ _ _ c.requires c.in-Word.is

pub returns-in-Word : goal.returns-in-Word
returns-in-Word c = handled _ _ _ c.requires c.in-Word.is c.serve_word.ensures

pub serve_next-requires : goal.serve_next-requires
serve_next-requires c = fits _ _ _ c.requires c.in-Next.is

pub returns-in-Next : goal.returns-in-Next
returns-in-Next c = handled _ _ _ c.requires c.in-Next.is c.serve_next.ensures

pub serve_run-requires : goal.serve_run-requires
serve_run-requires c = fits _ _ _ c.requires c.in-Run.is

pub returns-in-Run : goal.returns-in-Run
returns-in-Run c = handled _ _ _ c.requires c.in-Run.is c.serve_run.ensures

pub serve_tree-requires : goal.serve_tree-requires
serve_tree-requires c = fits _ _ _ c.requires c.in-Tree.is

pub returns-in-Tree : goal.returns-in-Tree
returns-in-Tree c = handled _ _ _ c.requires c.in-Tree.is c.serve_tree.ensures

pub serve_to_tree-requires : goal.serve_to_tree-requires
serve_to_tree-requires c = fits _ _ _ c.requires c.in-ToTree.is

pub returns-in-ToTree : goal.returns-in-ToTree
returns-in-ToTree c = handled _ _ _ c.requires c.in-ToTree.is c.serve_to_tree.ensures
