-- `giving::place` meets its contract: there is room for the rows, so the position is told.
use Rattle.std.proofs.Common.{refl, sym, ◌∙◌}
use Rattle.std.proofs.Math.Nat.{le_of_eq}
use Rattle.ranking.specs.Giving.{placed_at}
use Rattle.counting.specs.RankedLaws.{told_before}
use Rattle.lent.specs.LentLaws.{whole_zeroed}
use Rattle.ranking.proofs.Answers.{told_position, told_refusal}
use Rattle.ranking.proofs.giving.place.Goals as goal

pub returns-in_err-position : goal.returns-in_err-position
returns-in_err-position c =
    let h = le_of_eq (sym c.told-scratch) in record {
      value = λ w m e. absurd (told_refusal c.args.n w (told_before h w m e c.position_of.ensures.position_told) c.in_err-position.was);
      scratch_after = c.position_of.ensures.scratch_after ∙ whole_zeroed _ c.told-scratch;
    }

pub returns : goal.returns
unfolding placed_at
returns c =
    let h = le_of_eq (sym c.told-scratch) in record {
      value = λ w m e. rw (told_position c.args.n w (told_before h w m e c.position_of.ensures.position_told) c.in_ok-position.was) refl;
      scratch_after = c.position_of.ensures.scratch_after ∙ whole_zeroed _ c.told-scratch;
    }
