-- `giving::give_word` meets its contract: a word stands in the list at its own position.
use Rattle.std.proofs.Common.{sym, ◌∙◌}
use Rattle.std.proofs.Math.Nat.{le_of_eq}
use Rattle.counting.specs.RankedLaws.{told_before}
use Rattle.lent.specs.LentLaws.{whole_zeroed}
use Rattle.ranking.proofs.Answers.{told_position, told_refusal, held_at}
use Rattle.ranking.proofs.giving.give_word.Goals as goal

pub returns-in_err-position : goal.returns-in_err-position
returns-in_err-position c =
    let h = le_of_eq (sym c.told-scratch) in record {
      given = λ w t. absurd (told_refusal c.args.n w (told_before h w t.member t.rising c.position_of.ensures.position_told) c.in_err-position.was);
      scratch_after = c.position_of.ensures.scratch_after ∙ whole_zeroed _ c.told-scratch;
    }

pub returns : goal.returns
returns c =
    let h = le_of_eq (sym c.told-scratch) in record {
      given = λ w t.
          let e = told_position c.args.n w (told_before h w t.member t.rising c.position_of.ensures.position_told) c.in_ok-position.was in
          rw (← e) (c.give_parts.ensures (rw e (held_at _ t.member t)));
      scratch_after = c.position_of.ensures.scratch_after ∙ whole_zeroed _ c.told-scratch;
    }
