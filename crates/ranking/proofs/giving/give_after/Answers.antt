-- `giving::give_after` meets its contract: what stands one position on is given, or the list has ended.
use Rattle.std.proofs.Common.{◌≡◌, ℕ, sym, ◌∙◌, arith}
use Rattle.std.proofs.Math.Nat.{le_of_eq}
use Rattle.counting.specs.RankedLaws.{told_after}
use Rattle.lent.specs.LentLaws.{whole_zeroed}
use Rattle.ranking.proofs.giving.give_after.Goals as goal

pub returns-in_err-listed : goal.returns-in_err-listed
returns-in_err-listed c =
    let h = le_of_eq (sym c.told-scratch) in record {
      given = λ w m e.
          let z : ◌≡◌ {A = ℕ} 0 1 = cc (told_after h w m e c.word_after.ensures.next_told, c.in_err-listed.was) in absurd (omega arith);
      scratch_after = c.word_after.ensures.scratch_after ∙ whole_zeroed _ c.told-scratch;
    }

pub returns : goal.returns
returns c =
    let h = le_of_eq (sym c.told-scratch) in record {
      given = λ w m e. c.give_listed.ensures _ (cc (told_after h w m e c.word_after.ensures.next_told, c.in_ok-listed.was));
      scratch_after = c.word_after.ensures.scratch_after ∙ whole_zeroed _ c.told-scratch;
    }
