-- `word_at` meets its contract: the rows are filled where there is room for them, and the word is found in them.
use Rattle.std.proofs.Common.{Ok}
use Rattle.std.proofs.Common.{ap, sym, ◌∙◌}
use Rattle.lent.specs.Lent.{filled, zeros}
use Rattle.lent.specs.LentLaws.{served_zeroed, refused_untouched}
use Rattle.counting.specs.RankedLaws.{list_served, list_refused}
use Rattle.counting.proofs.word_at.Goals as goal

pub returns-in_default : goal.returns-in_default
returns-in_default c =
    let h = c.in_default.ensures.cases in record { value = sym (list_refused _ h _); scratch_after = sym (refused_untouched _ h) }

pub listed_at-requires : goal.listed_at-requires
listed_at-requires c =
    c.fill_down.ensures.rows

pub returns : goal.returns
unfolding filled zeros
returns c =
    let h = c.in-Some.ensures.cases.enough in record { value = ap Ok c.listed_at.ensures.value ∙ sym (list_served _ h _); scratch_after = rw c.listed_at.ensures.scratch_after (sym (served_zeroed _ h)) }
