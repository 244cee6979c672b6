-- `table_count` meets its contract: the rows are filled where there is room for them, the count is read in the first cell, and the
-- scratch is zeroed.
use Rattle.std.proofs.Common.{Ok}
use Rattle.std.proofs.Common.{sym, ap, ◌∙◌, rules}
use Rattle.lent.specs.LentLaws.{whole_back, served_zeroed, refused_untouched}
use Rattle.counting.specs.TableLaws.{counted_served, counted_refused}
use Rattle.counting.proofs.table_count.Goals as goal

pub returns-in_default : goal.returns-in_default
returns-in_default c =
    record { value = sym (counted_refused _ _ c.in_default.ensures.cases); scratch_after = sym (refused_untouched _ c.in_default.ensures.cases) }

pub count_in-count-requires : goal.count_in-count-requires
count_in-count-requires c =
    c.fill_down.ensures.rows

pub returns : goal.returns
returns c =
    let h = c.in-Some.ensures.cases.enough in record { value = ap Ok c.count_in-count.ensures ∙ sym (counted_served _ _ h); scratch_after = whole_back _ _ (search rules) c.clear_scratch.ensures ∙ sym (served_zeroed _ h) }
