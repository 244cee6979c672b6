-- `count_up_to` answers the count where enough is lent, and zeroes the table.
use Rattle.std.proofs.Common.{Ok, sym, ap, ◌∙◌, rules}
use Rattle.lent.specs.LentLaws.{whole_back, refused_untouched, served_zeroed}
use Rattle.limited.specs.Promises.{up_to_served, up_to_refused}
use Rattle.limited.proofs.count_up_to.Goals as goal

pub returns-in_default : goal.returns-in_default
returns-in_default c =
    let h = c.in_default.ensures.cases in
    record { answer = sym (up_to_refused _ _ _ h); scratch = sym (refused_untouched _ h) }

pub returns : goal.returns
returns c =
    let h = c.in-Some.ensures.cases.enough in
    record {
      answer = ap Ok c.count-count.ensures ∙ sym (up_to_served _ _ _ h);
      scratch = whole_back _ _ (search rules) c.clear_first.ensures ∙ sym (served_zeroed _ h);
    }
