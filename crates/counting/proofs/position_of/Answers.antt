-- `position_of` meets its contract: the walk back tells the position, and the scratch is zeroed.
use Rattle.std.proofs.Common.{sym, ◌∙◌, arith, rules}
use Rattle.lent.specs.LentLaws.{whole_back, served_zeroed, refused_untouched}
use Rattle.counting.specs.RankedLaws.{position_served, position_refused}
use Rattle.counting.proofs.position_of.Goals as goal

pub returns-in_default : goal.returns-in_default
returns-in_default c =
    let h = c.in_default.ensures.cases in
    record { position_told = record { position = 0; answer = sym (position_refused _ h 0); exact = λ g w m e. absurd (omega arith) }; scratch_after = sym (refused_untouched _ h) }

pub returns : goal.returns
returns c =
    let h = c.in-Some.ensures.cases.enough in record { position_told = record { position = c.position_in-position.result; answer = sym (position_served _ h _); exact = λ g. c.position_in-position.ensures.value }; scratch_after = whole_back _ _ (search rules) c.clear_scratch.ensures ∙ sym (served_zeroed _ h) }
