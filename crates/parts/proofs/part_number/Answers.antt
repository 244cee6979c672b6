-- `part_number` meets its contract: a part below 2^64 has its number, and all 1344 entries are smaller than any other.
use Rattle.std.proofs.Common.{◌≡◌, refl, sym, ◌∙◌, Bool, true, false, unwrap_or, ltb}
use borrow.Author.Tests.{ltb-false}
use Rattle.chains.specs.Chains.{Part, value}
use Rattle.parts.specs.Parts.{limit, part_number, number_of}
use Rattle.parts.proofs.Numbers.{number_over}
use Rattle.parts.proofs.part_number.Goals as goal

number_or : (p : Part) (f : Bool) → ltb (value p) limit ≡ f → unwrap_or (number_of p) 1344 ≡ part_number p
unfolding number_of
number_or p true e = rw e refl
number_or p false e = rw e (sym (number_over p (ltb-false (value p) limit e)))

pub returns : goal.returns
returns c = c.unwrap_or.ensures ∙ rw c.number_of.ensures (number_or _ _ refl)
