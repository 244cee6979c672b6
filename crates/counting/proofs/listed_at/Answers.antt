-- `listed_at` meets its contract: behind the count there is no word, and before it the walk finds it.
use Rattle.std.proofs.Common.{Some}
use Rattle.std.proofs.Common.{◌≡◌, ℕ, ◌<◌, sym, ◌∙◌, ap₂, arith, rules}
use Rattle.lent.specs.Lent.{zeros}
use Rattle.lent.specs.LentLaws.{whole_zeroed}
use Rattle.chains.specs.Listing.{count}
use Rattle.counting.specs.Forward.{Found}
use Rattle.counting.specs.Ranked.{listed_at}
use Rattle.counting.specs.RankedLaws.{listed_past, listed_there}
use Rattle.counting.proofs.listed_at.Goals as goal

there : {n i rises marks : ℕ} → i < count n → Found n i rises marks
    → Some (record { position = i; rises = rises; marks = marks }) ≡ listed_at n i
there {n} {i} h f = ap₂ (λ (x y : ℕ). Some (record { position = i; rises = x; marks = y })) f.rising f.marking ∙ sym (listed_there n i h)

pub returns-then-count-i : goal.returns-then-count-i
unfolding zeros
returns-then-count-i c =
    let s = c.before in
    record { value = sym (listed_past _ _ (omega (arith, c.count_in-count.ensures, c.if-count-i.true))); scratch_after = c.clear_scratch.ensures ∙ whole_zeroed _ (search rules) }

pub word_in-word-requires : goal.word_in-word-requires
word_in-word-requires c =
    record { rows = c.before.requires; number = c.count_in-count.ensures; within = omega (arith, c.count_in-count.ensures, c.if-count-i.false) }

pub returns : goal.returns
unfolding zeros
returns c =
    let s = c.before in record { value = there (omega (arith, c.count_in-count.ensures, c.if-count-i.false)) c.word_in-word.ensures; scratch_after = c.clear_scratch-2.ensures ∙ whole_zeroed _ (search rules) }
