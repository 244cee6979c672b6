-- What the table count answers: document 01, 'Services and memory' and 'What a refused line or call gets'. What it leaves in the
-- scratch is `scratch_left` (lent).
-- The definition only. The laws are in TableLaws.
use Rattle.std.specs.Prelude.{Result, Ok, Err}
use Rattle.std.specs.Prelude.{ℕ, cond, List}
use Rattle.chains.specs.Listing.{count}
use Rattle.lent.specs.Lent.{little_scratch}
use Rattle.refusals.specs.declared.Refusal.{Refusal}
use Rattle.refusals.specs.declared.Refusal.TheVariants.{LittleLent}

-- The count of n, and refusal 1 where the scratch is too small.
unfoldable pub counted_of : ℕ → List ℕ → Result ℕ Refusal
counted_of n scratch = cond (little_scratch scratch) (Err LittleLent) (Ok (count n))
