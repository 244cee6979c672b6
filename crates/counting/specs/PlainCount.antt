-- What the plain count answers: document 01, 'Counting by the remainder' and 'What a refused line or call gets'.
-- The definition only. Its two cases are laws in PlainLaws.
use Rattle.std.specs.Prelude.{Result, Ok, Err}
use Rattle.std.specs.Prelude.{ℕ, cond, nat_le}
use Rattle.chains.specs.Listing.{count}
use Rattle.refusals.specs.declared.Refusal.{Refusal}
use Rattle.refusals.specs.declared.Refusal.TheVariants.{TooLargeToCount}

-- The count of n where n is at most 65,535, and refusal 12 above.
unfoldable pub plain_of : ℕ → Result ℕ Refusal
plain_of n = cond (nat_le n 65535) (Ok (count n)) (Err TooLargeToCount)
