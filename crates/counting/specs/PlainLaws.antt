-- The two cases of the plain count (PlainCount).
use Rattle.std.specs.Prelude.{Ok, Err}
use Rattle.std.specs.Prelude.{◌≡◌, ℕ, ◌<◌, ◌≤◌}
use Rattle.std.proofs.Common.{le-leb}
use Rattle.std.proofs.lemmas.Bool.{lt-leb}
use Rattle.chains.specs.Listing.{count}
use Rattle.refusals.specs.declared.Refusal.TheVariants.{TooLargeToCount}
use Rattle.counting.specs.PlainCount.{plain_of}

pub plain_served : (n : ℕ) → n ≤ 65535 → plain_of n ≡ Ok (count n)
unfolding plain_of
plain_served n h = rw (le-leb n 65535 h)

pub plain_refused : (n : ℕ) → 65535 < n → plain_of n ≡ Err TooLargeToCount
unfolding plain_of
plain_refused n h = rw (lt-leb n 65535 h)
