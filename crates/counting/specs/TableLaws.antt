-- The table count, case by case (TableCount), and that both counts agree where both serve.
use Rattle.std.specs.Prelude.{Ok, Err}
use Rattle.std.specs.Prelude.{◌≡◌, ℕ, ◌<◌, ◌≤◌, ◌↔◌, List, length}
use Rattle.std.proofs.Common.{sym, ap, ◌∙◌}
use Rattle.chains.specs.Listing.{count}
use Rattle.lent.specs.Lent.{scratch_size}
use Rattle.lent.specs.LentLaws.{scratch_little, scratch_enough}
use Rattle.refusals.specs.declared.Refusal.TheVariants.{LittleLent}
use Rattle.counting.specs.PlainCount.{plain_of}
use Rattle.counting.specs.PlainLaws.{plain_served}
use Rattle.counting.specs.TableCount.{counted_of}

pub counted_served : (n : ℕ) (scratch : List ℕ) → scratch_size ≤ length scratch → counted_of n scratch ≡ Ok (count n)
unfolding counted_of
counted_served n scratch h = rw (scratch_enough scratch h)

-- What it tells where it serves.
pub counted_is : (n k : ℕ) (scratch : List ℕ) → scratch_size ≤ length scratch → (counted_of n scratch ≡ Ok k) ↔ (count n ≡ k)
counted_is n k scratch h = (λ e. cc (e, counted_served n scratch h), λ e. counted_served n scratch h ∙ ap Ok e)

pub counted_refused : (n : ℕ) (scratch : List ℕ) → length scratch < scratch_size → counted_of n scratch ≡ Err LittleLent
unfolding counted_of
counted_refused n scratch h = rw (scratch_little scratch h)

-- Document 01, 'Counting by the remainder': both agree where both serve.
pub counts_agree : (n : ℕ) (scratch : List ℕ) → n ≤ 65535 → scratch_size ≤ length scratch → counted_of n scratch ≡ plain_of n
counts_agree n scratch h k = counted_served n scratch k ∙ sym (plain_served n h)
