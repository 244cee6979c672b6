-- The positions of a number with one chain or with two: document 02, T-11.
-- From the number alone (chains, Few): the chain at a position is refused with 6 from position 1 on exactly for the numbers named for one
-- chain, and from position 2 on exactly for those named for two.
use Rattle.std.specs.Prelude.{Err}
use Rattle.std.specs.Prelude.{◌≡◌, ◌↔◌, List, ℕ, ◌≤◌}
use Rattle.std.proofs.Math.Logic.Iff
use Rattle.std.proofs.Common.{le_refl}
use native.Mathlib.Omega.{arith}
use Rattle.chains.specs.Listing.{count}
use Rattle.chains.specs.Few.{NamedForOne, NamedForTwo}
use Rattle.chains.proofs.FewLaws.{one_chain, two_chains}
use Rattle.lent.specs.Lent.{Enough}
use Rattle.refusals.specs.declared.Refusal.TheVariants.{NoSuchPosition}
use Rattle.ranking.specs.Services.{lent, answer_of, at_position}
use Rattle.ranking.specs.RoundTrips.{position_refused}

-- Chain at a position refuses with 6 exactly from position k on.
unfoldable pub RefusedFrom : ℕ → ℕ → List ℕ → List ℕ → Type 0
RefusedFrom k n scratch places = (i : ℕ) → (answer_of (lent scratch places (at_position n i)) ≡ Err NoSuchPosition) ↔ (k ≤ i)

module _ (n : ℕ) (scratch places : List ℕ) (enough : Enough 64 scratch places) where
  -- The first position that is refused is the count.
  refused_from : (k : ℕ) → RefusedFrom k n scratch places ↔ (count n ≡ k)
  unfolding RefusedFrom
  refused_from k = (
    λ h.
        omega
        (arith, (at k).0 ((h k).1 (le_refl k)), (h (count n)).0 ((at (count n)).1 (le_refl (count n)))),
    λ e i. Iff.trans (at i) (λ l. omega arith, λ l. omega arith),
  )
    where
      at : (i : ℕ) → (answer_of (lent scratch places (at_position n i)) ≡ Err NoSuchPosition) ↔ (count n ≤ i)
      at i = position_refused n i scratch places enough

  pub one_refused : RefusedFrom 1 n scratch places ↔ NamedForOne n
  one_refused = Iff.trans (refused_from 1) (one_chain n)

  pub two_refused : RefusedFrom 2 n scratch places ↔ NamedForTwo n
  two_refused = Iff.trans (refused_from 2) (two_chains n)
