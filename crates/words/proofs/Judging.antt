-- What the tests of a record say of what it gets: the tests in the order of the refusals, for the function that judges a record and
-- for the one that tells its refusal; a number past the table; and the packed answer for a refusal.
use Rattle.std.proofs.Common.{Ok, Err}
use mathlib.Core.Path.{◌≡◌, refl, sym, ◌∙◌}
use mathlib.Core.Bool.{Bool, true, false, cond, ◌||◌, or-true}
use mathlib.Core.List.{List}
use Prim.Native.Nat.{ℕ, ◌≤◌, ◌<◌}
use native.Mathlib.Omega.{arith}
use lib.Dec.{ltb, leb}
use lib.ListN.{length, get_or}
use Rattle.chains.specs.Chains.{total}
use Rattle.lent.specs.LentLaws.{neither}
use Rattle.refusals.specs.declared.Refusal.TheVariants.{UnknownPart, NotChained, TooLarge}
use Rattle.refusals.specs.declared.Refusal.{Refusal}
use Rattle.parts.specs.Parts.{limit}
use Rattle.words.specs.Records.{record_parts, beyond, chained_test, judged_of}
use Rattle.words.specs.RecordLaws.{number_known}
use Rattle.words.specs.Packed.{packed_by, packed_of}

-- o is the answer for the numbers, t for the pairs.
module _ (l : List ℕ) (o : Bool) (eo : o ≡ (ltb 64 (length l) || beyond l)) where
  pub outside : o ≡ true → Err UnknownPart ≡ judged_of l
  unfolding judged_of
  outside e = rw (← eo, e)

  pub known : o ≡ false → beyond l ≡ false
  known e = (neither (ltb 64 (length l)) (beyond l) (sym eo ∙ e)).1

  module _ (inside : o ≡ false) (t : Bool) (et : t ≡ chained_test (record_parts l)) where
    pub unchained : t ≡ false → Err NotChained ≡ judged_of l
    unfolding judged_of
    unchained e = rw (← eo, inside, ← et, e)

    pub judged : t ≡ true → judged_of l ≡ cond (leb limit (total (record_parts l))) (Err TooLarge) (Ok (total (record_parts l)))
    unfolding judged_of
    judged chained = rw (← eo, inside, ← et, chained)

-- A number past the table.
pub not_known : (l : List ℕ) (i : ℕ) → i < length l → 1344 ≤ get_or l i 0 → Err UnknownPart ≡ judged_of l
not_known l i h k = go (beyond l) refl
  where
    go : (b : Bool) → beyond l ≡ b → Err UnknownPart ≡ judged_of l
    go true e = outside l true (rw (e, or-true)) refl
    go false e = absurd (omega (arith, number_known l i e h))

-- A refusal is packed as it is.
pub refused : (l : List ℕ) (r : Refusal) → Err r ≡ judged_of l → Err r ≡ packed_of l
unfolding packed_of packed_by
refused l r e = rw (← e)
