-- The tests in the order of the refusals. A record that passes the first two and gets no sum gets 10.
use Rattle.std.proofs.Common.{Err}
use mathlib.Core.Path.{◌≡◌, refl}
use mathlib.Core.Bool.{Bool, true, false, ◌||◌}
use mathlib.Core.List.{List}
use Prim.Native.Nat.{ℕ}
use lib.Dec.{ltb, leb}
use lib.ListN.{length}
use Rattle.chains.specs.Chains.{total}
use Rattle.refusals.specs.declared.Refusal.TheVariants.{TooLarge}
use Rattle.parts.specs.Parts.{limit}
use Rattle.words.specs.Records.{record_parts, beyond, chained_test, judged_of}
use Rattle.words.specs.Walks.{NoSum}
use Rattle.words.proofs.Judging.{outside, known, unchained, judged}
use Rattle.words.proofs.records.refusal.Goals as goal

-- o is the answer for the numbers, t for the pairs.
too_large : (l : List ℕ) → NoSum l → (o : Bool) → o ≡ (ltb 64 (length l) || beyond l) → o ≡ false
    → (t : Bool) → t ≡ chained_test (record_parts l) → t ≡ true → Err TooLarge ≡ judged_of l
too_large l none o eo inside t et chained = go (leb limit (total (record_parts l))) refl
  where
    go : (b : Bool) → leb limit (total (record_parts l)) ≡ b → Err TooLarge ≡ judged_of l
    go true d = rw (judged l o eo inside t et chained, d)
    go false d = absurd (none (total (record_parts l)) (rw (judged l o eo inside t et chained, d)))

pub returns-then-is_outside : goal.returns-then-is_outside
returns-then-is_outside c =
    outside _ _ c.is_outside.ensures c.if-is_outside.true

pub is_chained-requires : goal.is_chained-requires
is_chained-requires c =
    known _ _ c.is_outside.ensures c.if-is_outside.false

pub returns-then-not-is_chained : goal.returns-then-not-is_chained
returns-then-not-is_chained c =
    unchained _ _ c.is_outside.ensures c.if-is_outside.false _ c.is_chained.ensures c.if-not-is_chained.true

pub returns : goal.returns
returns c =
    too_large _ c.requires _ c.is_outside.ensures c.if-is_outside.false _
    c.is_chained.ensures c.if-not-is_chained.false
