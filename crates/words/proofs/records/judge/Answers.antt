-- The three tests in the order of the refusals, each as the function before it answers.
use Rattle.std.proofs.Common.{Option, ok_or, ◌∙◌}
use mathlib.Core.Path.{◌≡◌, refl}
use mathlib.Core.Bool.{Bool, true, false, ◌||◌}
use mathlib.Core.List.{List}
use Prim.Native.Nat.{ℕ}
use lib.Dec.{ltb}
use lib.ListN.{length}
use borrow.Author.Tests.{ltb-true, ltb-false, le-leb, lt-leb}
use Rattle.chains.specs.Chains.{total}
use Rattle.refusals.specs.declared.Refusal.TheVariants.{TooLarge}
use Rattle.parts.specs.Parts.{limit, sum_of}
use Rattle.words.specs.Records.{record_parts, beyond, chained_test, judged_of}
use Rattle.words.proofs.Judging.{outside, known, unchained, judged}
use Rattle.words.proofs.records.judge.Goals as goal

-- The sum of the parts: o is the answer for the numbers, t for the pairs.
summed : (l : List ℕ) (o : Bool) → o ≡ (ltb 64 (length l) || beyond l) → o ≡ false → (t : Bool) → t ≡ chained_test (record_parts l) → t ≡ true
    → (s : Option ℕ) → s ≡ sum_of (total (record_parts l)) → ok_or s TooLarge ≡ judged_of l
unfolding sum_of
summed l o eo inside t et chained s e = go (ltb whole limit) refl
  where
    whole : ℕ
    whole = total (record_parts l)

    go : (b : Bool) → ltb whole limit ≡ b → ok_or s TooLarge ≡ judged_of l
    go true d = rw (e, d, judged l o eo inside t et chained, lt-leb limit whole (ltb-true whole limit d))
    go false d = rw (e, d, judged l o eo inside t et chained, le-leb limit whole (ltb-false whole limit d))

pub returns-then-is_outside : goal.returns-then-is_outside
returns-then-is_outside c =
    outside _ _ c.is_outside.ensures c.if-is_outside.true

pub is_chained-requires : goal.is_chained-requires
is_chained-requires c =
    known _ _ c.is_outside.ensures c.if-is_outside.false

pub returns-then-not-is_chained : goal.returns-then-not-is_chained
returns-then-not-is_chained c =
    unchained _ _ c.is_outside.ensures c.if-is_outside.false _ c.is_chained.ensures c.if-not-is_chained.true

pub sum_of-requires : goal.sum_of-requires
sum_of-requires c =
    known _ _ c.is_outside.ensures c.if-is_outside.false

pub returns : goal.returns
returns c =
    c.ok_or.ensures.value ∙ summed _ _ c.is_outside.ensures c.if-is_outside.false _ c.is_chained.ensures c.if-not-is_chained.false _ c.sum_of.ensures
