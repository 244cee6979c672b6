-- The record of no parts, a first number past the table, and the way back from the largest part.
use Rattle.std.proofs.Common.{Ok}
use mathlib.Core.Path.{◌≡◌, refl}
use mathlib.Core.List.{List, [], ◌∷◌}
use Prim.Native.Nat.{ℕ}
use native.Mathlib.Omega.{arith}
use lib.ListN.{length}
use Rattle.chains.specs.Chains.{total}
use Rattle.chains.specs.Words.{word_of}
use Rattle.words.specs.Records.{record_parts, beyond, chained_test, judged_of}
use Rattle.words.specs.Packed.{bits, packed_word, packed_by, packed_of}
use Rattle.words.proofs.Judging.{not_known, refused}
use Rattle.words.proofs.packing.pack.Goals as goal

none : (l : List ℕ) → length l ≡ 0 → Ok (record { n = 0; rises = 0; marks = 0; letters = 0 }) ≡ packed_of l
unfolding packed_of packed_by packed_word judged_of beyond chained_test record_parts total word_of bits
none [] e = refl
none (x ∷ l) e = absurd (omega arith)

pub returns-then-numbers-eq0 : goal.returns-then-numbers-eq0
returns-then-numbers-eq0 c =
    none _ c.if-numbers-eq0.true

pub returns-then-numbers-ge1344 : goal.returns-then-numbers-ge1344
returns-then-numbers-ge1344 c =
    refused _ _ (not_known _ _ (omega (arith, c.if-numbers-eq0.false)) c.if-numbers-ge1344.true)

pub part_of-largest-requires : goal.part_of-largest-requires
part_of-largest-requires c =
    c.if-numbers-ge1344.false

pub pack_back-requires : goal.pack_back-requires
pack_back-requires c =
    record {
      is_codes = c.args.table.whole;
      is_powers = c.powers-powers.ensures;
      some = omega (arith, c.if-numbers-eq0.false);
      known = c.if-numbers-ge1344.false;
      largest = c.part_of-largest.ensures;
    }
