-- The pairs passed are all proper multiples, so what is left of the record, from the last number passed on, decides: this is the
-- invariant. A part is a proper multiple of another exactly if it stands above it.
use mathlib.Core.Path.{◌≡◌}
use Prim.Native.Nat.{◌-◌}
use lib.ListN.{drop}
use Rattle.words.specs.Records.{record_parts, chained_test}
use Rattle.words.proofs.records.is_chained.Given as goal

abbrev pub invariant-loop-i : goal.invariant-loop-i
invariant-loop-i l = chained_test (record_parts l.numbers) ≡ chained_test (record_parts (drop (l.i - 1) l.numbers))
