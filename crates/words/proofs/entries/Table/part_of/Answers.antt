-- The code of a number is 64 × b + a, and a is below 64.
use mathlib.Core.Path.{◌≡◌, ap, ◌∙◌}
use mathlib.Core.List.{List}
use Prim.Native.Nat.{ℕ, ◌/◌, ◌%◌, ◌<◌}
use native.Mathlib.Omega.{arith}
use lib.ListN.{length, get_or}
use Rattle.chains.proofs.Divides.{same_part_lem}
use Rattle.parts.specs.Parts.{part_at}
use Rattle.parts.specs.Codes.{codes}
use Rattle.parts.proofs.CodeLaws.{codes_count, code_a, code_b}
use Rattle.words.proofs.entries.Table.part_of.Goals as goal

module _ (t : List ℕ) (e : t ≡ codes) where
  long : length t ≡ 1344
  long = ap length e ∙ codes_count

  across : (i : ℕ) → i < 1344 → get_or t i 0 % 64 ≡ (part_at i).a
  across i h = ap (λ s. get_or s i 0 % 64) e ∙ code_a i h

  upward : (i : ℕ) → i < 1344 → get_or t i 0 / 64 ≡ (part_at i).b
  upward i h = ap (λ s. get_or s i 0 / 64) e ∙ code_b i h

pub bounds-self-from : goal.bounds-self-from
bounds-self-from c =
    omega (arith, c.from.ensures, long _ c.args.self.whole)

pub returns : goal.returns
returns c =
    rw (c.from-2.ensures, c.from-3.ensures, c.from.ensures)
    (same_part_lem _ _ (across _ c.args.self.whole _ c.requires) (upward _ c.args.self.whole _ c.requires))
