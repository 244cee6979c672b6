-- The part of a number is below 2^64, and its value goes by its exponents.
use mathlib.Core.Path.{◌≡◌, ap, ◌∙◌}
use Prim.Native.Nat.{ℕ, ◌^◌, ◌<◌}
use native.Mathlib.Omega.{arith}
use Rattle.chains.specs.Chains.{Part, value}
use Rattle.parts.specs.Parts.{part_at}
use Rattle.parts.proofs.Numbers.{part_value, part_below}
use Rattle.words.proofs.entries.value_of.Goals as goal

low : (i : ℕ) → i < 1344 → (p : Part) → p ≡ part_at i → value p < 2 ^ 64
low i h p e = omega (arith, ap value e, part_value i h, part_below i h)

pub value_at-requires : goal.value_at-requires
value_at-requires c =
    low _ c.requires _ c.part_of.ensures

pub returns : goal.returns
returns c =
    c.value_at.ensures ∙ ap value c.part_of.ensures
