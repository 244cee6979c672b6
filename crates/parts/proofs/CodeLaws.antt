-- What a code and a power say of a part of the part table. The definitions are in Codes.
use Rattle.std.specs.Prelude.{◌≡◌, refl, List, [], ◌∷◌, map, ℕ, zero, suc, ◌+◌, ◌*◌, ◌^◌, ◌/◌, ◌%◌, ◌<◌, length, get_or}
use Rattle.std.proofs.Common.{◌∙◌, pow-suc, arith}
use Rattle.std.proofs.lemmas.List.{length-map}
use Rattle.chains.proofs.Bounds.{part_bounds}
use Rattle.parts.specs.Table.{parts}
use Rattle.parts.specs.Parts.{part_at}
use Rattle.parts.proofs.Numbers.{parts_count, part_value, part_below}
use Rattle.parts.specs.Codes.{code_of, codes, tripling, powers}

get_d_map : (f : ℕ → ℕ) (xs : List ℕ) (i : ℕ) → i < length xs → get_or (map f xs) i 0 ≡ f (get_or xs i 0)
get_d_map f [] i h = absurd (omega arith)
get_d_map f (x ∷ xs) zero h = refl
get_d_map f (x ∷ xs) (suc i) h = get_d_map f xs i (omega arith)

pub codes_count : length codes ≡ 1344
unfolding codes
codes_count = length-map parts code_of ∙ parts_count

-- The part of a number is told by its code.
module _ (i : ℕ) (h : i < 1344) where
  pub part_bounded : ((part_at i).a + (part_at i).b < 64) × ((part_at i).b < 41)
  part_bounded = part_bounds (part_at i) (omega (arith, part_value i h, part_below i h))

  pub code_at : get_or codes i 0 ≡ 64 * (part_at i).b + (part_at i).a
  unfolding codes code_of part_at
  code_at = get_d_map code_of parts i (omega (arith, parts_count))

  pub code_a : get_or codes i 0 % 64 ≡ (part_at i).a
  code_a = omega (arith, code_at, part_bounded)

  pub code_b : get_or codes i 0 / 64 ≡ (part_at i).b
  code_b = omega (arith, code_at, part_bounded)

pub powers_count : length powers ≡ 41
unfolding powers tripling
powers_count = refl

-- The power of 3 at b.
get_or_tripling : (k v b : ℕ) → b < k → get_or (tripling k v) b 0 ≡ v * 3 ^ b
unfolding tripling
get_or_tripling zero v b h = absurd (omega arith)
get_or_tripling (suc k) v zero h = omega arith
get_or_tripling (suc k) v (suc b) h = get_or_tripling k (3 * v) b (omega arith) ∙ rw pow-suc (omega arith)

pub power_at : (b : ℕ) → b < 41 → get_or powers b 0 ≡ 3 ^ b
unfolding powers
power_at b h = get_or_tripling 41 1 b h ∙ omega arith
