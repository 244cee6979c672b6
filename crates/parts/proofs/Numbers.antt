-- The part table and part numbers: document 01, 'Parts and chains'. In this order: the tests of the table, each computed once over
-- all of it (count, ascent, product form, completeness); what they say of each entry, of each point and of each part; and that
-- numbers and parts lead to each other. The definitions are in Table and Parts, the laws that carry a test to each entry in Tests.
use Rattle.std.specs.Prelude.{◌≡◌, refl, Some, None, Bool, true, false, ◌&&◌, ℕ, ◌+◌, ◌*◌, ◌^◌, ◌/◌, ◌≤◌, ◌<◌, ltb, leb, length}
use Rattle.std.proofs.Common.{sym, ◌∙◌, le_of_suc-le-suc, lt_of_not-le, arith, ltb→lt, lt-ltb, le-ltb}
use Rattle.std.proofs.Math.Dec.{T, eqb, leb→le, eqb→eq}
use Rattle.std.specs.Float.Ieee.Fits.{and_l, and_r}
use Rattle.std.proofs.Math.ListN.{get_or, get_or-eq_default}
use Rattle.chains.specs.Chains.{Part, value}
use Rattle.chains.proofs.Divides.{value_pos, value_unique}
use Rattle.chains.proofs.Bounds.{part_bounds}
use Rattle.parts.specs.Table.{rows, joined, parts}
use Rattle.parts.specs.Parts.{limit, times, part_at, part_number, number_of}
use Rattle.parts.proofs.Tests.{each, at_each, below, at_below, ascending, ascending_pair, smaller_at, all_smaller}
use Rattle.parts.proofs.Tests.{in_32s, look, look_joined}

-- ---- the tests

pub parts_count : length parts ≡ 1344
unfolding parts joined rows
parts_count = refl

parts_ascending : T (ascending 0 parts)
unfolding ascending parts joined rows
parts_ascending = tt

-- v is the product of its powers of 2 and 3, and below 2^64.
is_product : ℕ → Bool
is_product v = eqb (2 ^ times 64 2 v * 3 ^ times 64 3 v) v && ltb v limit

parts_products : T (each is_product parts)
unfolding each is_product times parts joined rows
parts_products = tt

-- The point (a, b) is inside where 2^a × 3^b is below 2^64: 3^b has 1623 b / 1024 binary digits after the first. Right for a up to
-- 63 and b up to 40, by the test below.
unfoldable pub inside : ℕ → ℕ → Bool
inside a b = leb (a + 1623 * b / 1024) 63

-- The number of a point inside, without the table. The smaller parts are the a × b with both exponents smaller, those with b alone
-- smaller and those with a alone smaller. How many the latter two are is told by b and by a: nearly b² log₂3 / 2 and a² log₃2 / 2.
unfoldable pub rank : ℕ → ℕ → ℕ
rank a b = a * b + (b * (203 * b + 328) + 180) / 256 + (a * (323 * a + 832) + 400) / 1024

-- A point of value v is inside, and w, the table's entry at its rank, is v; or it is outside, and v is too large.
rightly : Bool → ℕ → ℕ → Bool
rightly true v w = ltb v limit && eqb w v
rightly false v w = leb limit v

at_rank : ℕ → ℕ → Bool
at_rank a b = rightly (inside a b) (2 ^ a * 3 ^ b) (look rows (rank a b))

all_at_rank : ℕ → Bool
all_at_rank a = below 41 (at_rank a)

parts_at_ranks : T (below 64 all_at_rank)
unfolding below all_at_rank at_rank rightly inside rank look rows
parts_at_ranks = tt

pub parts_in_32s : T (in_32s rows)
unfolding each in_32s rows
parts_in_32s = tt

-- ---- each entry

pub parts_ascend : (i j : ℕ) → i < j → j < 1344 → get_or parts i 0 < get_or parts j 0
parts_ascend i j l h = ascending_pair 0 parts parts_ascending i j l (omega (arith, parts_count))

product_at : (i : ℕ) → i < 1344 → (value (part_at i) ≡ get_or parts i 0) × (get_or parts i 0 < limit)
unfolding value part_at is_product
product_at i h =
    let v = get_or parts i 0 in
    let product = eqb (value (part_at i)) v in
    let t : T (product && ltb v limit) = at_each is_product parts parts_products i (omega (arith, parts_count)) in
    (eqb→eq (value (part_at i)) v (and_l product (ltb v limit) t), ltb→lt v limit (and_r product (ltb v limit) t))

-- An entry is the value of its part, and below 2^64.
pub part_value : (i : ℕ) → i < 1344 → value (part_at i) ≡ get_or parts i 0
part_value i h = (product_at i h).0

pub part_below : (i : ℕ) → i < 1344 → get_or parts i 0 < limit
part_below i h = (product_at i h).1

-- ---- each point

-- What the test of a point says, outside and inside.
module _ (p : Part) (across : p.a < 64) (upward : p.b < 41) where
  tested : T (rightly (inside p.a p.b) (value p) (get_or parts (rank p.a p.b) 0))
  unfolding value parts at_rank all_at_rank
  tested =
      rw (← look_joined rows parts_in_32s (rank p.a p.b))
      (at_below 41 (at_rank p.a) (at_below 64 all_at_rank parts_at_ranks p.a across) p.b upward)

  pub outside_over : inside p.a p.b ≡ false → limit ≤ value p
  unfolding rightly
  outside_over e = leb→le limit (value p) (rw e at tested)

  pub inside_found : inside p.a p.b ≡ true → (value p < limit) × (get_or parts (rank p.a p.b) 0 ≡ value p)
  unfolding rightly
  inside_found e =
      let v = value p in
      let w = get_or parts (rank p.a p.b) 0 in
      let t : T (ltb v limit && eqb w v) = rw e at tested in
      (ltb→lt v limit (and_l (ltb v limit) (eqb w v) t), eqb→eq w v (and_r (ltb v limit) (eqb w v) t))

-- ---- from a part to its number

-- The number of an entry's part.
number_of_entry : (i : ℕ) → i < 1344 → (p : Part) → get_or parts i 0 ≡ value p → part_number p ≡ i
unfolding part_number
number_of_entry i h p e = rw (← e) (smaller_at 0 parts parts_ascending i (omega (arith, parts_count)))

-- The table has each part below 2^64 at its rank.
at_rank_lem : (p : Part) → value p < limit → (rank p.a p.b < 1344) × (get_or parts (rank p.a p.b) 0 ≡ value p)
at_rank_lem p h = go (inside p.a p.b) refl
  where
    at : ℕ
    at = rank p.a p.b

    bounds : (p.a + p.b < 64) × (p.b < 41)
    bounds = part_bounds p h

    go : (f : Bool) → inside p.a p.b ≡ f → (at < 1344) × (get_or parts at 0 ≡ value p)
    go true e =
        let there = (inside_found p (omega (arith, bounds)) bounds.1 e).1 in
        let past : 1344 ≤ at → get_or parts at 0 ≡ 0 = λ l. get_or-eq_default parts 0 (omega (arith, parts_count)) in (
          lt_of_not-le (λ (l : 1344 ≤ at). omega (arith, there, value_pos p, past l)),
          there,
        )
    go false e = absurd (omega (arith, outside_over p (omega (arith, bounds)) bounds.1 e))

pub number_rank : (p : Part) → value p < limit → part_number p ≡ rank p.a p.b
number_rank p h = number_of_entry (rank p.a p.b) (at_rank_lem p h).0 p (at_rank_lem p h).1

-- Every part below 2^64 is in the table, at its number.
pub parts_complete : (p : Part) → value p < limit → (part_number p < 1344) × (get_or parts (part_number p) 0 ≡ value p)
parts_complete p h = rw (number_rank p h) (at_rank_lem p h)

-- All 1344 entries are smaller than a part of 2^64 or more.
pub number_over : (p : Part) → limit ≤ value p → part_number p ≡ 1344
unfolding part_number
number_over p h =
    all_smaller (value p) parts (λ i l. omega (arith, part_below i (omega (arith, parts_count)))) ∙ parts_count

-- The answer of `number_of`.
pub number_none : (p : Part) → (value p < limit → ⊥) → number_of p ≡ None
unfolding number_of
number_none p h = rw (le-ltb (value p) limit (le_of_suc-le-suc (lt_of_not-le h)))

pub number_at : (p : Part) → value p < limit → number_of p ≡ Some (part_number p)
unfolding number_of
number_at p h = rw (lt-ltb (value p) limit h)

-- ---- numbers and parts lead to each other

pub number_of_part : (i : ℕ) → i < 1344 → part_number (part_at i) ≡ i
number_of_part i h = number_of_entry i h (part_at i) (sym (part_value i h))

pub part_of_number : (p : Part) → value p < limit → part_at (part_number p) ≡ p
part_of_number p h =
    let there = parts_complete p h in
    value_unique (part_at (part_number p)) p (part_value (part_number p) there.0 ∙ there.1)
