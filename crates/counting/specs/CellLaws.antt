-- The cells of a table of counts (Table).
--
-- In this order: each cell from the one right of it and the one above it, with no choice on the remainder; reading a cell, and the
-- count of n.
use Rattle.std.specs.Prelude.{◌≡◌, ℕ, zero, suc, ◌+◌, ◌-◌, ◌*◌, ◌/◌, ◌%◌, ◌<◌, ◌≤◌, max, Bool, true, false, List, slice_index, refl}
use Rattle.std.proofs.Common.{◌∙◌, arith}
use Rattle.chains.specs.Listing.{ways, count}
use Rattle.chains.proofs.Counts.{
  count_ways,
  ways_rem_0_free,
  ways_rem_0_after_a,
  ways_rem_1,
  ways_rem_2,
  ways_at_most,
  ways_pos,
}
use Rattle.grid.specs.Grid.{rest_at, row_place}
use Rattle.grid.specs.Rests.{rest_origin}
use Rattle.grid.specs.Fill.{read_cell}
use Rattle.counting.specs.Table.{count_cell, CountRows}

-- ---- the cells

pub cell_at_1 : (f : Bool) → ways f 1 ≡ 1
cell_at_1 f = omega (arith, ways_at_most f 1 (omega arith), ways_pos f 1 (omega arith))

-- From a rest of 2 on, the remainder by three says whether the cell above counts: for the reader after a has risen where it is 1,
-- for the free reader also where it is 0. The two factors are 0 or 1. Where nothing is left above, x may be any number: the rest is
-- 2 then, and both factors are 0.
module _ (m x : ℕ) (two : 2 ≤ m) (above : 1 ≤ m / 3 → x ≡ ways true (m / 3)) where
  pub cell_after_a : ways false (m / 2) + x * (m % 3 % 2) ≡ ways false m
  cell_after_a = go (m % 3) refl
    where
      go : (r : ℕ) → m % 3 ≡ r → ways false (m / 2) + x * (r % 2) ≡ ways false m
      go zero e = omega (arith, ways_rem_0_after_a m (omega arith) e)
      go (suc zero) e = omega (arith, above (omega arith), ways_rem_1 false m e)
      go (suc (suc zero)) e = omega (arith, ways_rem_2 false m e)
      go (suc (suc (suc r))) e = absurd (omega arith)

  pub cell_free : ways false m + x * ((2 - m % 3) / 2) ≡ ways true m
  cell_free = go (m % 3) refl
    where
      go : (r : ℕ) → m % 3 ≡ r → ways false m + x * ((2 - r) / 2) ≡ ways true m
      go zero e = omega (arith, above (omega arith), ways_rem_0_free m (omega arith) e, ways_rem_0_after_a m (omega arith) e)
      go (suc zero) e = omega (arith, ways_rem_1 true m e, ways_rem_1 false m e)
      go (suc (suc zero)) e = omega (arith, ways_rem_2 true m e, ways_rem_2 false m e)
      go (suc (suc (suc r))) e = absurd (omega arith)

-- Where b can rise, the free reader counts both ways.
pub both_ways : (m : ℕ) → 1 ≤ m → m % 3 ≤ 1 → ways true m ≡ ways false (m / 2) + ways true (m / 3)
both_ways m h l = go (m % 3) refl
  where
    go : (r : ℕ) → m % 3 ≡ r → ways true m ≡ ways false (m / 2) + ways true (m / 3)
    go zero e = ways_rem_0_free m h e
    go (suc zero) e = ways_rem_1 true m e
    go (suc (suc r)) e = absurd (omega arith)

-- ---- reading

pub read_count : {n k : ℕ} {l : List ℕ} (a b : ℕ) → CountRows n k l → k ≤ b → b ≤ max k 6 → a < 64 → 1 ≤ rest_at n a b
    → slice_index l (row_place 0 6 b + a) ≡ ways true (rest_at n a b)
read_count a b r = read_cell 0 6 count_cell (omega arith) a b r

pub count_in_lem : (n : ℕ) (l : List ℕ) → 1 ≤ n → CountRows n 0 l → slice_index l 0 ≡ count n
count_in_lem n l h r =
    read_count 0 0 r (omega arith) (omega arith) (omega arith) (rw (rest_origin n) h) ∙ rw (rest_origin n, count_ways)
