-- `back::walk_back` meets its contract: each turn passes the highest bit of what is left of the path, the letter where b rises last,
-- and fills its row.
use Rattle.std.proofs.Common.{◌≡◌, refl, ℕ, suc, ◌+◌, ◌-◌, ◌/◌, ◌%◌, ◌^◌, ◌<◌, ◌≤◌, false, List, length, ◌∙◌, mod-eq_of_lt, arith, rules}
use mathlib.Core.List.{Memᴰ}
use lib.Count.{ones}
use Rattle.std.proofs.lemmas.Nat.{ones_le_self, zero_from_ones}
use Rattle.chains.specs.Words.{Word}
use Rattle.chains.specs.Listing.{list_of, count_before, ways}
use Rattle.lent.specs.LentLaws.{used_none, used_on}
use Rattle.grid.specs.Grid.{rest_at}
use Rattle.counting.specs.Table.{CountRows, CountsFilled}
use Rattle.counting.specs.Back.{TopOf, BackAsked, path_to, turned, BackAt, Going}
use Rattle.counting.specs.BackLaws.{top_ones, top_place, back_start, back_more, back_can, back_next, back_fits, back_end}
use Rattle.counting.proofs.back.walk_back.Goals as goal

begin : {n path b : ℕ} {scratch : List ℕ} → n < 2 ^ 64 → BackAsked n path b scratch → Going n path scratch scratch path b 0
begin f a =
    record {
      rows = record { rows = a.rows; used = used_none };
      rises = a.rises;
      low = a.low;
      along = λ w m h e. rw e (back_start f m h);
    }

-- A turn passes the bit `bit`.
module _ {n path : ℕ} {entry scratch : List ℕ} {left row before bit below : ℕ} (fits : n < 2 ^ 64)
    (g : Going n path entry scratch left row before) (t : TopOf left bit below) (last : bit < 64) where
  down : row - 1 ≡ ones below
  down = omega (arith, g.rises, top_ones t)

  some_row : 1 ≤ row
  some_row = omega (arith, g.rises, top_ones t)

  column : row - 1 ≤ bit
  column = omega (arith, down, top_place t)

  asked : CountRows n (suc (row - 1)) scratch × (bit - (row - 1) < 64) × (row - 1 < 41)
  asked =
      let e : row ≡ suc (row - 1) = omega (arith, some_row) in
      (rw e at g.rows.rows, omega arith, omega (arith, g.low))

  module _ {r sum : ℕ} {l : List ℕ}
      (told : 2 ≤ rest_at n (bit - (row - 1)) (row - 1) → rest_at n (bit - (row - 1)) (row - 1) % 3 ≤ 1
      → r ≡ ways false (rest_at n (bit - (row - 1)) (row - 1) / 2))
      (filled : CountsFilled n (row - 1) scratch l) (added : sum ≡ (before + r) % 2 ^ 64) where
    counted : (w : Word) → Memᴰ w (list_of n) → 0 < length w → path ≡ path_to w (length w - 1) → BackAt n w below sum
    counted w m h e =
        let k = g.along w m h e in
        let is : r ≡ turned n below bit = rw down at told (back_more fits m k t) (back_can fits m k t) in
        let exact : sum ≡ before + turned n below bit = added ∙ rw is (mod-eq_of_lt (back_fits fits m k t)) in
        rw exact (back_next fits m k t)

    more : Going n path entry l below (row - 1) sum
    more =
        record {
          rows = record { rows = filled.rows; used = used_on g.rows.used filled.used };
          rises = down;
          low = omega (arith, g.low);
          along = counted;
        }

-- What is left of the path has a one for each row that is left.
some_left : (left row : ℕ) → row ≡ ones left → 0 < row → 0 < left
some_left left row e h = omega (arith, e, ones_le_self left)

-- No row is left, so nothing of the path.
module _ {n path : ℕ} {entry scratch : List ℕ} {left row before : ℕ} (fits : n < 2 ^ 64)
    (g : Going n path entry scratch left row before) (h : row ≤ 0) where
  none : left ≡ 0
  none = zero_from_ones left (omega (arith, g.rises))

  bottom : CountsFilled n 0 entry scratch
  bottom =
      let e : row ≡ 0 = omega arith in
      rw e at g.rows

  all_counted : (w : Word) → Memᴰ w (list_of n) → 0 < length w → path ≡ path_to w (length w - 1) → before ≡ count_before w (list_of n)
  all_counted w m l e = back_end fits m (rw none at (g.along w m l e))

pub loop-row-init : goal.loop-row-init
loop-row-init c = begin (search rules) c.requires

pub top_of-top-requires : goal.top_of-top-requires
top_of-top-requires c = some_left _ _ c.loop-row.invariant.rises c.loop-row-test.true

pub overflow_sub-top : goal.overflow_sub-top
overflow_sub-top c = column (search rules) c.loop-row.invariant c.top_of-top.ensures.0 c.top_of-top.ensures.1

pub rising_a-rising-requires : goal.rising_a-rising-requires
rising_a-rising-requires c = asked (search rules) c.loop-row.invariant c.top_of-top.ensures.0 c.top_of-top.ensures.1

pub loop-row-preserved : goal.loop-row-preserved
loop-row-preserved c =
    more (search rules) c.loop-row.invariant c.top_of-top.ensures.0 c.top_of-top.ensures.1 c.rising_a-rising.ensures.value
    c.rising_a-rising.ensures.counts_filled refl

pub returns : goal.returns
returns c =
    record {
      value = all_counted (search rules) c.loop-row.invariant c.loop-row-test.false;
      counts_filled = bottom (search rules) c.loop-row.invariant c.loop-row-test.false;
    }
