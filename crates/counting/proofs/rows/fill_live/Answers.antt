-- `rows::fill_live` meets its contract. Each turn fills one column more from the one right of it, whose number for the reader after
-- a has risen is carried along, and from the row above, of which only columns that are not filled over yet are read. The bits of
-- the masks are the factors by which the number above counts or not. Each sum is a number of ways, which is at most the rest, so
-- nothing wraps.
use Rattle.std.proofs.Common.{◌≡◌, ℕ, suc, ◌+◌, ◌-◌, ◌*◌, ◌/◌, ◌%◌, ◌^◌, ◌<◌, ◌≤◌, true, false, List, length, get_or, set, sym, refl, ◌∙◌, arith, rules}
use lib.Pow.{shr_le}
use Rattle.counting.specs.CellLaws.{cell_at_1, cell_after_a, cell_free}
use Rattle.chains.specs.Listing.{ways}
use Rattle.grid.specs.Grid.{RowFilled}
use Rattle.grid.specs.Rests.{half_of_rest, third_of_rest}
use Rattle.grid.specs.Masks.{ones_of, zeros_of}
use Rattle.grid.specs.MaskLaws.{ones_bit, zeros_bit}
use Rattle.grid.specs.Fill.{ahead_all, ahead_still, column, read_above}
use Rattle.chains.proofs.Counts.{ways_at_most}
use Rattle.counting.specs.Table.{count_cell, LiveAsked}
use Rattle.counting.proofs.rows.fill_live.Invariants.{Filling}
use Rattle.counting.proofs.rows.fill_live.Goals as goal

begin : {b m q up top : ℕ} {entry : List ℕ} → LiveAsked b m q up top entry → Filling b m up entry entry 1 top
begin p =
    record {
      filled = record { row = p.filled; same = refl; later = refl };
      ahead = ahead_all _ _ _;
      last = p.last;
      live = omega (arith, p.at_top);
      carried = rw p.at_top (sym (cell_at_1 false));
    }

-- The two numbers that a turn makes for column a, by the masks.
abbrev risen_at : ℕ → ℕ → List ℕ → ℕ → ℕ → ℕ
risen_at ones up part right a = right + get_or part (up + a) 0 * (ones / 2 ^ a % 2)

abbrev free_at : ℕ → ℕ → ℕ → List ℕ → ℕ → ℕ → ℕ
free_at ones zeros up part right a = risen_at ones up part right a + get_or part (up + a) 0 * (zeros / 2 ^ a % 2)

-- A turn, at the column left of a.
module _ {b m q up top ones zeros : ℕ} {entry part : List ℕ} {right a : ℕ} (p : LiveAsked b m q up top entry)
    (f : Filling b m up entry part right a) (h : 0 < a) (fits : m < 2 ^ 64) (o : ones ≡ ones_of m q) (z : zeros ≡ zeros_of m q) where
  half : m / 2 ^ (a - 1) / 2 ≡ m / 2 ^ a
  half =
      let e : suc (a - 1) ≡ a = omega arith in
      half_of_rest m (a - 1) ∙ rw e

  two : 2 ≤ m / 2 ^ (a - 1)
  two = omega (arith, half, f.live)

  within : up + (a - 1) < length part
  within = omega (arith, p.asked.room, f.last, f.filled.same)

  above : 1 ≤ m / 2 ^ (a - 1) / 3 → get_or part (up + (a - 1)) 0 ≡ ways true (m / 2 ^ (a - 1) / 3)
  above left =
      read_above count_cell (a - 1) p.asked f.ahead (omega arith) (omega (arith, f.last))
      (rw (p.asked.third, third_of_rest m (a - 1)) left)
      ∙ rw (p.asked.third, third_of_rest m (a - 1))

  risen : risen_at ones up part right (a - 1) ≡ ways false (m / 2 ^ (a - 1))
  risen =
      rw (o, f.carried, p.asked.third, ones_bit m (a - 1), ← half)
      (cell_after_a (m / 2 ^ (a - 1)) (get_or part (up + (a - 1)) 0) two above)

  free : free_at ones zeros up part right (a - 1) ≡ ways true (m / 2 ^ (a - 1))
  free =
      rw (risen, z, p.asked.third, zeros_bit m (a - 1) fits (omega (arith, f.last)))
      (cell_free (m / 2 ^ (a - 1)) (get_or part (up + (a - 1)) 0) two above)

  below : free_at ones zeros up part right (a - 1) < 2 ^ 64
  below = omega (arith, free, ways_at_most true (m / 2 ^ (a - 1)) (omega (arith, two)), shr_le m (a - 1))

  next : Filling b m up entry (set part (a - 1) (free_at ones zeros up part right (a - 1))) (risen_at ones up part right (a - 1)) (a - 1)
  next =
      record {
        filled =
            column count_cell (free_at ones zeros up part right (a - 1)) (omega arith) (omega (arith, f.last))
            (omega (arith, p.asked.room)) free f.filled;
        ahead = ahead_still (free_at ones zeros up part right (a - 1)) p.asked.apart (omega arith) (omega (arith, f.last)) f.ahead;
        last = omega (arith, f.last);
        live = omega (arith, two);
        carried = risen;
      }

end : {b m up : ℕ} {entry part : List ℕ} {right a : ℕ} → Filling b m up entry part right a → a ≤ 0
    → RowFilled count_cell b m 0 entry part
end {a = a} f h =
    let e : a ≡ 0 = omega arith in
    rw e at f.filled

pub loop-a-init : goal.loop-a-init
loop-a-init c =
    begin c.requires

pub overflow_add-above : goal.overflow_add-above
overflow_add-above c =
    omega (arith, c.requires.asked.room, c.loop-a.invariant.last)

pub bounds-part-up : goal.bounds-part-up
bounds-part-up c =
    within c.requires c.loop-a.invariant c.loop-a-test.true (search rules) c.ones-ones.ensures
    c.zeros-zeros.ensures

pub overflow_mul-right : goal.overflow_mul-right
overflow_mul-right c =
    omega (arith, below c.requires c.loop-a.invariant c.loop-a-test.true (search rules) c.ones-ones.ensures c.zeros-zeros.ensures)

pub overflow_add-right : goal.overflow_add-right
overflow_add-right c =
    omega (arith, below c.requires c.loop-a.invariant c.loop-a-test.true (search rules) c.ones-ones.ensures c.zeros-zeros.ensures)

pub overflow_mul-part : goal.overflow_mul-part
overflow_mul-part c =
    omega (arith, below c.requires c.loop-a.invariant c.loop-a-test.true (search rules) c.ones-ones.ensures c.zeros-zeros.ensures)

pub overflow_add-part : goal.overflow_add-part
overflow_add-part c =
    omega (arith, below c.requires c.loop-a.invariant c.loop-a-test.true (search rules) c.ones-ones.ensures c.zeros-zeros.ensures)

pub loop-a-preserved : goal.loop-a-preserved
loop-a-preserved c =
    next c.requires c.loop-a.invariant c.loop-a-test.true (search rules) c.ones-ones.ensures
    c.zeros-zeros.ensures

pub shape_of-part : goal.shape_of-part
shape_of-part c =
    c.loop-a.invariant.filled.same

pub returns : goal.returns
returns c =
    end c.loop-a.invariant c.loop-a-test.false
