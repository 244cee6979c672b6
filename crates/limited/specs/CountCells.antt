-- A number of a block of counts, from the block to the right and the block above.
--
-- In this order: what is asked, at the start and while the block is filled; no part is allowed, or the rest is 1; from a rest of 2 on,
-- where the two neighbours stand in the memory, and the number of each reader by the remainder of the rest by three.
use Rattle.std.specs.Prelude.{◌≡◌, ◌≢◌, Bool, cond, List, length, get_or}
use Rattle.std.proofs.Math.Path.{refl, sym}
use Rattle.std.proofs.Common.{◌∙◌}
use Rattle.std.proofs.Math.Bool.{true, false}
use Prim.Native.Nat.{ℕ, zero, suc, ◌+◌, ◌-◌, ◌/◌, ◌%◌, ◌≤◌, ◌<◌}
use native.Mathlib.Omega.{arith}
use Rattle.chains.proofs.Members.{rises}
use Rattle.chains.proofs.PartLimit.{ways_up_to_step, ways_up_to_one, ways_up_to_none, ways_up_to_at_most}
use Rattle.limited.specs.Table.{Block, Filled}
use Rattle.limited.specs.TableLaws.{cell_still, read_right, read_above}
use Rattle.limited.specs.Cells.{count_in, counts, cell_in, CellAsked}

pub count_asked : {counting : Bool} (costs : List ℕ) (A B : ℕ) {b a m up most : ℕ} {l : List ℕ} → counting ≡ true
    → CellAsked (cell_in counting costs A B) b a m up most l → CellAsked counts b a m up most l
unfolding cell_in
count_asked costs A B e q = let p = rw e at q in record { lent = p.lent; some_left = p.some_left; few = p.few }

pub count_still : {g : Block} {b a m up most j : ℕ} {entry l : List ℕ} (k : ℕ) → CellAsked counts b a m up most entry
    → Filled g j entry l → k ≤ most → CellAsked counts b a m up k l
count_still = cell_still

module _ {b a m up k : ℕ} {l : List ℕ} (p : CellAsked counts b a m up k l) where
  pub count_none : (f : Bool) → k ≡ 0 → 0 ≡ count_in m f k
  count_none f e = rw e (sym (ways_up_to_none f m p.some_left))

  pub count_one : (f : Bool) → 1 ≤ k → m ≡ 1 → 1 ≡ count_in m f k
  count_one f h e = rw e (sym (ways_up_to_one k f h))

  pub count_fits : (f : Bool) → count_in m f k ≤ m
  count_fits f = ways_up_to_at_most k f m p.some_left

  module _ (one : 1 ≤ k) (two : 2 ≤ m) where
    abbrev beside : ℕ
    beside = get_or l (195 + k - m % 2) 0

    step : (f : Bool) (r : ℕ) → m % 3 ≡ r → count_in m f k ≡ beside + cond (rises f r) (count_in (m / 3) true (k - r)) 0
    step f r e =
        ways_up_to_step k f m two
        ∙ rw (e, ← read_right p.lent two (195 + k - m % 2) (k - m % 2) (omega arith) (omega arith))

    pub right_within : 195 + k - m % 2 < length l
    right_within = omega (arith, p.lent.right_room two, p.few)

    pub above_within : (r : ℕ) → m % 3 ≡ r → r ≤ 1 → up + k < length l
    above_within r e h = omega (arith, p.lent.above_room two (omega arith), p.few)

    -- The reader after a has risen goes up at the remainder 1 only,
    pub after_other : m % 3 ≢ 1 → beside ≡ count_in m false k
    unfolding rises
    after_other ne = go (m % 3) refl
      where
        go : (r : ℕ) → m % 3 ≡ r → beside ≡ count_in m false k
        go zero e = omega (arith, step false 0 e)
        go (suc zero) e = absurd (ne e)
        go (suc (suc r)) e = omega (arith, step false (suc (suc r)) e)

    pub after_one : m % 3 ≡ 1 → beside + get_or l (up + k - 1) 0 ≡ count_in m false k
    unfolding rises
    after_one e =
        omega (arith, step false 1 e, read_above p.lent two (up + k - 1) (k - 1) (omega arith) (omega arith) (omega arith))

    -- the free reader at the remainder 0 too.
    pub free_other : m % 3 ≢ 0 → count_in m false k ≡ count_in m true k
    unfolding rises
    free_other ne = go (m % 3) refl
      where
        go : (r : ℕ) → m % 3 ≡ r → count_in m false k ≡ count_in m true k
        go zero e = absurd (ne e)
        go (suc zero) e = step false 1 e ∙ sym (step true 1 e)
        go (suc (suc r)) e = step false (suc (suc r)) e ∙ sym (step true (suc (suc r)) e)

    pub free_zero : m % 3 ≡ 0 → count_in m false k + get_or l (up + k) 0 ≡ count_in m true k
    unfolding rises
    free_zero e =
        let z : k - 0 ≡ k = omega arith in
        let s : count_in m true k ≡ beside + count_in (m / 3) true k = rw z at (step true 0 e) in
        omega (arith, step false 0 e, read_above p.lent two (up + k) k (omega arith) (omega arith) refl)

    -- Its number at both, in one form.
    pub free_up : m % 3 ≢ 2 → beside + get_or l (up + k - m % 3) 0 ≡ count_in m true k
    free_up ne = go (m % 3) refl
      where
        go : (r : ℕ) → m % 3 ≡ r → beside + get_or l (up + k - r) 0 ≡ count_in m true k
        go zero e = let z : up + k - 0 ≡ up + k = omega arith in rw z (omega (arith, after_other (omega arith), free_zero e))
        go (suc zero) e = after_one e ∙ free_other (omega arith)
        go (suc (suc r)) e = absurd (omega arith)
