-- `back::rising_a` meets its contract: the number above is read before row b is filled, which may be filled over it.
use Rattle.std.proofs.Common.{◌≡◌, ℕ, ◌+◌, ◌-◌, ◌%◌, ◌^◌, ◌<◌, arith, rules}
use Rattle.counting.specs.BackLaws.{rising_is}
use Rattle.counting.proofs.back.rising_a.Goals as goal

-- Taking y away wraps to k, where x is y and k more.
unwrapped : (x y k : ℕ) → x ≡ k + y → x < 2 ^ 64 → (x + (2 ^ 64 - y)) % 2 ^ 64 ≡ k
unwrapped x y k d h = omega arith

pub overflow_add-above : goal.overflow_add-above
overflow_add-above c =
    omega (arith, c.place_of.ensures, c.requires.1)

pub offset_bounds-scratch-place_of : goal.offset_bounds-scratch-place_of
offset_bounds-scratch-place_of c =
    omega (arith, c.place_of.ensures, c.requires.1)

pub bounds-scratch-place_of : goal.bounds-scratch-place_of
bounds-scratch-place_of c =
    omega (arith, c.place_of.ensures, c.requires.1, c.requires.0.size)

pub fill_next-requires : goal.fill_next-requires
fill_next-requires c =
    (c.requires.0, c.requires.2)

pub overflow_add-result : goal.overflow_add-result
overflow_add-result c =
    omega (arith, c.place_of-2.ensures, c.requires.1)

pub offset_bounds-scratch-place_of-2 : goal.offset_bounds-scratch-place_of-2
offset_bounds-scratch-place_of-2 c =
    omega (arith, c.place_of-2.ensures, c.requires.1)

pub bounds-scratch-place_of-2 : goal.bounds-scratch-place_of-2
bounds-scratch-place_of-2 c =
    omega (arith, c.place_of-2.ensures, c.requires.1, c.fill_next.ensures.rows.size)

pub returns : goal.returns
returns c =
    record {
      value = λ more can.
          unwrapped _ _ _
          (rw (c.place_of-2.ensures, c.place_of.ensures)
          (rising_is c.requires.1 more can c.requires.0 c.fill_next.ensures.rows))
          (search rules);
      counts_filled = c.fill_next.ensures;
    }
