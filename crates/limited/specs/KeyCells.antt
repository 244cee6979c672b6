-- A number of a block of least keys, from the block to the right and the block above.
--
-- In this order: a block outside the limits; what is asked, at the start and while the block is filled; no part is allowed, the point is
-- outside the limits, or the rest is 1; from a rest of 2 on, where the two neighbours stand in the memory, and the key of each reader by
-- the remainder of the rest by three.
use Rattle.std.specs.Prelude.{◌≡◌, ◌≢◌, ◌⊎◌, Bool, cond, List, length, get_or}
use Rattle.std.proofs.Math.Path.{refl, sym}
use Rattle.std.proofs.Common.{◌∙◌, ⊎_elim, arith}
use Rattle.std.proofs.Math.Bool.{true, false}
use Prim.Native.Nat.{ℕ, zero, suc, ◌+◌, ◌-◌, ◌*◌, ◌/◌, ◌%◌, ◌≤◌, ◌<◌, min}
use Rattle.chains.proofs.Members.{rises}
use Rattle.best.specs.KeyTable.{no_key, letter_by, Low}
use Rattle.limited.specs.Table.{Block, Filled}
use Rattle.limited.specs.TableLaws.{filled_as, cell_still, read_right, read_above}
use Rattle.limited.specs.Cells.{key_in, cell_in, CellAsked}
use Rattle.limited.specs.KeyLaws.{key_at_most, key_outside, key_none, key_one, key_step}

pub outside_filled : (costs : List ℕ) (A B b a m : ℕ) {j : ℕ} {entry l : List ℕ} → 1 ≤ m → (A < a) ⊎ (B < b)
    → Filled (λ f k. no_key) j entry l → Filled (key_in costs A B b a m) j entry l
outside_filled costs A B b a m h o = filled_as (λ f k. sym (key_outside costs A B a b m f k h o))

pub key_asked : {counting : Bool} (costs : List ℕ) (A B : ℕ) {b a m up most : ℕ} {l : List ℕ} → counting ≡ false
    → CellAsked (cell_in counting costs A B) b a m up most l → CellAsked (key_in costs A B) b a m up most l
unfolding cell_in
key_asked costs A B e q = let p = rw e at q in record { lent = p.lent; some_left = p.some_left; few = p.few }

pub key_still : {g : Block} (costs : List ℕ) (A B : ℕ) {b a m up most j : ℕ} {entry l : List ℕ} (k : ℕ)
    → CellAsked (key_in costs A B) b a m up most entry → Filled g j entry l → k ≤ most → CellAsked (key_in costs A B) b a m up k l
key_still costs A B = cell_still

pub letter_a : (costs : List ℕ) (r : ℕ) → r < 2 → letter_by costs r ≡ get_or costs r 0
unfolding letter_by
letter_a costs zero h = refl
letter_a costs (suc zero) h = refl
letter_a costs (suc (suc r)) h = absurd (omega arith)

module _ (costs : List ℕ) (A B : ℕ) {b a m up k : ℕ} {l : List ℕ} (p : CellAsked (key_in costs A B) b a m up k l) where
  abbrev key_here : Bool → ℕ
  key_here f = key_in costs A B b a m f k

  pub no_key_lem : (f : Bool) → k ≡ 0 → no_key ≡ key_here f
  no_key_lem f e = rw e (sym (key_none costs A B a b m f p.some_left))

  -- No part is allowed, or the point is outside the limits.
  pub no_word : (k ≡ 0) ⊎ ((A < a) ⊎ (B < b)) → (f : Bool) → no_key ≡ key_here f
  no_word o f =
      ⊎_elim (λ (e : k ≡ 0). no_key_lem f e) (λ (h : (A < a) ⊎ (B < b)). sym (key_outside costs A B a b m f k p.some_left h)) o

  pub last_key : Low costs → (f : Bool) → 1 ≤ k → m ≡ 1 → a ≤ A → b ≤ B → get_or costs 4 0 ≡ key_here f
  last_key low f h e ha hb = sym (key_one costs A B a b m f k low e h ha hb)

  module _ (one : 1 ≤ k) (two : 2 ≤ m) where
    abbrev beside : ℕ
    beside = get_or l (195 + k - m % 2) 0

    abbrev half : ℕ
    half = beside + get_or costs (m % 2) 0

    right_key : beside ≡ key_in costs A B b (suc a) (m / 2) false (k - m % 2)
    right_key = read_right p.lent two (195 + k - m % 2) (k - m % 2) (omega arith) (omega arith)

    pub right_within : 195 + k - m % 2 < length l
    right_within = omega (arith, p.lent.right_room two, p.few)

    pub right_fits : Low costs → half ≤ 2 * no_key
    right_fits low = omega (arith, right_key, key_at_most costs A B (suc a) b (m / 2) false (k - m % 2), low.each (m % 2))

    pub above_within : (r : ℕ) → m % 3 ≡ r → r ≤ 1 → up + k < length l
    above_within r e h = omega (arith, p.lent.above_room two (omega arith), p.few)

    -- The number above, at the remainder r by three.
    above_key : (i r : ℕ) → m % 3 ≡ r → r ≤ 1 → i ≡ up + k - r → get_or l i 0 ≡ key_in costs A B (suc b) a (m / 3) true (k - r)
    above_key i r e h ei = read_above p.lent two i (k - r) (omega arith) (omega arith) (omega arith)

    pub above_fits : (i r : ℕ) → m % 3 ≡ r → r ≤ 1 → i ≡ up + k - r → get_or l i 0 ≤ no_key
    above_fits i r e h ei = omega (arith, above_key i r e h ei, key_at_most costs A B a (suc b) (m / 3) true (k - r))

    step : (f : Bool) (r : ℕ) → m % 3 ≡ r
        → key_here f
        ≡ min no_key (min half (cond (rises f r) (letter_by costs (2 + r) + key_in costs A B (suc b) a (m / 3) true (k - r)) no_key))
    step f r e =
        let s : letter_by costs (m % 2) + key_in costs A B b (suc a) (m / 2) false (k - m % 2) ≡ half =
        omega (arith, right_key, letter_a costs (m % 2) (omega arith)) in
        key_step costs A B a b m f k two ∙ rw (e, s)

    -- The reader after a has risen goes up at the remainder 1 only,
    pub after_other : m % 3 ≢ 1 → min no_key half ≡ key_here false
    unfolding rises
    after_other ne = go (m % 3) refl
      where
        go : (r : ℕ) → m % 3 ≡ r → min no_key half ≡ key_here false
        go zero e = omega (arith, step false 0 e)
        go (suc zero) e = absurd (ne e)
        go (suc (suc r)) e = omega (arith, step false (suc (suc r)) e)

    pub after_one : m % 3 ≡ 1 → min (min no_key half) (get_or l (up + k - 1) 0 + get_or costs 3 0) ≡ key_here false
    unfolding rises letter_by
    after_one e = omega (arith, step false 1 e, above_key (up + k - 1) 1 e (omega arith) refl)

    -- the free reader at the remainder 0 too.
    pub free_other : m % 3 ≢ 0 → key_here false ≡ key_here true
    unfolding rises
    free_other ne = go (m % 3) refl
      where
        go : (r : ℕ) → m % 3 ≡ r → key_here false ≡ key_here true
        go zero e = absurd (ne e)
        go (suc zero) e = step false 1 e ∙ sym (step true 1 e)
        go (suc (suc r)) e = step false (suc (suc r)) e ∙ sym (step true (suc (suc r)) e)

    pub free_zero : m % 3 ≡ 0 → min (key_here false) (get_or l (up + k) 0 + get_or costs 2 0) ≡ key_here true
    unfolding rises letter_by
    free_zero e = omega (arith, step false 0 e, step true 0 e, above_key (up + k) 0 e (omega arith) (omega arith))

    -- Its key at both, in one form.
    pub free_up : m % 3 ≢ 2
        → min (min no_key half) (get_or l (up + k - m % 3) 0 + get_or costs (2 + m % 3) 0) ≡ key_here true
    free_up ne = go (m % 3) refl
      where
        go : (r : ℕ) → m % 3 ≡ r → min (min no_key half) (get_or l (up + k - r) 0 + get_or costs (2 + r) 0) ≡ key_here true
        go zero e = let z : up + k - 0 ≡ up + k = omega arith in rw (z, after_other (omega arith)) (free_zero e)
        go (suc zero) e = after_one e ∙ free_other (omega arith)
        go (suc (suc r)) e = absurd (omega arith)
