-- The cells of the key table.
--
-- In this order: the costs of the prices; a cell whose point is outside the grid, and where its rest is 1; choices by a bit and by
-- a test; a cell from the one right of it and the one above it, by bits that choose, as a row is filled (`free_by_bits`,
-- `after_by_bits`, `turn_by_bits`).
use Rattle.std.specs.Prelude.{◌≡◌, ℕ, zero, suc, ◌+◌, ◌/◌, ◌%◌, ◌<◌, ◌≤◌, min, Bool, true, false, cond, T, ◌⊎◌, List, [], ◌∷◌, nat_lt, slice_index, refl}
use Rattle.std.proofs.Math.Path.{sym, fun_ext}
use Rattle.std.proofs.Common.{ap, ◌∙◌, ⊎_elim, lt_of_not-le, le-ltb, lt-ltb}
use Rattle.std.proofs.Math.Decide.{dec_lt}
use native.Mathlib.Omega.{arith}
use Rattle.std.specs.Int.{from_bool}
use Rattle.chains.specs.Chains.{Part}
use Rattle.chains.specs.Words.{right, up}
use Rattle.chains.specs.Best.{Prices}
use Rattle.chains.proofs.Members.{rises}
use Rattle.chains.specs.Keys.{inside}
use Rattle.chains.proofs.Bests.{key_a, inside_bounds, least_step, least_one, least_outside}
use Rattle.chains.proofs.BestOfAll.{letter_cost, costs_of}
use Rattle.best.specs.KeyTable.{part_weight, no_key, letter_costs, letter_by, costs_by, Low, Cheap}
use Rattle.best.specs.KeyTable.{key_cell, third_key, half_key, turn_at, pick, less}

-- ---- costs

-- Five costs, each of which is at most `no_key`.
pub five_low : (c₀ c₁ c₂ c₃ c₄ : ℕ) → (c₀ ≤ no_key) × (c₁ ≤ no_key) × (c₂ ≤ no_key) × (c₃ ≤ no_key) × (c₄ ≤ no_key)
    → Low (c₀ ∷ c₁ ∷ c₂ ∷ c₃ ∷ c₄ ∷ [])
five_low c₀ c₁ c₂ c₃ c₄ h = record { each = each }
  where
    each : (l : ℕ) → slice_index (c₀ ∷ c₁ ∷ c₂ ∷ c₃ ∷ c₄ ∷ []) l ≤ no_key
    each zero = h.0
    each (suc zero) = h.1
    each (suc (suc zero)) = h.2
    each (suc (suc (suc zero))) = h.3
    each (suc (suc (suc (suc zero)))) = h.4
    each (suc (suc (suc (suc (suc l))))) = omega arith

pub prices_low : (π : Prices) → Cheap π → Low (letter_costs π)
prices_low π c = five_low _ _ _ _ _ (omega arith, omega arith, omega arith, omega arith, omega arith)

pub prices_costs : (π : Prices) → costs_by (letter_costs π) ≡ costs_of part_weight π
unfolding costs_of letter_cost letter_by
prices_costs π = ap (λ (f : ℕ → ℕ). record { letter = f; last = part_weight }) (fun_ext same)
  where
    same : (l : ℕ) → letter_by (letter_costs π) l ≡ letter_cost part_weight π l
    same zero = refl
    same (suc zero) = refl
    same (suc (suc zero)) = refl
    same (suc (suc (suc zero))) = refl
    same (suc (suc (suc (suc l)))) = refl

-- ---- a cell

module _ (costs : List ℕ) (A B a b : ℕ) (f : Bool) where
  abbrev point : Part
  point = record { a = a; b = b }

  -- Outside the grid there is no word.
  pub cell_outside : (m : ℕ) → 1 ≤ m → (A < a) ⊎ (B < b) → key_cell costs A B a b f m ≡ no_key
  cell_outside m left h =
      least_outside no_key (costs_by costs) A B f point m left
      (λ i. let k = (inside_bounds A B point).0 i in ⊎_elim (λ (l : A < a). omega arith) (λ (l : B < b). omega arith) h)

  pub cell_at_1 : Low costs → a ≤ A → b ≤ B → key_cell costs A B a b f 1 ≡ slice_index costs 4
  cell_at_1 low ha hb = least_one no_key (costs_by costs) A B f point ∙ go (inside A B point) ((inside_bounds A B point).1 (ha, hb))
    where
      go : (i : Bool) → T i → cond i (min no_key (slice_index costs 4)) no_key ≡ slice_index costs 4
      go true h = omega (arith, low.each 4)
      go false h = absurd h

-- ---- choices

pub pick_low : (bit x y k : ℕ) → x ≤ k → y ≤ k → pick bit x y ≤ k
unfolding pick
pick_low zero x y k h l = l
pick_low (suc bit) x y k h l = h

pub less_low : (x y : ℕ) → less x y ≤ 1
unfolding less
less_low x y = go (nat_lt x y)
  where
    go : (b : Bool) → cond b 1 0 ≤ 1
    go true = omega arith
    go false = omega arith

-- The test as a number.
pub less_told : (x y : ℕ) {t : ℕ} → t ≡ from_bool (nat_lt x y) → t ≡ less x y
unfolding less
less_told x y e = e ∙ go (nat_lt x y)
  where
    go : (b : Bool) → from_bool b ≡ cond b 1 0
    go true = refl
    go false = refl

pub less_one : (x y : ℕ) → less x y ≡ 1 → x < y
unfolding less
less_one x y e = lt_of_not-le (λ (h : y ≤ x). let z : ◌≡◌ {A = ℕ} 0 1 = rw (le-ltb x y h) at e in omega arith)

pub less_zero : (x y : ℕ) → less x y ≡ 0 → y ≤ x
unfolding less
less_zero x y e =
    let p : y < suc x = lt_of_not-le (λ (h : x < y). let z : ◌≡◌ {A = ℕ} 1 0 = rw (lt-ltb x y h) at e in omega arith) in
    omega arith

-- Of two numbers whose least stands for a key that is a word's, the test is that of the keys.
less_cut : (t after c key : ℕ) → min no_key (min t (after + c)) ≡ key → key < no_key
    → less t (after + c) ≡ less key (min no_key after + c)
unfolding less
less_cut t after c key e h = go (dec_lt t (after + c))
  where
    go : Dec (t < after + c) → less t (after + c) ≡ less key (min no_key after + c)
    go (yes l) = rw (lt-ltb t (after + c) l, lt-ltb key (min no_key after + c) (omega arith)) refl
    go (no l) = rw (le-ltb t (after + c) (omega arith), le-ltb key (min no_key after + c) (omega arith)) refl

-- ---- a cell from its neighbours

-- From a rest of 2 on. The bits are those of the rest and of the masks of its row (grid, Masks).
module _ (costs : List ℕ) (A B a b m : ℕ) (two : 2 ≤ m) where
  abbrev h : ℕ
  h = key_cell costs A B (suc a) b false (m / 2)

  abbrev u : ℕ
  u = key_cell costs A B a (suc b) true (m / 3)

  abbrev c : ℕ
  c = pick (m % 2) (slice_index costs 1) (slice_index costs 0)

  -- The key by a rise of a.
  pub half_key_lem : key_a no_key (costs_by costs) A B (record { a = a; b = b }) m ≡ half_key costs A B a b m
  unfolding right letter_by pick
  half_key_lem = half (m % 2) (omega arith)
    where
      half : (r : ℕ) → r < 2 → letter_by costs r + h ≡ h + pick r (slice_index costs 1) (slice_index costs 0)
      half zero l = omega arith
      half (suc zero) l = omega arith
      half (suc (suc r)) l = absurd (omega arith)

  -- The least of both steps, by a rise of a and by a rise of b.
  pub cell_step : (f : Bool) → key_cell costs A B a b f m ≡ min no_key (min (half_key costs A B a b m) (third_key costs f (m % 3) u))
  unfolding right up
  cell_step f = least_step no_key (costs_by costs) A B f (record { a = a; b = b }) m two ∙ rw half_key_lem

  -- The numbers of the cell from `after`, which stands for the key right of it, and `above`, which stands for the key above it if
  -- something is left there. Else the sum may be any number, and is not chosen.
  module _
      (after above sum : ℕ) (beside : min no_key after ≡ h) (over : 3 ≤ m → min no_key above ≡ u)
      (is : 3 ≤ m → sum ≡ above + pick (m % 3 % 2) (slice_index costs 3) (slice_index costs 2))
    where
      abbrev half : ℕ
      half = after + c

      abbrev third : ℕ
      third = pick (m % 3 / 2) no_key sum

      pub free_by_bits : min no_key (min third half) ≡ key_cell costs A B a b true m
      unfolding pick rises letter_by
      free_by_bits = sym (cell_step true ∙ go (m % 3) refl)
        where
          go : (r : ℕ) → m % 3 ≡ r
              → min no_key (min (h + c) (third_key costs true r u)) ≡ min no_key (min (pick (m % 3 / 2) no_key sum) half)
          go zero e = rw e (omega (arith, beside, over (omega arith), rw e at (is (omega arith))))
          go (suc zero) e = rw e (omega (arith, beside, over (omega arith), rw e at (is (omega arith))))
          go (suc (suc zero)) e = rw e (omega (arith, beside))
          go (suc (suc (suc r))) e = absurd (omega arith)

      pub after_by_bits : min no_key (pick (m % 3 % 2) (min third half) half) ≡ key_cell costs A B a b false m
      unfolding pick rises letter_by
      after_by_bits = sym (cell_step false ∙ go (m % 3) refl)
        where
          go : (r : ℕ) → m % 3 ≡ r
              → min no_key (min (h + c) (third_key costs false r u))
              ≡ min no_key (pick (m % 3 % 2) (min (pick (m % 3 / 2) no_key sum) half) half)
          go zero e = rw e (omega (arith, beside))
          go (suc zero) e = rw e (omega (arith, beside, over (omega arith), rw e at (is (omega arith))))
          go (suc (suc zero)) e = rw e (omega (arith, beside))
          go (suc (suc (suc r))) e = absurd (omega arith)

      pub turn_by_bits : key_cell costs A B a b true m < no_key → less third half ≡ turn_at costs A B a b m
      turn_by_bits low = rw (← beside) (less_cut third after c (key_cell costs A B a b true m) free_by_bits low)
