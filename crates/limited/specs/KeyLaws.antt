-- The laws of the least key within the limits (`key_in` in Cells): how large it can be, where there is no word, at a rest of 1, and from the
-- keys to the right and above (`key_step`).
use Rattle.std.specs.Prelude.{◌≡◌, refl, ◌⊎◌, Bool, ◌&&◌, List, ℕ, suc, ◌+◌, ◌-◌, ◌/◌, ◌%◌, ◌≤◌, ◌<◌, min}
use Rattle.std.proofs.Common.{ap, ◌∙◌, ⊎_elim, arith, leb→le, le→leb}
use Rattle.std.proofs.Math.Path.{ap₂}
use Rattle.std.proofs.Math.Bool.{true, false, cond}
use Rattle.std.proofs.Math.Dec.{T, leb}
use Rattle.std.proofs.Math.ListN.{get_or}
use Rattle.std.proofs.Math.Facts.{and_yes, yes_and}
use Rattle.chains.specs.Chains.{Part}
use Rattle.chains.specs.Words.{right, up}
use Rattle.chains.proofs.Members.{rises}
use Rattle.chains.proofs.Marks.{point}
use Rattle.chains.specs.Keys.{key, inside, in_grid, last_point, parts, limited_by, least_on}
use Rattle.chains.proofs.Carried.{rises_low, least_on_step, least_on_one, least_on_none, least_on_at_most}
use Rattle.chains.proofs.Bests.{inside_bounds, inside_first, next_right, next_up}
use Rattle.chains.proofs.PartLimit.{parts_pos, limited_carried, allowed_a, allowed_b}
use Rattle.best.specs.KeyTable.{no_key, letter_by, costs_by, Low}
use Rattle.limited.specs.Cells.{key_in}

-- The states after a rise of a and after a rise of b.
module _ (A B a b k m : ℕ) where
  pub state_right : (limited_by A B).after (m % 2) (point a b, k) ≡ (point (suc a) b, k - m % 2)
  unfolding right
  state_right = ap₂ (λ (p : Part) (i : ℕ). (p, i)) (next_right (m % 2) (point a b) (omega arith)) (allowed_a k m)

  pub state_up : m % 3 ≤ 1 → (limited_by A B).after (2 + m % 3) (point a b, k) ≡ (point a (suc b), k - m % 3)
  unfolding up
  state_up h = ap₂ (λ (p : Part) (i : ℕ). (p, i)) (next_up (2 + m % 3) (point a b) (omega arith)) (allowed_b k m h)

module _ (costs : List ℕ) (A B a b : ℕ) where
  pub key_at_most : (m : ℕ) (f : Bool) (k : ℕ) → key_in costs A B b a m f k ≤ no_key
  key_at_most m f k = least_on_at_most (limited_carried A B) no_key (costs_by costs) (point a b, k) f m

  -- A word within the limits starts within them, and has a part.
  pub key_outside : (m : ℕ) (f : Bool) (k : ℕ) → 1 ≤ m → (A < a) ⊎ (B < b) → key_in costs A B b a m f k ≡ no_key
  key_outside m f k h o =
      least_on_none (limited_carried A B) no_key (costs_by costs) (point a b, k) f m h
      (λ w s p.
      let i = inside_first A B (point a b) w s (and_yes (in_grid A B (point a b) w) (leb (parts w) k) p).0 in
      let j = (inside_bounds A B (point a b)).0 i in
      ⊎_elim (λ (l : A < a). omega arith) (λ (l : B < b). omega arith) o)

  pub key_none : (m : ℕ) (f : Bool) → 1 ≤ m → key_in costs A B b a m f 0 ≡ no_key
  key_none m f h =
      least_on_none (limited_carried A B) no_key (costs_by costs) (point a b, 0) f m h
      (λ w s p.
      let j = leb→le (parts w) 0 (and_yes (in_grid A B (point a b) w) (leb (parts w) 0) p).1 in
      omega (arith, parts_pos w s))

  pub key_one : (m : ℕ) (f : Bool) (k : ℕ) → Low costs → m ≡ 1 → 1 ≤ k → a ≤ A → b ≤ B → key_in costs A B b a m f k ≡ get_or costs 4 0
  unfolding in_grid last_point key
  key_one m f k low e one ha hb =
      rw e
      (least_on_one (limited_carried A B) no_key (costs_by costs) (point a b, k) f
      ∙ go (inside A B (point a b) && leb 1 k)
      (yes_and (inside A B (point a b)) (leb 1 k) ((inside_bounds A B (point a b)).1 (ha, hb)) (le→leb 1 k one)))
    where
      go : (i : Bool) → T i → cond i (min no_key (get_or costs 4 0)) no_key ≡ get_or costs 4 0
      go true h = omega (arith, low.each 4)
      go false h = absurd h

  -- The step: from the key to the right and the key above.
  pub key_step : (m : ℕ) (f : Bool) (k : ℕ) → 2 ≤ m
      → key_in costs A B b a m f k
      ≡ min no_key
      (min (letter_by costs (m % 2) + key_in costs A B b (suc a) (m / 2) false (k - m % 2))
      (cond (rises f (m % 3)) (letter_by costs (2 + m % 3) + key_in costs A B (suc b) a (m / 3) true (k - m % 3)) no_key))
  key_step m f k two =
      least_on_step (limited_carried A B) no_key (costs_by costs) (point a b, k) f m two
      ∙ ap₂ (λ (x y : ℕ). min no_key (min x y))
      (ap (λ (s : Part × ℕ). letter_by costs (m % 2) + least_on (limited_by A B) no_key (costs_by costs) s false (m / 2))
      (state_right A B a b k m))
      (go (rises f (m % 3)) (rises_low f (m % 3)))
    where
      go : (i : Bool) → (T i → m % 3 ≤ 1)
          → cond i
          (letter_by costs (2 + m % 3)
          + least_on (limited_by A B) no_key (costs_by costs) ((limited_by A B).after (2 + m % 3) (point a b, k)) true (m / 3))
          no_key
          ≡ cond i (letter_by costs (2 + m % 3) + key_in costs A B (suc b) a (m / 3) true (k - m % 3)) no_key
      go true t =
          ap (λ (s : Part × ℕ). letter_by costs (2 + m % 3) + least_on (limited_by A B) no_key (costs_by costs) s true (m / 3))
          (state_up A B a b k m (t tt))
      go false t = refl
