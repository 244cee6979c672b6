-- The best word at a point, in the grid cut at A and B: what Carried says of any test, at the test of the limits on a and b (`cut_at`).
--
-- In this order: the next point; the cut grid, and that a walk carries its test along (`cut_carried`); the two branches at a point, by a
-- rise of a and by a rise of b; the best word at a rest of 1; the least key, a number as a table holds it (`least_step`), and the two
-- choices of a walk along such a table (`take_a`, `take_b`).
--
-- That the best word is the word of the best chain, for the four prices, is in BestOfAll.
use Rattle.std.specs.Prelude.{◌≡◌, ◌↔◌, ◌≢◌, Bool, true, false, cond, ◌&&◌, ℕ, zero, suc, ◌+◌, ◌/◌, ◌%◌, ◌≤◌, ◌<◌, min}
use Rattle.std.proofs.Math.Path.{refl}
use mathlib.Core.List.{[], ◌∷◌}
use Rattle.std.proofs.Math.Option.{Option, none, some}
use Rattle.std.proofs.Common.{arith, le→leb}
use Rattle.std.proofs.Math.Dec.{T, leb, leb→le}
use Rattle.std.proofs.Math.Facts.{and_yes, yes_and}
use Rattle.chains.specs.Chains.{Part}
use Rattle.chains.specs.Words.{Word, right, up, some_left}
use Rattle.chains.specs.Listing.{words_at}
use Rattle.chains.proofs.Members.{rises}
use Rattle.chains.specs.Keys.{Costs, key, Carried, next, last_point, inside, in_grid, cut_at, best_at, least_key}
use Rattle.chains.proofs.Leasts.{Found}
use Rattle.chains.proofs.Carried.{lead, best_on_found, best_on_one, least_on_step, take_a_on, take_b_on}
use Rattle.chains.proofs.Carried.{least_on_one, least_on_none, least_on_told}

-- ---- the next point

pub next_right : (l : ℕ) (p : Part) → l < 2 → next l p ≡ right p
unfolding next
next_right zero p h = refl
next_right (suc zero) p h = refl
next_right (suc (suc l)) p h = absurd (omega arith)

pub next_up : (l : ℕ) (p : Part) → 2 ≤ l → next l p ≡ up p
unfolding next
next_up zero p h = absurd (omega arith)
next_up (suc zero) p h = absurd (omega arith)
next_up (suc (suc l)) p h = refl

next_beyond : (l : ℕ) (p : Part) → (p.a ≤ (next l p).a) × (p.b ≤ (next l p).b)
unfolding next right up
next_beyond zero p = omega arith
next_beyond (suc zero) p = omega arith
next_beyond (suc (suc l)) p = omega arith

-- ---- the cut grid

module _ (A B : ℕ) where
  pub inside_bounds : (p : Part) → T (inside A B p) ↔ ((p.a ≤ A) × (p.b ≤ B))
  unfolding inside
  inside_bounds p = (
    λ (h : T (leb p.a A && leb p.b B)). omega (arith, leb→le, and_yes (leb p.a A) (leb p.b B) h),
    λ (h : (p.a ≤ A) × (p.b ≤ B)). yes_and (leb p.a A) (leb p.b B) (le→leb p.a A h.0) (le→leb p.b B h.1),
  )

  grid_letter : (p : Part) (l : ℕ) (w : Word) → T (some_left w) → in_grid A B p (l ∷ w) ≡ in_grid A B (next l p) w
  unfolding in_grid last_point some_left
  grid_letter p l [] h = absurd h
  grid_letter p l (x ∷ w) h = refl

  -- A word that ends in the grid starts in it.
  pub inside_first : (p : Part) (w : Word) → T (some_left w) → T (in_grid A B p w) → T (inside A B p)
  unfolding in_grid last_point some_left
  inside_first p [] s h = absurd s
  inside_first p (l ∷ []) s h = h
  inside_first p (l ∷ x ∷ w) s h =
      let k = (inside_bounds (next l p)).0 (inside_first (next l p) (x ∷ w) tt h) in
      (inside_bounds p).1 (omega (arith, next_beyond l p))

  pub cut_carried : Carried (cut_at A B)
  cut_carried = record { by_letter = grid_letter }

-- ---- the two branches

-- The best of the words that begin with a rise of a, and of those that begin with a rise of b.
abbrev pub raise_a : Costs → ℕ → ℕ → Part → ℕ → Option Word
raise_a κ A B p m = lead (m % 2) (best_at κ A B false (right p) (m / 2))

abbrev pub raise_b : Costs → ℕ → ℕ → Bool → Part → ℕ → Option Word
raise_b κ A B f p m = cond (rises f (m % 3)) (lead (2 + m % 3) (best_at κ A B true (up p) (m / 3))) none

-- Their keys.
abbrev pub key_a : ℕ → Costs → ℕ → ℕ → Part → ℕ → ℕ
key_a big κ A B p m = κ.letter (m % 2) + least_key big κ A B false (right p) (m / 2)

abbrev pub key_b : ℕ → Costs → ℕ → ℕ → Bool → Part → ℕ → ℕ
key_b big κ A B f p m = cond (rises f (m % 3)) (κ.letter (2 + m % 3) + least_key big κ A B true (up p) (m / 3)) big

-- The points after a rise of a and after a rise of b.
after_a : (p : Part) (m : ℕ) → next (m % 2) p ≡ right p
after_a p m = next_right (m % 2) p (omega arith)

after_b : (p : Part) (m : ℕ) → next (2 + m % 3) p ≡ up p
after_b p m = next_up (2 + m % 3) p (omega arith)

-- ---- the best word and the least key

module _ (κ : Costs) (A B : ℕ) where
  -- What the best word tells.
  pub best_found : (f : Bool) (p : Part) (m : ℕ) → Found (in_grid A B p) (key κ) (words_at f m) (best_at κ A B f p m)
  best_found f p m = best_on_found (cut_carried A B) κ p f m

  pub best_one : (f : Bool) (p : Part) → best_at κ A B f p 1 ≡ cond (inside A B p) (some (3 ∷ [])) none
  unfolding in_grid last_point
  best_one f p = best_on_one (cut_carried A B) κ p f

module _ (big : ℕ) (κ : Costs) (A B : ℕ) where
  pub least_step :
      (f : Bool) (p : Part) (m : ℕ)
      → 2 ≤ m
      → least_key big κ A B f p m ≡ min big (min (key_a big κ A B p m) (key_b big κ A B f p m))
  least_step f p m h = rw (after_a p m, after_b p m) at (least_on_step (cut_carried A B) big κ p f m h)

  -- A walk takes the rise of a where that keeps the least key, else the rise of b.
  pub take_a :
      (f : Bool) (p : Part) (m : ℕ)
      → 2 ≤ m
      → least_key big κ A B f p m < big
      → key_a big κ A B p m ≡ least_key big κ A B f p m
      → best_at κ A B f p m ≡ raise_a κ A B p m
  take_a f p m h b e =
      rw (after_a p m) at (take_a_on (cut_carried A B) big κ p f m h b (rw (after_a p m) e))

  pub take_b :
      (f : Bool) (p : Part) (m : ℕ)
      → 2 ≤ m
      → least_key big κ A B f p m < big
      → key_a big κ A B p m ≢ least_key big κ A B f p m
      → best_at κ A B f p m ≡ raise_b κ A B f p m
  take_b f p m h b e =
      rw (after_b p m) at (take_b_on (cut_carried A B) big κ p f m h b (rw (after_a p m) e))

  pub least_one : (f : Bool) (p : Part) → least_key big κ A B f p 1 ≡ cond (inside A B p) (min big κ.last) big
  unfolding in_grid last_point
  least_one f p = least_on_one (cut_carried A B) big κ p f

  pub least_outside : (f : Bool) (p : Part) (m : ℕ) → 0 < m → (T (inside A B p) → ⊥) → least_key big κ A B f p m ≡ big
  least_outside f p m h n = least_on_none (cut_carried A B) big κ p f m h (λ w s i. n (inside_first A B p w s i))

  -- A least key below `big` is that of the best word.
  pub least_told : (f : Bool) (p : Part) (m : ℕ) → least_key big κ A B f p m < big
      → (w : Word) × (best_at κ A B f p m ≡ some w) × (key κ w ≡ least_key big κ A B f p m)
  least_told f p m h = least_on_told (cut_carried A B) big κ p f m h
