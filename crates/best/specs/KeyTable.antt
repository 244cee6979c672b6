-- The least key of the words from a point on, in the grid cut at A and B, and what a row of keys holds of it.
--
-- A key is parts × 2^32 + price, so the least key has the fewest parts and among those the lowest price (document 01, 'Services and
-- memory'). `no_key` stands for no word: it is above every key of a chain below 2^64.
--
-- In this order: the costs of letters as a list; the key of a cell, and what the cell holds; choices by a bit and by a test; the
-- turns of a row. Definitions only; the laws are in KeyTableLaws.
use Rattle.std.specs.Prelude.{◌≡◌, ℕ, zero, suc, ◌+◌, ◌-◌, ◌*◌, ◌/◌, ◌%◌, ◌^◌, ◌<◌, ◌≤◌, min, Bool, true, false, cond, List, [], ◌∷◌, nat_lt, slice_index}
use Rattle.chains.specs.Best.{Prices, Limits}
use Rattle.chains.proofs.Members.{rises}
use Rattle.chains.specs.Keys.{Costs, least_key}
use Rattle.grid.specs.Grid.{Meaning}

-- ---- costs

-- What a part counts in a key.
abbrev pub part_weight : ℕ
part_weight = 2 ^ 32

-- The key of no word.
abbrev pub no_key : ℕ
no_key = 2 ^ 40

-- What the letters 0 to 3 cost where they are not the last, and what the last point costs.
abbrev pub letter_costs : Prices → List ℕ
letter_costs π = π.d ∷ (part_weight + π.s2 + π.d) ∷ π.t ∷ (part_weight + π.s3 + π.t) ∷ part_weight ∷ []

-- The costs that such a list tells.
unfoldable pub letter_by : List ℕ → ℕ → ℕ
letter_by costs zero = slice_index costs 0
letter_by costs (suc zero) = slice_index costs 1
letter_by costs (suc (suc zero)) = slice_index costs 2
letter_by costs (suc (suc (suc zero))) = slice_index costs 3
letter_by costs (suc (suc (suc (suc l)))) = 0

-- The same with the cost of the last point.
abbrev pub costs_by : List ℕ → Costs
costs_by costs = record { letter = letter_by costs; last = slice_index costs 4 }

-- Every cost is at most `no_key`.
pub record Low (costs : List ℕ) : Type 0 where
  pub each : (l : ℕ) → slice_index costs l ≤ no_key

-- Prices of 16 bits.
pub record Cheap (π : Prices) : Type 0 where
  pub d : π.d < 2 ^ 16
  pub t : π.t < 2 ^ 16
  pub s2 : π.s2 < 2 ^ 16
  pub s3 : π.s3 < 2 ^ 16

-- The terms that words are weighed by: the costs that are wanted, and the limits on doublings and triplings. The prices are of 16 bits.
pub record TermsOf (wanted : List ℕ) (lim : Limits) (π : Prices) (costs : List ℕ) (A B : ℕ) : Type 0 where
  pub costs_are : costs ≡ wanted
  pub doublings_are : A ≡ lim.A
  pub triplings_are : B ≡ lim.B
  pub cheap : Cheap π

-- ---- a cell

-- The key at (a, b) for a reader and a rest.
abbrev pub key_cell : List ℕ → ℕ → ℕ → ℕ → ℕ → Bool → ℕ → ℕ
key_cell costs A B a b f m = least_key no_key (costs_by costs) A B f (record { a = a; b = b }) m

-- In column a the number x stands for a key: its cut at `no_key` is the key. A row is filled from column 63 down at most, and each
-- column adds one cost at most.
pub record Uncut (key a x : ℕ) : Type 0 where
  pub cut : min no_key x ≡ key
  pub bound : x ≤ no_key * (64 - a)

-- What a row holds: the free reader's.
abbrev pub free_key : List ℕ → ℕ → ℕ → Meaning
free_key costs A B a b m x = Uncut (key_cell costs A B a b true m) a x

-- The key by a rise of b, at the remainder r by three, where the key above is `above`.
abbrev pub third_key : List ℕ → Bool → ℕ → ℕ → ℕ
third_key costs f r above = cond (rises f r) (letter_by costs (2 + r) + above) no_key

-- ---- choices

-- What a bit chooses: the first number where it is 1, the second where it is 0.
unfoldable pub pick : ℕ → ℕ → ℕ → ℕ
pick zero x y = y
pick (suc bit) x y = x

-- 1 where x is below y, else 0.
unfoldable pub less : ℕ → ℕ → ℕ
less x y = cond (nat_lt x y) 1 0

-- ---- turns

-- The key by a rise of a.
abbrev pub half_key : List ℕ → ℕ → ℕ → ℕ → ℕ → ℕ → ℕ
half_key costs A B a b m = key_cell costs A B (suc a) b false (m / 2) + pick (m % 2) (slice_index costs 1) (slice_index costs 0)

-- The turn at (a, b): 1 where b rises in the best word of the free reader, whose key is then less than by a rise of a.
abbrev pub turn_at : List ℕ → ℕ → ℕ → ℕ → ℕ → ℕ → ℕ
turn_at costs A B a b m = less (key_cell costs A B a b true m) (half_key costs A B a b m)

-- The turns of row b in one number, a bit a column, wherever there is a word with more than one letter.
pub record Turns (costs : List ℕ) (A B b m turns : ℕ) : Type 0 where
  pub turn : (i : ℕ) → i < 64 → 2 ≤ m / 2 ^ i → key_cell costs A B i b true (m / 2 ^ i) < no_key
      → turns / 2 ^ i % 2 ≡ turn_at costs A B i b (m / 2 ^ i)
