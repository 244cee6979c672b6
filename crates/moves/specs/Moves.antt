-- The moves of a chain: 003, section 2.3; document 02, T-08. The walk: 003, theorem 1.
-- The parts 2^a × 3^b with the same b are row b of a chain. A chain has its parts largest first.
-- In this order: the two kinds of move; a move by its direction; the binary chain and the walk to it; the bound of the walk.
-- Definitions only. What holds of moves and walks is in MoveLaws, Steps and WalkLaws.
use Rattle.std.specs.Prelude.{◌≡◌, Bool, true, false, List, [], ◌∷◌, ◌++◌, ℕ, zero, suc, ◌+◌, ◌*◌, ◌^◌, ◌≤◌, ◌<◌, leb}
use Rattle.chains.specs.Chains.{Part, Chained}
use Rattle.chains.specs.Listing.{one_if}

-- The part 2^a × 3^b.
abbrev pub part : ℕ → ℕ → Part
part a b = record { a = a; b = b }

-- P holds of every part.
abbrev pub Every : (Part → Type 0) → List Part → Type 0
Every P [] = Unit {0}
Every P (p ∷ c) = P p × Every P c

-- ---- the two kinds of move

-- The k parts 2^(c+k) × 3^b, .., 2^(c+1) × 3^b, side by side in row b.
unfoldable pub run : ℕ → ℕ → ℕ → List Part
run zero c b = []
run (suc k) c b = part (c + suc k) b ∷ run k c b

-- The moves up at row b, by kind, from a chain to a chain. The parts u come before the row's largest part, and v after those that
-- go. That u has no part in row b says that the first part that goes is the row's largest.
--
-- The first kind: 2^(a+1) × 3^b and 2^a × 3^b go, and 2^a × 3^(b+1) comes.
--
-- The second kind: 2^(c+k+2) × 3^b is the row's largest part, 2^(c+k+1) × 3^b is no part, then there are k parts side by side, and
-- 2^c × 3^b, the gap, is no part. The largest part goes, the k parts are multiplied by 3, and 2^c × 3^(b+1) and 2^c × 3^b come.
--   gap   no later part of row b has a power of 2 above or at the gap's: neither 2^(c+k+1) × 3^b nor 2^c × 3^b is a part
--   free  no part with a smaller power of 3 has a power of 2 above 2^c. Here document 02 is stricter than 003, which asks only that
--         none has the power 2^(c+1).
pub data Up : ℕ → ℕ → List Part → List Part → Type 0 where
  first :
      (a : ℕ) {b : ℕ} (u v : List Part)
      → Every (λ p. p.b ≡ b → ⊥) u
      → Up 1 b (u ++ (part (suc a) b ∷ part a b ∷ v)) (u ++ (part a (suc b) ∷ v))
  second :
      (c k : ℕ) {b : ℕ} (u v : List Part)
      → Every (λ p. p.b ≡ b → ⊥) u
      → (gap : Every (λ p. p.b ≡ b → p.a < c) v)
      → (free : Every (λ p. p.b < b → p.a ≤ c) v)
      → Up 2 b (u ++ (part (suc (suc (c + k))) b ∷ (run k c b ++ v)))
      (u ++ (run k c (suc b) ++ (part c (suc b) ∷ part c b ∷ v)))

-- ---- a move by its direction

-- The move of a kind, up or down, at a row, from the chain c to d. A move down at row b is the move up at row b that leads from the
-- chain d to c, undone.
unfoldable pub Move : ℕ → Bool → ℕ → List Part → List Part → Type 0
Move kind true b c d = Up kind b c d
Move kind false b c d = Chained d × Up kind b d c

-- ---- the walk

-- Every part is a power of 2: the binary chain.
abbrev pub Binary : List Part → Type 0
Binary c = Every (λ p. p.b ≡ 0) c

-- A step of the walk: the move down from the highest row that has a part. It takes that row's smallest part: see `step_smallest`.
pub record Step (c d : List Part) : Type 0 where
  pub kind : ℕ
  pub b : ℕ
  pub highest : Every (λ p. p.b ≤ suc b) c
  pub down : Move kind false b c d

-- j steps lead from c to the binary chain d.
pub data Walk : List Part → ℕ → List Part → Type 0 where
  stop : {c : List Part} → Binary c → Walk c 0 c
  step : {j : ℕ} {c d e : List Part} → Step c d → Walk d j e → Walk c (suc j) e

-- A walk from c: how many steps it has, and the chain that it ends with. `the_walk` and `walk_unique` say that every chain of n has
-- exactly one.
pub record TheWalk (c : List Part) : Type 0 where
  pub moves : ℕ
  pub last : List Part
  pub walk : Walk c moves last

-- ---- its bound

-- How many a below k have 2^a × 3^b at most n.
unfoldable pub in_row : ℕ → ℕ → ℕ → ℕ
in_row zero b n = 0
in_row (suc k) b n = one_if (leb (2 ^ k * 3 ^ b) n) + in_row k b n

-- The number of points (a, b) with a below 64, b from 1 to k, and 2^a × 3^b at most n. With k = 40 these are all such points of a
-- number below 2^64: see `part_bounds` in chains.
unfoldable pub points_in : ℕ → ℕ → ℕ
points_in zero n = 0
points_in (suc k) n = in_row 64 (suc k) n + points_in k n
