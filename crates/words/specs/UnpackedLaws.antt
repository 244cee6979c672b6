-- Theory of the parts that two numbers hold.
-- In order: a letter; how many parts there are; the largest part, and the others; the same of all 64 letters. The definitions are
-- in Packed and Walks.
use Rattle.std.specs.Prelude.{◌≡◌, refl, ℕ, zero, suc, ◌+◌, ◌-◌, ◌*◌, ◌/◌, ◌%◌, ◌^◌, ◌≤◌, ◌<◌, length, replicate}
use Rattle.std.proofs.Common.{sym, ap, ◌∙◌, add-zero, pow-suc, mod-lt, add-one, pow_pos, length-append}
use mathlib.Core.List.{List, [], ◌∷◌, ◌++◌}
use Rattle.std.proofs.Math.Nat.{zero-add}
use native.Mathlib.Omega.{arith}
use Rattle.std.specs.Int.Count.{ones, ones_step}
use Rattle.std.proofs.lemmas.Nat.{ones-le, mod-pow-add}
use Rattle.std.proofs.lemmas.List.{length-replicate}
use Rattle.chains.specs.Chains.{Part}
use Rattle.chains.specs.Words.{Word, chain_from, chain_of}
use Rattle.chains.proofs.Marks.{point, chain_step}
use Rattle.words.specs.Packed.{unpacked, packed_chain}
use Rattle.words.specs.Walks.{point_at}

-- ---- a letter

-- A letter by its two bits, and the first of the letters that two numbers hold: the chain from the point (a, b) on.
letter_step : (a b up part : ℕ) (met : List Part) (w : Word) → up ≤ 1 → part ≤ 1
    → chain_from (point a b) met ((2 * up + part) ∷ w)
    ≡ chain_from (point (a + (1 - up)) (b + up)) (replicate part (point a b) ++ met) w
letter_step a b up part met w h g =
    let rising : (2 * up + part) / 2 ≡ up = omega arith in
    let marking : (2 * up + part) % 2 ≡ part = omega arith in
    rw (rising, marking) at (chain_step a b met (2 * up + part) w (omega arith))

first_step : (k rises marks a b : ℕ) (met : List Part)
    → chain_from (point a b) met (unpacked (suc k) rises marks)
    ≡ chain_from (point (a + (1 - rises % 2)) (b + rises % 2)) (replicate (marks % 2) (point a b) ++ met)
    (unpacked k (rises / 2) (marks / 2))
unfolding unpacked
first_step k rises marks a b met =
    letter_step a b (rises % 2) (marks % 2) met (unpacked k (rises / 2) (marks / 2)) (omega arith) (omega arith)

-- ---- how many parts

-- Without marks there is none.
pub no_mark : (k rises a b : ℕ) (met : List Part) → chain_from (point a b) met (unpacked k rises 0) ≡ met
unfolding unpacked chain_from
no_mark zero rises a b met = refl
no_mark (suc k) rises a b met = first_step k rises 0 a b met ∙ no_mark k (rises / 2) (a + (1 - rises % 2)) (b + rises % 2) met

-- There are as many parts as marks.
parts_from : (k rises marks a b : ℕ) (met : List Part) → marks < 2 ^ k
    → length (chain_from (point a b) met (unpacked k rises marks)) ≡ length met + ones marks
unfolding unpacked chain_from
parts_from zero rises marks a b met h = omega (arith, ones-le 0 marks h)
parts_from (suc k) rises marks a b met h =
    ap length (first_step k rises marks a b met)
    ∙ parts_from k (rises / 2) (marks / 2) (a + (1 - rises % 2)) (b + rises % 2) (replicate (marks % 2) (point a b) ++ met)
    (omega (arith, pow-suc 2 k))
    ∙ simp (length-append, length-replicate) (omega (arith, ones_step marks))

-- ---- the largest part

-- The ones among the lowest bits, the lowest first; there are no more than bits.
low_ones : (rises i : ℕ) → ones (rises % 2 ^ suc i) ≡ rises % 2 + ones (rises / 2 % 2 ^ i)
low_ones rises i =
    let halves : rises % 2 ^ suc i ≡ 2 * (rises / 2 % 2 ^ i) + rises % 2 = omega (arith, rw add-one at (mod-pow-add rises i 1)) in
    let half : rises % 2 ^ suc i / 2 ≡ rises / 2 % 2 ^ i = omega arith in
    let odd : rises % 2 ^ suc i % 2 ≡ rises % 2 = omega arith in
    ones_step (rises % 2 ^ suc i) ∙ rw (half, odd) refl

pub low_few : (rises i : ℕ) → ones (rises % 2 ^ i) ≤ i
low_few rises i = ones-le i (rises % 2 ^ i) (mod-lt rises (pow_pos i))

-- The highest mark is at place i: its point is the largest part, and the other marks give the other parts.
largest_from : (i k rises marks a b : ℕ) (met : List Part) → i < k → 2 ^ i ≤ marks → marks < 2 ^ suc i
    → chain_from (point a b) met (unpacked k rises marks)
    ≡ point (a + (i - ones (rises % 2 ^ i))) (b + ones (rises % 2 ^ i))
    ∷ chain_from (point a b) met (unpacked k rises (marks - 2 ^ i))
largest_from i zero rises marks a b met h l m = absurd (omega arith)
largest_from zero (suc k) rises marks a b met h l m =
    let one : marks ≡ 1 = omega arith in
    let none : ones (rises % 2 ^ 0) ≡ 0 = omega (arith, low_few rises 0) in
    let here : a + (0 - 0) ≡ a = omega arith in
    rw (one, none, here, add-zero b)
    (first_step k rises 1 a b met
    ∙ no_mark k (rises / 2) (a + (1 - rises % 2)) (b + rises % 2) (point a b ∷ met)
    ∙ ap (λ c. point a b ∷ c) (sym (no_mark (suc k) rises a b met)))
largest_from (suc i) (suc k) rises marks a b met h l m =
    let twice = pow-suc 2 i in
    let half : (marks - 2 ^ suc i) / 2 ≡ marks / 2 - 2 ^ i = omega arith in
    let odd : (marks - 2 ^ suc i) % 2 ≡ marks % 2 = omega arith in
    let across : a + (1 - rises % 2) + (i - ones (rises / 2 % 2 ^ i)) ≡ a + (suc i - ones (rises % 2 ^ suc i)) =
    omega (arith, low_ones rises i, low_few (rises / 2) i)
    in
    let upward : b + rises % 2 + ones (rises / 2 % 2 ^ i) ≡ b + ones (rises % 2 ^ suc i) = omega (arith, low_ones rises i) in
    rw (first_step k rises marks a b met, first_step k rises (marks - 2 ^ suc i) a b met, half, odd, ← across, ← upward)
    (largest_from i k (rises / 2) (marks / 2) (a + (1 - rises % 2)) (b + rises % 2) (replicate (marks % 2) (point a b) ++ met)
    (omega arith) (omega arith) (omega arith))

-- ---- all 64 letters

module _ (rises : ℕ) where
  pub packed_none : packed_chain rises 0 ≡ []
  unfolding packed_chain chain_of
  packed_none = no_mark 64 rises 0 0 []

  pub packed_count : (marks : ℕ) → marks < 2 ^ 64 → length (packed_chain rises marks) ≡ ones marks
  unfolding packed_chain chain_of
  packed_count marks h = parts_from 64 rises marks 0 0 [] h ∙ omega arith

  pub packed_largest : (marks i : ℕ) → i < 64 → 2 ^ i ≤ marks → marks < 2 ^ suc i
      → packed_chain rises marks ≡ point_at rises i ∷ packed_chain rises (marks - 2 ^ i)
  unfolding packed_chain chain_of point_at
  packed_largest marks i h l m = simp zero-add at (largest_from i 64 rises marks 0 0 [] h l m)
