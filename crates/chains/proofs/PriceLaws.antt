-- Laws of the price of a chain: document 02, T-04, and document 01, 'Parts and chains'.
--
-- In this order: the additions of a word, letter by letter; the additions of a chain, one for each part but the largest, and which
-- of the two prices each has (`price_by_neighbours`); how high a price can be (`price_fits`: below 2^32 for a number of 64 bits and
-- prices of 16).
use Rattle.std.specs.Prelude.{◌≡◌, Bool, ◌&&◌, T, eqb, ltb, length}
use Rattle.std.proofs.Math.Path.{refl}
use Rattle.std.proofs.Math.Bool.{true, false, cond}
use mathlib.Core.List.{List, [], ◌∷◌, ◌++◌}
use Prim.Native.Nat.{ℕ, zero, suc, ◌+◌, ◌-◌, ◌*◌, ◌^◌, ◌≤◌, ◌<◌}
use Rattle.std.proofs.Math.Nat.{mul-suc}
use Rattle.std.proofs.Common.{mul-le-mul_right, le-ltb, lt-ltb}
use Rattle.std.proofs.Math.Numerals.{unary_clauses}
use native.Mathlib.Omega.{arith}
use Rattle.std.specs.Float.Ieee.Fits.{and_l, and_r}
use Rattle.std.proofs.Math.ListN.{replicate}
use Rattle.chains.specs.Chains.{Part, Chained, ChainOf}
use Rattle.chains.specs.Words.{Word, path, marked, walk, word_of, some_left, reads}
use Rattle.chains.specs.Best.{Prices, occurs, additions, price}
use Rattle.chains.specs.Divides.{Above}
use Rattle.chains.specs.Neighbours.{by_neighbours}
use Rattle.chains.proofs.Divides.{multiple_above}
use Rattle.chains.proofs.Bounds.{parts_bound, word_bound, word_length}

-- ---- the additions of a word, letter by letter

-- What a reader takes has a letter 3: the last one is.
pub some_3 : (w : Word) (f : Bool) → T (reads f w) → T (some_left w) → 1 ≤ occurs 3 w
unfolding reads some_left occurs
some_3 [] f h s = absurd s
some_3 (zero ∷ []) f h s = absurd h
some_3 (zero ∷ x ∷ w) f h s = some_3 (x ∷ w) false h tt
some_3 (suc zero ∷ []) f h s = absurd h
some_3 (suc zero ∷ x ∷ w) f h s = some_3 (x ∷ w) false h tt
some_3 (suc (suc zero) ∷ w) f h s =
    let r : T (some_left w && reads true w) = and_r f (some_left w && reads true w) h in
    some_3 w true (and_r (some_left w) (reads true w) r) (and_l (some_left w) (reads true w) r)
some_3 (suc (suc (suc zero)) ∷ w) f h s = omega arith
some_3 (suc (suc (suc (suc l))) ∷ w) f h s = absurd h

one_more : (x k : ℕ) → 1 ≤ k → x * (suc k - 1) ≡ x + x * (k - 1)
one_more x zero h = absurd (omega arith)
one_more x (suc k) h = simp unary_clauses (omega arith)

module _ (π : Prices) where
  -- The last point has no addition.
  pub last_point_lem : additions π (3 ∷ []) ≡ 0
  unfolding additions occurs
  last_point_lem = omega arith

  -- A point without a part has none.
  pub no_addition : (l : ℕ) (w : Word) → eqb l 1 ≡ false → eqb l 3 ≡ false → additions π (l ∷ w) ≡ additions π w
  unfolding additions occurs
  no_addition l w e d = rw (e, d)

  -- Letter 1 adds s2.
  pub addition_2 : (w : Word) → additions π (1 ∷ w) ≡ π.s2 + additions π w
  unfolding additions occurs
  addition_2 w = omega (arith, mul-suc π.s2 (occurs 1 w))

  -- Letter 3 adds s3 where another 3 follows.
  pub addition_3 : (w : Word) → 1 ≤ occurs 3 w → additions π (3 ∷ w) ≡ π.s3 + additions π w
  unfolding additions occurs
  addition_3 w h = omega (arith, one_more π.s3 (occurs 3 w) h)

-- ---- the additions of a chain

module _ (π : Prices) where
  -- The points between two parts have none.
  between : (i j : ℕ) (w : Word) → additions π ((replicate i 2 ++ replicate j 0) ++ w) ≡ additions π w
  unfolding additions occurs
  between zero zero w = refl
  between zero (suc j) w = between zero j w
  between (suc i) j w = between i j w

  threes_between : (i j : ℕ) (w : Word) → occurs 3 ((replicate i 2 ++ replicate j 0) ++ w) ≡ occurs 3 w
  unfolding occurs
  threes_between zero zero w = refl
  threes_between zero (suc j) w = threes_between zero j w
  threes_between (suc i) j w = threes_between i j w

  -- The points from the part q to the next larger one, p, have one addition, where w are the letters from p on.
  module _ (p q : Part) (w : Word) (s : Above p q) (last : 1 ≤ occurs 3 w) where
    from_part : (additions π (marked (path q p) ++ w) ≡ cond (ltb q.b p.b) π.s3 π.s2 + additions π w)
        × (1 ≤ occurs 3 (marked (path q p) ++ w))
    unfolding path marked occurs
    from_part = go (p.b - q.b) (p.a - q.a) refl refl
      where
        go : (i j : ℕ) → p.b - q.b ≡ i → p.a - q.a ≡ j
            → (additions π (marked (replicate i 2 ++ replicate j 0) ++ w) ≡ cond (ltb q.b p.b) π.s3 π.s2 + additions π w)
            × (1 ≤ occurs 3 (marked (replicate i 2 ++ replicate j 0) ++ w))
        go zero zero e d = absurd (omega (arith, s.across, s.upward, s.apart))
        go zero (suc j) e d = (
          rw (le-ltb q.b p.b (omega arith)) (omega (arith, addition_2 π (replicate j 0 ++ w), between zero j w)),
          omega (arith, threes_between zero j w),
        )
        go (suc i) j e d =
            let t = threes_between i j w in
            let v = (replicate i 2 ++ replicate j 0) ++ w in
            (rw (lt-ltb q.b p.b (omega arith)) (omega (arith, addition_3 π v (omega arith), between i j w)), omega arith)

  -- The walk through the parts c to p, and then along w.
  along : (p : Part) (c : List Part) (w : Word) → Chained (p ∷ c) → 1 ≤ occurs 3 w
      → additions π (walk p c w) ≡ by_neighbours π p c + additions π w
  unfolding walk path by_neighbours
  along p [] w h last = omega (arith, between (p.b - 0) (p.a - 0) w)
  along p (q ∷ c) w h last =
      let (letter, later) = from_part p q w ((multiple_above p q).0 h.0) last in
      omega (arith, letter, along q c (marked (path q p) ++ w) h.1 later)

  -- So the price can be told from the parts alone.
  pub price_by_neighbours : (p : Part) (c : List Part) → Chained (p ∷ c)
      → price π (p ∷ c) ≡ π.d * p.a + π.t * p.b + by_neighbours π p c
  unfolding price word_of occurs
  price_by_neighbours p c h = omega (arith, along p c (3 ∷ []) h (omega arith), last_point_lem π)

  -- One part has no addition.
  pub one_part : (p : Part) → price π (p ∷ []) ≡ π.d * p.a + π.t * p.b
  unfolding by_neighbours
  one_part p = omega (arith, price_by_neighbours p [] tt)

-- ---- how high a price can be

module _ (π : Prices) (s2 : π.s2 < 2 ^ 16) (s3 : π.s3 < 2 ^ 16) where
  additions_fit : (p : Part) (c : List Part) → by_neighbours π p c ≤ 65535 * length c
  unfolding by_neighbours
  additions_fit p [] = omega arith
  additions_fit p (q ∷ c) = omega (arith, go (ltb q.b p.b), additions_fit q c)
    where
      go : (x : Bool) → cond x π.s3 π.s2 ≤ 65535
      go true = omega arith
      go false = omega arith

-- A price fits in 32 bits: document 01, 'Parts and chains'. There are at most 63 doublings and triplings, and at most 63 additions.
pub price_fits :
    (n : ℕ) (π : Prices)
    → n < 2 ^ 64
    → π.d < 2 ^ 16
    → π.t < 2 ^ 16
    → π.s2 < 2 ^ 16
    → π.s3 < 2 ^ 16
    → (c : List Part)
    → ChainOf n c
    → price π c < 2 ^ 32
unfolding price
price_fits n π h d t s2 s3 [] k = omega arith
price_fits n π h d t s2 s3 (p ∷ c) k =
    let doublings : π.d * p.a ≤ 65535 * p.a = mul-le-mul_right p.a (omega arith) in
    let triplings : π.t * p.b ≤ 65535 * p.b = mul-le-mul_right p.b (omega arith) in
    omega (
      arith,
      price_by_neighbours π p c k.chained,
      additions_fit π s2 s3 p c,
      parts_bound n 64 (p ∷ c) k h,
      word_bound n 64 (p ∷ c) k h,
      word_length p c k.chained,
    )
