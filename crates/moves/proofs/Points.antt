-- The bound of the walk as document 02, T-08, says it: the number of points with b at least 1 and 2^a × 3^b at most n (Moves).
-- The walk's length is bounded by `points` (Walks), which counts by binary digits. Both are the same number.
use Rattle.std.specs.Prelude.{◌≡◌, refl, ℕ, zero, suc, ◌+◌, ◌*◌, ◌/◌, ◌^◌, ◌≤◌, ◌<◌, min, leb}
use Rattle.std.proofs.Common.{sym, ap, ◌∙◌, pow-suc, le-div_iff_mul-le, div-le_self, arith, pow_mono, le-leb}
use Rattle.std.proofs.Math.Nat.{pow-succ', pow-zero, one-le-pow, div-div-eq-div-mul}
use Rattle.std.proofs.Math.Decide.{dec_lt}
use Rattle.std.proofs.lemmas.Nat.{leading_length}
use Rattle.std.proofs.lemmas.Bool.{lt-leb}
use Rattle.chains.specs.Listing.{one_if}
use Rattle.moves.specs.Moves.{in_row, points_in}
use Rattle.moves.specs.Walks.{digits, points}

-- The points of row b are as many as n / 3^b has binary digits.
row_digits : (b n m k : ℕ) → n / 3 ^ b < 2 ^ m → 2 ^ m ≤ 2 * (n / 3 ^ b) + 1 → in_row k b n ≡ min k m
unfolding in_row one_if
row_digits b n m zero h l = omega arith
row_digits b n m (suc k) h l = go (row_digits b n m k h l) (dec_lt k m)
  where
    pos : 0 < 3 ^ b
    pos = one-le-pow b 3 (omega arith)

    go : in_row k b n ≡ min k m → Dec (k < m) → one_if (leb (2 ^ k * 3 ^ b) n) + in_row k b n ≡ min (suc k) m
    go r (yes g) =
        let t : 2 ^ k * 3 ^ b ≤ n = (le-div_iff_mul-le pos).0 (omega (arith, pow_mono g, pow-suc 2 k)) in
        rw (le-leb (2 ^ k * 3 ^ b) n t) (omega arith)
    go r (no g) =
        let z : ¬ (2 ^ k * 3 ^ b ≤ n) = λ (t : 2 ^ k * 3 ^ b ≤ n).
        omega (arith, (le-div_iff_mul-le pos).1 t, pow_mono {i = m} {j = k} (omega arith)) in
        rw (lt-leb (2 ^ k * 3 ^ b) n (omega arith)) (omega arith)

in_row_lem : (b n : ℕ) → n < 2 ^ 64 → in_row 64 b n ≡ digits (n / 3 ^ b)
unfolding digits
in_row_lem b n h =
    let r = leading_length 64 (n / 3 ^ b) (omega (arith, div-le_self n (3 ^ b))) in
    row_digits b n r.0 64 r.2 r.3 ∙ omega (arith, r.1)

-- `points` counts from row 1 on; the last row may be counted first.
points_more : (k n : ℕ) → points (suc k) n ≡ digits (n / 3 ^ suc k) + points k n
unfolding points
points_more zero n = ap (λ (i : ℕ). digits (n / i) + 0) (omega (arith, pow-suc 3 0, pow-zero 3))
points_more (suc k) n =
    let e = div-div-eq-div-mul n 3 (3 ^ suc k) ∙ ap (λ (i : ℕ). n / i) (sym (pow-succ' 3 (suc k))) in
    omega (arith, points_more k (n / 3), ap digits e)

-- Both are the same number.
pub points_are : (k n : ℕ) → n < 2 ^ 64 → points k n ≡ points_in k n
unfolding points points_in
points_are zero n h = refl
points_are (suc k) n h = points_more k n ∙ omega (arith, in_row_lem (suc k) n h, points_are k n h)
