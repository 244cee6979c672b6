-- The chain condition of rows as a test, by which `laying?` decides it.
--
-- In this order: the test; that it says the chain condition; rows whose numbers are below 2^64.
use Rattle.std.specs.Prelude.{◌≡◌, ◌↔◌, Bool, true, cond, ◌&&◌, [], ◌∷◌, ℕ, suc, ◌%◌, ◌^◌, ◌<◌, eqb, T, get_or}
use Rattle.std.specs.Int.{◌∣◌}
use Rattle.std.proofs.Math.Nat.{le_of_dvd, one-dvd, dvd_iff_mod-eq-zero}
use Rattle.std.proofs.Math.Decide.{dec_lt}
use Rattle.std.proofs.Common.{arith, eqb→eq, pow_pos, eq-eqb, ne_eqb}
use Rattle.std.specs.Float.Ieee.Fits.{and_i, and_l, and_r, eq→eqb}
use Rattle.moves.specs.Rows.{Rows, All, Over, Laid}
use Rattle.moves.proofs.RowLaws.{exp_lt, over_less}
use Rattle.moves.specs.Amounts.{top_bit}
use Rattle.moves.proofs.BitLaws.{top_exists}

-- ---- the test

-- The highest one bit of the last row that has a part, after the row y: t is that of the rows before.
unfoldable pub next_top : ℕ → ℕ → ℕ
next_top t y = cond (eqb y 0) t (top_bit y)

-- Each row is a multiple of the highest one bit of the last row below it that has a part; t is that of the rows before.
unfoldable pub laid_from : ℕ → Rows → Bool
laid_from t [] = true
laid_from t (y ∷ l) = eqb (y % t) 0 && laid_from (next_top t y) l

-- Every row fits in 64 bits.
abbrev pub Small : Rows → Type 0
Small l = All (λ x. x < 2 ^ 64) l

-- ---- what it says

over_one : (l : Rows) → Over 0 l
over_one [] = tt
over_one (y ∷ l) = (one-dvd y, over_one l)

-- The test is that of the first row and that of the rest.
laid_split : (t y : ℕ) (l : Rows) → T (laid_from t (y ∷ l)) ↔ ((t ∣ y) × T (laid_from (next_top t y) l))
unfolding laid_from
laid_split t y l =
    let p = eqb (y % t) 0 in
    let q = laid_from (next_top t y) l in (
      λ h. ((dvd_iff_mod-eq-zero t).1 (eqb→eq (y % t) 0 (and_l p q h)), and_r p q h),
      λ h. and_i p q (eq→eqb ((dvd_iff_mod-eq-zero t).0 h.0)) h.1,
    )

-- The test from 2^e on says that every exponent is at least e, too.
laid_from_lem : (e : ℕ) (l : Rows) → Small l → T (laid_from (2 ^ e) l) ↔ (Laid l × Over e l)
unfolding laid_from next_top
laid_from_lem e [] s = (λ _. (tt, tt), λ _. tt)
laid_from_lem e (y ∷ l) s = go (dec_lt 0 y) (laid_from_lem e l s.1) (λ j. laid_from_lem j l s.1)
  where
    go :
        Dec (0 < y)
        → (T (laid_from (2 ^ e) l) ↔ (Laid l × Over e l))
        → ((j : ℕ) → T (laid_from (2 ^ j) l) ↔ (Laid l × Over j l))
        → T (laid_from (2 ^ e) (y ∷ l)) ↔ (Laid (y ∷ l) × Over e (y ∷ l))
    go (no z) same other =
        let n : next_top (2 ^ e) y ≡ 2 ^ e = rw (eq-eqb y 0 (omega arith)) in (
          λ t.
              let v = (laid_split (2 ^ e) y l).0 t in
              let r = same.0 (rw n at v.1) in
              (((e, omega (arith, pow_pos (suc e)), r.1), r.0), (v.0, r.1)),
          λ h. (laid_split (2 ^ e) y l).1 (h.1.0, rw n (same.1 (h.0.1, h.1.1))),
        )
    go (yes p) same other =
        let r = top_exists y p s.0 in
        let j = r.0 in
        let n : next_top (2 ^ e) y ≡ 2 ^ j = rw (ne_eqb y 0 (λ q. omega arith)) r.3 in (
          λ t.
              let v = (laid_split (2 ^ e) y l).0 t in
              let o = (other j).0 (rw n at v.1) in
              let g : e < suc j = exp_lt e (suc j) (omega (arith, le_of_dvd p v.0, r.2)) in
              (((j, r.2, o.1), o.0), (v.0, over_less l (omega arith) o.1)),
          λ h.
              let f = h.0.0.0 in
              let g : j < suc f = exp_lt j (suc f) (omega (arith, r.1, h.0.0.1)) in
              (laid_split (2 ^ e) y l).1 (h.1.0, rw n ((other j).1 (h.0.1, over_less l (omega arith) h.0.0.2))),
        )

-- The test of whole rows says the chain condition.
pub laid_test : (l : Rows) → Small l → T (laid_from 1 l) ↔ Laid l
laid_test l s = (λ t. ((laid_from_lem 0 l s).0 t).0, λ h. (laid_from_lem 0 l s).1 (h, over_one l))

-- Rows whose numbers are all below 2^64.
pub small_all : (R : Rows) → ((i : ℕ) → get_or R i 0 < 2 ^ 64) → Small R
small_all [] f = tt
small_all (x ∷ R) f = (f 0, small_all R (λ i. f (suc i)))
