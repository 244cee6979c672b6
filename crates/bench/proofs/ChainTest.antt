-- Whether rows are those of a chain of n, found out from the highest row down: what `rows::is_chain` rests on.
-- In this order: rows from some row on; what is known of the rows looked at; one row more; the row below row i; all rows; what the code answers.
use Rattle.std.specs.Prelude.{◌≡◌, ◌↔◌, IsTrue, false, eqb, refl, [], ◌∷◌, length, get_or, drop}
use Rattle.std.proofs.Common.{sym, ap, ◌∙◌, pow-suc, arith, drop_of_length-le, pow_mono, drop-cons, eq-eqb}
use Rattle.std.proofs.lemmas.Bool.{false≢true}
use Rattle.std.proofs.Math.Decide.{ℕ_discrete}
use borrow.Author.Tests.{eqb-true}
use Prim.Native.Nat.{ℕ, zero, suc, ◌+◌, ◌-◌, ◌*◌, ◌/◌, ◌^◌, ◌≤◌, ◌<◌}
use Rattle.std.proofs.Math.Nat.{dvd-zero}
use Rattle.std.proofs.Math.Pow.{pow_pos}
use Rattle.moves.specs.Rows.{Rows, amount, Over, Laid, Held, Laying}
use Rattle.moves.proofs.RowLaws.{over_less, exp_lt, amount_drop, amount_back}
use Rattle.moves.proofs.BitLaws.{low_dvd, low_most, low_exists}
use Rattle.moves.specs.Amounts.{low_bit}
use Rattle.moves.proofs.MoveLaws.{chain_held, held_chain}

-- ---- rows from some row on

row_down : (i : ℕ) (R : Rows) → 0 < i → i ≤ length R → drop (i - 1) R ≡ get_or R (i - 1) 0 ∷ drop i R
row_down i R p h =
    let e : suc (i - 1) ≡ i = omega arith in
    drop-cons R (i - 1) 0 (omega arith) ∙ ap (λ (j : ℕ). get_or R (i - 1) 0 ∷ drop j R) e

laid_drop : (i : ℕ) (R : Rows) → Laid R → Laid (drop i R)
laid_drop zero R h = h
laid_drop (suc i) [] h = tt
laid_drop (suc i) (x ∷ R) h = laid_drop i R h.1

held : (n : ℕ) (R : Rows) → n < 2 ^ 64 → Laying n R → Held R × (amount R ≡ n)
held n R l w = rw w.rows (chain_held n w.chain l w.of_n)

-- ---- what is known of the rows looked at

-- The rows l are laid out as a chain is, and sum to `sum`, at most n. `least` is 2^low and divides every row. Where `low` is below
-- 63, 2^(low + 1) does not.
pub record Looked (n least sum : ℕ) (l : Rows) : Type 0 where
  pub laid : Laid l
  pub low : ℕ
  pub power : least ≡ 2 ^ low
  pub over : Over low l
  pub most : Over (suc low) l → 63 ≤ low
  pub sums : sum ≡ amount l
  pub within : sum ≤ n

pub none_looked : (n i : ℕ) (R : Rows) → length R ≤ i → Looked n 9223372036854775808 0 (drop i R)
unfolding amount
none_looked n i R h =
    rw (drop_of_length-le R h)
    (record { laid = tt; low = 63; power = refl; over = tt; most = λ o. omega arith; sums = refl; within = omega arith })

-- ---- one row more

module _ {n least sum : ℕ} {l : Rows} (k : Looked n least sum l) (x : ℕ) where
  below : x / 2 < least → x < 2 ^ suc k.low
  below h = omega (arith, k.power, pow-suc 2 k.low)

  empty_over : x ≡ 0 → 3 * sum ≤ n → Looked n least (3 * sum) (x ∷ l)
  unfolding amount
  empty_over e h =
      rw e
      (record {
        laid = ((k.low, pow_pos (suc k.low), k.over), k.laid);
        low = k.low;
        power = k.power;
        over = (dvd-zero (2 ^ k.low), k.over);
        most = λ o. k.most o.1;
        sums = omega (arith, k.sums);
        within = h;
      })

  row_over : (x ≡ 0 → ⊥) → x < 2 ^ 64 → x / 2 < least → 3 * sum + x ≤ n → Looked n (low_bit x) (3 * sum + x) (x ∷ l)
  unfolding amount
  row_over z f b h =
      let r = low_exists x (omega arith) f in
      let o : r.0 < suc k.low = exp_lt r.0 (suc k.low) (omega (arith, r.1.some, below b)) in
      record {
        laid = ((k.low, below b, k.over), k.laid);
        low = r.0;
        power = r.2;
        over = (low_dvd r.1, over_less l (omega arith) k.over);
        most = λ (d : Over (suc r.0) (x ∷ l)). omega (arith, low_most r.1 (suc r.0) d.0);
        sums = omega (arith, k.sums);
        within = h;
      }

  -- A bit of x above `least` belongs to a part that some part above is no multiple of.
  row_wide : x < 2 ^ 64 → least ≤ x / 2 → Laid (x ∷ l) → ⊥
  row_wide f b h =
      let e : ℕ = h.0.0 in
      let g : suc k.low < suc e = exp_lt (suc k.low) (suc e) (omega (arith, h.0.1, k.power, pow-suc 2 k.low)) in
      let m = k.most (over_less l (omega arith) h.0.2) in
      omega (arith, k.power, pow_mono {i = 63} {j = k.low} m)

-- ---- the row below row i

module _ (R : Rows) (i : ℕ) where
  abbrev x : ℕ
  x = get_or R (i - 1) 0

  module _ {n least sum : ℕ} (p : 0 < i) (b : i ≤ length R) (k : Looked n least sum (drop i R)) where
    pub empty_looked : x ≡ 0 → sum ≤ n / 3 → Looked n least (3 * sum) (drop (i - 1) R)
    empty_looked e h = rw (row_down i R p b) (empty_over k x e (omega arith))

    pub row_looked : {low : ℕ}
        → low ≡ low_bit x → (x ≡ 0 → ⊥) → x < 2 ^ 64 → x / 2 < least → 3 * sum + x ≤ n → Looked n low (3 * sum + x) (drop (i - 1) R)
    row_looked e z f h w = rw (e, row_down i R p b) (row_over k x z f h w)

    -- What refuses a chain of n: in one, the rows from i - 1 on sum to at most n, and are laid out as a chain is.
    module _ (l : n < 2 ^ 64) (w : Laying n R) where
      sum_on : 3 * sum + x ≤ n
      sum_on = omega (arith, amount_back i R p b, amount_drop (i - 1) R, k.sums, (held n R l w).1)

      pub third_refused : n / 3 < sum → ⊥
      third_refused h = omega (arith, sum_on)

      pub sum_refused : n - 3 * sum < x → ⊥
      sum_refused h = omega (arith, sum_on)

      pub wide_refused : x < 2 ^ 64 → least ≤ x / 2 → ⊥
      wide_refused f h = row_wide k x f h (rw (row_down i R p b) at (laid_drop (i - 1) R (held n R l w).0.laid))

  -- ---- all rows

  module _ {n least sum : ℕ} (k : Looked n least sum (drop i R)) (z : i ≡ 0) (l : n < 2 ^ 64) where
    all_looked : Looked n least sum R
    all_looked = let e : drop i R ≡ R = ap (λ (j : ℕ). drop j R) z in rw e at k

    pub chain_yes : length R ≡ 41 → sum ≡ n → Laying n R
    chain_yes g e =
        let q : amount R ≡ n = sym all_looked.sums ∙ e in
        rw q at (held_chain R (record { rows = g; laid = all_looked.laid; fits = omega (arith, q) }))

    pub chain_no : (sum ≡ n → ⊥) → Laying n R → ⊥
    chain_no e w = e (all_looked.sums ∙ (held n R l w).1)

    -- The last test of the code.
    pub chain_told : length R ≡ 41 → IsTrue (eqb sum n) ↔ Laying n R
    chain_told g = (
      λ e. chain_yes g (eqb-true sum n e),
      λ w. or_no (ℕ_discrete sum n) w,
    )
      where
        or_no : Dec (sum ≡ n) → Laying n R → IsTrue (eqb sum n)
        or_no (yes e) w = eq-eqb sum n e
        or_no (no e) w = absurd (chain_no e w)

-- A row that no chain of n has.
pub refuses : {P : Type 0} → (P → ⊥) → IsTrue false ↔ P
refuses f = (λ e. absurd (false≢true e), λ w. absurd (f w))
