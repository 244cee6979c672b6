-- The two loops of the code that walks rows down to the binary chain (Walks): what they keep, and the laws by which they start,
-- go on and end.
--
-- In this order: the loop that empties a row into the one below, with `Emptying`; the loop over the rows, with `Walking`.
use Rattle.std.specs.Prelude.{◌≡◌, refl, [], ◌∷◌, ◌++◌, ℕ, zero, suc, ◌+◌, ◌-◌, ◌*◌, ◌^◌, ◌≤◌, ◌<◌, length, get_or, set, take, drop}
use Rattle.std.proofs.Common.{sym, ap, ◌∙◌, arith, length-append, length-take-le}
use Rattle.std.proofs.Math.Nat.{one-dvd}
use Rattle.moves.specs.Rows.{Rows, amount, Held, Zeros}
use Rattle.moves.proofs.RowLaws.{split_at, set_at, drop_past, all_drop, drop_all, amount_append, row_amount}
use Rattle.moves.proofs.RowMoveLaws.{facts, shape_pos, shape_kind}
use Rattle.moves.specs.Amounts.{fall_kind, fall_by, Tells}
use Rattle.moves.specs.Walks.{Fits, Phase, done, WalkRows, stop}
use Rattle.moves.proofs.Phases.{fall_next, next_phase, phase_bound, phase_walk, phase_laid}
use Rattle.moves.proofs.ChangeLaws.{fits_rows}

-- ---- two rows

-- The rows are `low` and `up`, and were x and y before `moves` moves. `few` bounds the moves while the loop runs.
pub record Emptying (x y low up moves : ℕ) : Type 0 where
  pub sums : low + 3 * up ≡ x + 3 * y
  pub chain : Fits low up
  pub rest : (j : ℕ) → Phase low up j → Phase x y (moves + j)
  pub few : moves + up ≤ y

pub emptying_start : (x y : ℕ) → Fits x y → Emptying x y x y 0
emptying_start x y f =
    record {
      sums = refl;
      chain = f;
      few = omega arith;
      rest = λ j p. let q : 0 + j ≡ j = omega arith in rw q p;
    }

-- The loop goes on with a move that `fall` told.
pub emptying_fall :
    (x y low up moves k s : ℕ)
    → Emptying x y low up moves
    → x + 3 * y < 2 ^ 64
    → (up ≡ 0 → ⊥)
    → Tells k s (fall_kind low up) (fall_by low up)
    → (0 < s) × (s ≤ up) × Emptying x y (low + 3 * s) (up - s) (moves + 1)
emptying_fall x y low up moves k s h f p t =
    let n = fall_next low up h.chain (omega arith) (omega (arith, h.sums)) in
    let r = n.1 in
    let s_is : s ≡ r.s = t.amounts (omega (arith, n.2, shape_kind r.shape)) ∙ n.3 in
    let y_is : up - s ≡ r.y' = omega (arith, r.is) in
    let x_is : low + 3 * s ≡ 3 * r.s + low = omega arith in (
      omega (arith, s_is, shape_pos r.shape),
      omega (arith, r.is, s_is),
      record {
        sums = omega (arith, h.sums, r.is, s_is);
        chain = rw (x_is, y_is) (suc r.m, (facts r.shape).to, r.left);
        rest = λ j a.
            let q : moves + 1 + j ≡ moves + suc j = omega arith in
            rw q (h.rest (suc j) (next_phase low up n.0 r j (rw (x_is, y_is) at a)));
        few = omega (arith, h.few, r.is, s_is, shape_pos r.shape);
      },
    )

-- At the end, the lower row has all, and there were at most 64 moves.
pub emptying_end :
    (x y low up moves : ℕ)
    → Emptying x y low up moves
    → x + 3 * y < 2 ^ 64
    → up ≡ 0
    → (low ≡ 3 * y + x) × Phase x y moves × (moves ≤ 64)
emptying_end x y low up moves h f z =
    let n : moves + 0 ≡ moves = omega arith in
    let d : Phase low up 0 = rw z done in
    let p : Phase x y moves = rw n at (h.rest 0 d) in
    (omega (arith, h.sums), p, phase_bound 0 64 p (one-dvd y) (omega arith))

-- ---- the rows

-- The rows are R, and were R₀ before `total` moves; all rows above row b are empty. `few` bounds the moves.
pub record Walking (R₀ R : Rows) (b total : ℕ) : Type 0 where
  pub held : Held R
  pub same : amount R ≡ amount R₀
  pub flat : (i : ℕ) → b < i → i < length R → get_or R i 0 ≡ 0
  pub rest : (i : ℕ) (d : Rows) → WalkRows R i d → WalkRows R₀ (total + i) d
  pub few : total + 64 * b ≤ 2560
  pub low : b ≤ 40

pub walking_start : (R : Rows) → Held R → Walking R R 40 0
walking_start R h =
    record {
      held = h;
      same = refl;
      few = omega arith;
      low = omega arith;
      flat = λ i p q. absurd (omega (arith, h.rows));
      rest = λ i d w. let q : 0 + i ≡ i = omega arith in rw q w;
    }

-- What `empty` asks of two rows.
pub walking_rows :
    (R : Rows) (b : ℕ)
    → Held R
    → 0 < b
    → b ≤ 40
    → Fits (get_or R (b - 1) 0) (get_or R b 0) × (get_or R (b - 1) 0 + 3 * get_or R b 0 < 2 ^ 64)
walking_rows R b h p l =
    let q : b ≡ suc (b - 1) = omega arith in
    let k : suc (b - 1) < length R = omega (arith, h.rows) in
    let f = fits_rows (b - 1) R k h.fits h.laid in
    let a = row_amount (b - 1) R k in
    let e : get_or R b 0 ≡ get_or R (suc (b - 1)) 0 = ap (λ (i : ℕ). get_or R i 0) q in
    rw e (f, omega (arith, a, h.fits))

walking_row :
    (R₀ R : Rows) (b total row moves : ℕ)
    → Walking R₀ R (suc b) total
    → row ≡ 3 * get_or R (suc b) 0 + get_or R b 0
    → Phase (get_or R b 0) (get_or R (suc b) 0) moves
    → moves ≤ 64
    → Walking R₀ (set (set R b row) (suc b) 0) b (total + moves)
unfolding amount
walking_row R₀ R b total row moves h e p k = rw (set_at b R row 0 long, e) made
  where
    x : ℕ
    x = get_or R b 0

    y : ℕ
    y = get_or R (suc b) 0

    long : suc b < length R
    long = omega (arith, h.held.rows, h.low)

    u : Rows
    u = take b R

    z : Rows
    z = drop (suc (suc b)) R

    whole : R ≡ u ++ (x ∷ y ∷ z)
    whole = split_at b R long

    zs : Zeros z
    zs = all_drop (λ (i : ℕ). i ≡ 0) (suc (suc b)) R (λ i g l. h.flat i (omega arith) l)

    len : length u ≡ b
    len = length-take-le b R (omega (arith, long))

    made : Walking R₀ (u ++ ((3 * y + x) ∷ 0 ∷ z)) b (total + moves)
    made =
        let a : amount (u ++ ((3 * y + x) ∷ 0 ∷ z)) ≡ amount R =
        amount_append u ((3 * y + x) ∷ 0 ∷ z) (x ∷ y ∷ z) (omega arith) ∙ ap amount (sym whole) in
        let n : length (u ++ ((3 * y + x) ∷ 0 ∷ z)) ≡ 41 =
        omega (arith, length-append u ((3 * y + x) ∷ 0 ∷ z), length-append u (x ∷ y ∷ z), ap length whole, h.held.rows) in
        let d = phase_laid u z zs p (rw whole at h.held.laid) in
        let f : Zeros (drop (suc b) (u ++ ((3 * y + x) ∷ 0 ∷ z))) = rw (drop_past u (3 * y + x) (0 ∷ z) b len) (refl, zs) in
        record {
          held = record { rows = n; laid = d; fits = omega (arith, a, h.held.fits) };
          same = a ∙ h.same;
          flat = drop_all (λ (j : ℕ). j ≡ 0) (suc b) (u ++ ((3 * y + x) ∷ 0 ∷ z)) f;
          rest = λ i d w.
              let q : total + moves + i ≡ total + (moves + i) = omega arith in
              rw q (h.rest (moves + i) d (rw whole (phase_walk i u z d zs p w)));
          few = omega (arith, h.few, k);
          low = omega (arith, h.low);
        }

-- Row b is emptied into the row below.
pub walking_step :
    (R₀ R : Rows) (b total row moves : ℕ)
    → Walking R₀ R b total
    → 0 < b
    → row ≡ 3 * get_or R b 0 + get_or R (b - 1) 0
    → Phase (get_or R (b - 1) 0) (get_or R b 0) moves
    → moves ≤ 64
    → Walking R₀ (set (set R (b - 1) row) b 0) (b - 1) (total + moves)
walking_step R₀ R zero total row moves h p e f k = absurd (omega arith)
walking_step R₀ R (suc b) total row moves h p e f k =
    let q : suc b - 1 ≡ b = omega arith in
    rw q (walking_row R₀ R b total row moves h (rw q at e) (rw q at f) k)

pub walking_end : (R₀ R : Rows) (total : ℕ) → Walking R₀ R 0 total → WalkRows R₀ total R
walking_end R₀ [] total h = absurd (omega (arith, h.held.rows))
walking_end R₀ (n ∷ z) total h =
    let q : total + 0 ≡ total = omega arith in
    let zs : Zeros z = all_drop (λ (i : ℕ). i ≡ 0) 1 (n ∷ z) (λ i g l. h.flat i (omega arith) l) in
    rw q at (h.rest 0 (n ∷ z) (stop zs))
