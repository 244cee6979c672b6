-- Two rows of a chain, the upper one emptied into the lower one by moves down (Walks).
--
-- In this order: there is always a next move; the moves end, and are no more than the binary digits of the upper row; they are
-- moves of the whole walk, and keep the chain condition. The whole walk is in Ends.
use Rattle.std.specs.Prelude.{◌≡◌, refl, ◌⊎◌, ◌∷◌, ◌++◌, ℕ, zero, suc, ◌+◌, ◌-◌, ◌*◌, ◌^◌, ◌≤◌, ◌<◌}
use Rattle.std.proofs.Common.{ap, ◌∙◌, inl, inr, arith, pow_pos, pow_mono}
use Rattle.std.specs.Int.{◌∣◌}
use Rattle.std.proofs.Math.Nat.{dvd_trans, le_of_dvd}
use Rattle.std.proofs.Math.Decide.{dec_lt}
use Rattle.moves.specs.Rows.{Rows, Laid, Zeros}
use Rattle.moves.proofs.RowLaws.{pow_dvd, zeros_over}
use Rattle.moves.specs.RowMoves.{Shape, one, two}
use Rattle.moves.proofs.RowMoveLaws.{facts, shape_pos, down_laid}
use Rattle.moves.specs.Amounts.{fall_kind, fall_by}
use Rattle.moves.proofs.BitLaws.{Low, low_most, low_or, low_add, low_carry, has_low, low_exists}
use Rattle.moves.proofs.AmountLaws.{shape_low, fall_complete}
use Rattle.moves.specs.Walks.{Fits, Phase, done, more, WalkRows, step}

-- The next move of the rows x and y, whose lowest one bit is 2^e: it takes s from y and leaves y'.
pub record Next (x y e : ℕ) : Type 0 where
  pub m : ℕ
  pub from : e ≤ m
  pub k : ℕ
  pub s : ℕ
  pub c : ℕ
  pub y' : ℕ
  pub shape : Shape k s x m c
  pub is : y ≡ s + y'
  pub left : 2 ^ suc m ∣ y'

-- There is always one.
pub next_at : (x y e : ℕ) → Low e y → Fits x y → Next x y e
next_at x y e w (f, h, d) = go (dec_lt x (2 ^ e))
  where
    le : f ≤ e
    le = low_most w f d

    go : Dec (x < 2 ^ e) → Next x y e
    go (yes l) =
        record {
          from = omega arith;
          k = 1;
          s = 2 ^ e;
          m = e;
          c = e;
          y' = y - 2 ^ e;
          shape = one refl l;
          is = omega (arith, w.some);
          left = w.rest;
        }
    go (no l) =
        let r = has_low (y + 2 ^ e) (omega (arith, pow_pos e)) in
        let o : suc e ≤ r.0 = low_most r.1 (suc e) (low_carry w) in
        let t : 2 ^ e ≤ 2 ^ r.0 = pow_mono (omega arith) in
        let v : 2 ^ r.0 ≤ y + 2 ^ e = r.1.some in
        let b = pow_mono {i = suc f} {j = suc e} (omega (arith, le)) in
        let u : y + 2 ^ e - 2 ^ r.0 ≡ y - (2 ^ r.0 - 2 ^ e) = omega arith in
        record {
          from = omega arith;
          k = 2;
          s = 2 ^ r.0 - 2 ^ e;
          m = r.0;
          c = e;
          y' = y - (2 ^ r.0 - 2 ^ e);
          shape = two {s = 2 ^ r.0 - 2 ^ e} {x = x} {m = r.0} {c = e} o (omega arith) (omega arith) (omega (arith, b));
          is = omega arith;
          left = rw u at r.1.rest;
        }

-- Its kind and its amount are what the code computes.
pub fall_next :
    (x y : ℕ)
    → Fits x y
    → 0 < y
    → 2 * y < 2 ^ 64
    → (e : ℕ) × (t : Next x y e) × (fall_kind x y ≡ t.k) × (fall_by x y ≡ t.s)
fall_next x y f p h =
    let l = low_exists y p (omega arith) in
    let r = next_at x y l.0 l.1 f in
    let q = fall_complete r.y' r.shape r.left (omega (arith, r.is)) in
    (l.0, r, ap (λ (i : ℕ). fall_kind x i) r.is ∙ q.0, ap (λ (i : ℕ). fall_by x i) r.is ∙ q.1)

-- The next move, with the moves that empty the row from there, empties the row.
pub next_phase : (x y e : ℕ) (t : Next x y e) (j : ℕ) → Phase (3 * t.s + x) t.y' j → Phase x y (suc j)
next_phase x y e t j p = rw t.is (more t.shape t.left p)

-- The upper row can be emptied, by no more moves than it has binary digits from 2^e on.
pub phase : (g e x y : ℕ) → Fits x y → 2 ^ e ∣ y → y < 2 ^ (e + g) → (j : ℕ) × Phase x y j × (j ≤ g)
phase zero e x y f d h =
    let q : e + 0 ≡ e = omega arith in
    let z : ¬ (0 < y) = λ (p : 0 < y). omega (arith, le_of_dvd p d, ap (λ (i : ℕ). 2 ^ i) q) in
    let q : y ≡ 0 = omega arith in
    (0, rw q done, omega arith)
phase (suc g) e x y f d h = go (λ x y f d h. phase g (suc e) x y f d h) (low_or e y d)
  where
    q : 2 ^ (suc e + g) ≡ 2 ^ (e + suc g)
    q = ap (λ (i : ℕ). 2 ^ i) (omega arith)

    go :
        ((x y : ℕ) → Fits x y → 2 ^ suc e ∣ y → y < 2 ^ (suc e + g) → (j : ℕ) × Phase x y j × (j ≤ g))
        → (2 ^ suc e ∣ y) ⊎ Low e y
        → (j : ℕ) × Phase x y j × (j ≤ suc g)
    go rec (inl k) = let r = rec x y f k (omega (arith, q)) in (r.0, r.1, omega (arith, r.2))
    go rec (inr w) =
        let t = next_at x y e w f in
        let r = rec (3 * t.s + x) t.y' (suc t.m, (facts t.shape).to, t.left)
        (dvd_trans (2 ^ suc e) (pow_dvd (omega (arith, t.from))) t.left) (omega (arith, t.is, q)) in
        (suc r.0, next_phase x y e t r.0 r.1, omega (arith, r.2))

-- However it is emptied, the moves are no more than that.
pub phase_bound : {x y j : ℕ} (e g : ℕ) → Phase x y j → 2 ^ e ∣ y → y < 2 ^ (e + g) → j ≤ g
phase_bound e g done d h = omega arith
phase_bound e zero (more {k} {s} {x} {m} {c} {y} {j} w l r) d h =
    let q : e + 0 ≡ e = omega arith in
    let p : 0 < s + y = omega (arith, shape_pos w) in
    absurd (omega (arith, le_of_dvd p d, ap (λ (i : ℕ). 2 ^ i) q))
phase_bound e (suc g) (more {k} {s} {x} {m} {c} {y} {j} w l r) d h =
    let f = facts w in
    let o : e ≤ c =
    low_most (low_add y (shape_low f (shape_pos w)) (dvd_trans (2 ^ suc c) (pow_dvd (omega (arith, f.order))) l)) e d in
    let q : 2 ^ (suc e + g) ≡ 2 ^ (e + suc g) = ap (λ (i : ℕ). 2 ^ i) (omega arith) in
    let b = phase_bound (suc e) g r (dvd_trans (2 ^ suc e) (pow_dvd (omega (arith, f.order))) l) (omega arith) in
    omega arith

-- The highest row that has a part, emptied into the row below, is a part of the walk.
pub phase_walk :
    {x y j : ℕ} (i : ℕ) (u z d : Rows)
    → Zeros z
    → Phase x y j
    → WalkRows (u ++ ((3 * y + x) ∷ 0 ∷ z)) i d
    → WalkRows (u ++ (x ∷ y ∷ z)) (j + i) d
phase_walk {x} i u z d h done w =
    let q : 0 + i ≡ i = omega arith in
    let p : 3 * 0 + x ≡ x = omega arith in
    rw q (rw p at w)
phase_walk i u z d h (more {k} {s} {x} {m} {c} {y} {j} f l r) w =
    let p : 3 * (s + y) + x ≡ 3 * y + (3 * s + x) = omega arith in
    let q : suc j + i ≡ suc (j + i) = omega arith in
    rw q
    (step
    (record {
      swap = record {
        under = u;
        x = x;
        y = y;
        over = z;
        s = s;
        m = m;
        c = c;
        shape = f;
        row = refl;
        is_low = refl;
        is_high = refl;
      };
      clear = (l, zeros_over (suc m) z h);
    })
    h
    (phase_walk i u z d h r (rw p at w)))

-- It leaves the rows of a chain.
pub phase_laid : {x y j : ℕ} (u z : Rows) → Zeros z → Phase x y j → Laid (u ++ (x ∷ y ∷ z)) → Laid (u ++ ((3 * y + x) ∷ 0 ∷ z))
phase_laid {x} u z h done k = let p : 3 * 0 + x ≡ x = omega arith in rw p k
phase_laid u z h (more {k} {s} {x} {m} {c} {y} {j} w l r) g =
    let p : 3 * (s + y) + x ≡ 3 * y + (3 * s + x) = omega arith in
    rw p (phase_laid u z h r (down_laid s x m c (facts w) y z u (l, zeros_over (suc m) z h) g))
