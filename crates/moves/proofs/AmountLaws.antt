-- The kind and the amount that the code computes (Amounts) are those of the move (RowMoves).
--
-- In this order: a move up; a move down; what `rise` and `fall` of the code tell in each case.
use Rattle.std.specs.Prelude.{◌≡◌, refl, ◌⊎◌, false, ℕ, zero, suc, ◌+◌, ◌-◌, ◌*◌, ◌/◌, ◌^◌, ◌≤◌, ◌<◌, ltb, eqb}
use Rattle.std.proofs.Math.Path.{sym}
use Rattle.std.proofs.Common.{ap, ◌∙◌, inl, inr, ⊎_elim, pow-suc, pow_pos, pow_mono}
use Rattle.std.specs.Int.{◌∣◌}
use Rattle.std.proofs.Math.Nat.{dvd_trans}
use Rattle.std.proofs.Math.Decide.{dec_lt, ℕ_discrete}
use native.Mathlib.Omega.{arith}
use borrow.Author.Tests.{eq-eqb, ne_eqb, le-ltb, lt-ltb, le-leb, lt-leb}
use Rattle.moves.proofs.RowLaws.{pow_dvd, exp_lt}
use Rattle.moves.specs.RowMoves.{Shape, one, two}
use Rattle.moves.proofs.RowMoveLaws.{Facts, facts, shape_pos}
use Rattle.moves.specs.Amounts.{top_bit, low_bit, gap_kind, rise_kind_at, rise_by_at, rise_kind, rise_by, fall_kind_at, fall_by_at}
use Rattle.moves.specs.Amounts.{fall_kind, fall_by, Tells}
use Rattle.moves.proofs.BitLaws.{Low, low_or, low_add, top_is, top_exists, low_is, half_top}

-- The lowest one bit of a move's amount is 2^c.
pub shape_low : {s x m c : ℕ} → Facts s x m c → 0 < s → Low c s
shape_low {s} {x} {m} {c} f p = ⊎_elim (λ (d : 2 ^ suc c ∣ s). absurd (f.odd d)) (λ (w : Low c s). w) (low_or c s f.even)

-- ---- up

-- The first kind and the second kind are found.
one_complete : (m x : ℕ) → x < 2 ^ m → (rise_kind_at (3 * 2 ^ m + x) (2 ^ m) ≡ 1) × (rise_by_at (3 * 2 ^ m + x) (2 ^ m) ≡ 2 ^ m)
unfolding rise_kind_at rise_by_at
one_complete m x h =
    let e = le-leb (3 * 2 ^ m) (3 * 2 ^ m + x) (omega arith) in
    (rw e, rw e)

two_complete :
    (m s x c : ℕ)
    → s + 2 ^ c ≡ 2 ^ m
    → 2 ^ c ≤ x
    → x < 2 ^ suc c
    → 3 * s + x < 2 ^ 64
    → (rise_kind_at (3 * s + x) (2 ^ m) ≡ 2) × (rise_by_at (3 * s + x) (2 ^ m) ≡ s)
unfolding rise_kind_at rise_by_at gap_kind
two_complete m s x c e l u h =
    let p = lt-leb (3 * 2 ^ m) (3 * s + x) (omega (arith, pow-suc 2 c, pow_pos c)) in
    let g : 3 * 2 ^ m - 1 - (3 * s + x) ≡ 3 * 2 ^ c - 1 - x = omega (arith, pow-suc 2 c) in
    let b : 3 * 2 ^ c - 1 - x < 2 ^ 64 = omega (arith, pow-suc 2 c, pow_mono {i = suc c} {j = 64} (exp_lt c 64 (omega arith))) in
    let t = top_is c (3 * 2 ^ c - 1 - x) (omega (arith, pow-suc 2 c)) (omega (arith, pow-suc 2 c)) b in
    let z : eqb (3 * 2 ^ c - 1 - x) 0 ≡ false = ne_eqb (3 * 2 ^ c - 1 - x) 0 (λ q. omega (arith, pow-suc 2 c, pow_pos c)) in
    (rw (p, g, z), rw (p, g, t) (omega arith))

-- Where a row allows a move up, its kind and its amount are computed.
pub rise_complete :
    {k s x m c : ℕ} → Shape k s x m c → 3 * s + x < 2 ^ 64 → (rise_kind (3 * s + x) ≡ k) × (rise_by (3 * s + x) ≡ s)
unfolding rise_kind rise_by
rise_complete {k} {s} {x} {m} {c} w h = rw (two_le, half) (go w h)
  where
    f : Facts s x m c
    f = facts w

    half : top_bit (3 * s + x) / 2 ≡ 2 ^ m
    half = ap (λ (i : ℕ). i / 2) (top_is (suc m) (3 * s + x) f.from f.to h) ∙ omega (arith, pow-suc 2 m)

    two_le : ltb (3 * s + x) 2 ≡ false
    two_le = le-ltb (3 * s + x) 2 (omega (arith, f.from, pow-suc 2 m, pow_pos m))

    go :
        {k s x m c : ℕ}
        → Shape k s x m c
        → 3 * s + x < 2 ^ 64
        → (rise_kind_at (3 * s + x) (2 ^ m) ≡ k) × (rise_by_at (3 * s + x) (2 ^ m) ≡ s)
    go {k} {s} {x} {m} (one e l) h = rw e (one_complete m x l)
    go {k} {s} {x} {m} {c} (two a e l u) h = two_complete m s x c e l u h

-- `Rise X` is a move up at the row X.
pub record Rise (X : ℕ) : Type 0 where
  pub k : ℕ
  pub s : ℕ
  pub x : ℕ
  pub m : ℕ
  pub c : ℕ
  pub shape : Shape k s x m c
  pub is : X ≡ 3 * s + x

-- There is one, or the kind computed is 0.
pub rise_at : (X : ℕ) → X < 2 ^ 64 → (rise_kind X ≡ 0) ⊎ Rise X
unfolding rise_kind rise_kind_at gap_kind
rise_at X h = go (dec_lt X 2)
  where
    at : (m : ℕ) → 2 ^ suc m ≤ X → X < 2 ^ suc (suc m) → top_bit X ≡ 2 ^ suc m → Dec (X < 3 * 2 ^ m) → (rise_kind X ≡ 0) ⊎ Rise X
    at m l u t (no a) =
        inr (record {
          k = 1;
          s = 2 ^ m;
          x = X - 3 * 2 ^ m;
          m = m;
          c = m;
          shape = one {s = 2 ^ m} {x = X - 3 * 2 ^ m} {m = m} refl (omega (arith, pow-suc 2 m, pow-suc 2 (suc m)));
          is = omega arith;
        })
    at m l u t (yes a) = gap (ℕ_discrete (3 * 2 ^ m - 1 - X) 0)
      where
        gap : Dec (3 * 2 ^ m - 1 - X ≡ 0) → (rise_kind X ≡ 0) ⊎ Rise X
        gap (yes z) =
            let half : top_bit X / 2 ≡ 2 ^ m = ap (λ (i : ℕ). i / 2) t ∙ omega (arith, pow-suc 2 m) in
            let two_le = le-ltb X 2 (omega (arith, pow-suc 2 m, pow_pos m)) in
            inl (rw (two_le, half, lt-leb (3 * 2 ^ m) X a, eq-eqb (3 * 2 ^ m - 1 - X) 0 z))
        gap (no z) =
            let g = 3 * 2 ^ m - 1 - X in
            let r = top_exists g (omega arith) (omega arith) in
            let c = r.0 in
            let o : c < m = exp_lt c m (omega (arith, r.1, pow-suc 2 m)) in
            let v = pow_mono {i = c} {j = m} (omega arith) in
            inr (record {
              k = 2;
              s = 2 ^ m - 2 ^ c;
              x = X - 3 * (2 ^ m - 2 ^ c);
              m = m;
              c = c;
              shape = two {s = 2 ^ m - 2 ^ c} {x = X - 3 * (2 ^ m - 2 ^ c)} {m = m} {c = c} o (omega arith)
                  (omega (arith, r.2, pow-suc 2 c)) (omega (arith, r.1, pow-suc 2 c));
              is = omega (arith, r.1, r.2, pow-suc 2 c);
            })

    some : (j : ℕ) → 2 ≤ X → 2 ^ j ≤ X → X < 2 ^ suc j → top_bit X ≡ 2 ^ j → (rise_kind X ≡ 0) ⊎ Rise X
    some zero q l u t = absurd (omega arith)
    some (suc m) q l u t = at m l u t (dec_lt X (3 * 2 ^ m))

    go : Dec (X < 2) → (rise_kind X ≡ 0) ⊎ Rise X
    go (yes l) = inl (rw (lt-ltb X 2 l))
    go (no l) = let r = top_exists X (omega arith) h in some r.0 (omega arith) r.1 r.2 r.3

-- ---- down

fall_at :
    {k s x m c : ℕ} (y : ℕ)
    → Shape k s x m c
    → 2 ^ suc m ∣ y
    → 2 * (s + y) < 2 ^ 64
    → (fall_kind_at x (2 ^ c) ≡ k) × (fall_by_at x (s + y) (2 ^ c) ≡ s)
unfolding fall_kind_at fall_by_at
fall_at {k} {s} {x} {m} y (one e l) d h = let t = lt-ltb x (2 ^ m) l in (rw t, rw t (sym e))
fall_at {k} {s} {x} {m} {c} y (two a e l u) d h =
    let t = le-ltb x (2 ^ c) l in
    let q : s + y + 2 ^ c ≡ 2 ^ m + y = omega arith in
    let z : 2 ^ m + y - 2 ^ m ≡ y = omega arith in
    let o : Low m (2 ^ m + y) = record { some = omega arith; rest = rw z d } in
    let n = low_is m (2 ^ m + y) o (omega (arith, pow_mono a, pow-suc 2 c, pow_pos c)) in
    (rw t, rw (t, q, n) (omega arith))

-- Where two rows allow a move down, its kind and its amount are computed. That they do is `next_at` (Phases).
pub fall_complete :
    {k s x m c : ℕ} (y : ℕ)
    → Shape k s x m c
    → 2 ^ suc m ∣ y
    → 2 * (s + y) < 2 ^ 64
    → (fall_kind x (s + y) ≡ k) × (fall_by x (s + y) ≡ s)
unfolding fall_kind fall_by
fall_complete {k} {s} {x} {m} {c} y w d h = rw (some, lowest) (fall_at y w d h)
  where
    f : Facts s x m c
    f = facts w

    p : 0 < s
    p = shape_pos w

    some : eqb (s + y) 0 ≡ false
    some = ne_eqb (s + y) 0 (λ q. omega (arith, p))

    lowest : low_bit (s + y) ≡ 2 ^ c
    lowest =
        let t = dvd_trans (2 ^ suc c) (pow_dvd (omega (arith, f.order))) d in
        low_is c (s + y) (low_add y (shape_low f p) t) (omega arith)

-- ---- for the code

-- What `rise` tells, in its four cases.
pub rise_none : (x : ℕ) → x < 2 → Tells 0 0 (rise_kind x) (rise_by x)
unfolding rise_kind
rise_none x h = let e : rise_kind x ≡ 0 = rw (lt-ltb x 2 h) in record { kinds = sym e; amounts = λ p. omega arith }

module _ (x h : ℕ) (l : 2 ≤ x) (e : top_bit x / 2 ≡ h) where
  pub rise_first : 3 * h ≤ x → Tells 1 h (rise_kind x) (rise_by x)
  unfolding rise_kind rise_by rise_kind_at rise_by_at
  rise_first t =
      let q : rise_kind x ≡ 1 = rw (le-ltb x 2 l, e, le-leb (3 * h) x t) in
      let r : rise_by x ≡ h = rw (e, le-leb (3 * h) x t) in
      record { kinds = sym q; amounts = λ p. sym r }

  pub rise_stuck : x < 3 * h → 3 * h - 1 - x ≡ 0 → Tells 0 0 (rise_kind x) (rise_by x)
  unfolding rise_kind rise_kind_at gap_kind
  rise_stuck t g =
      let q : rise_kind x ≡ 0 = rw (le-ltb x 2 l, e, lt-leb (3 * h) x t, eq-eqb (3 * h - 1 - x) 0 g) in
      record { kinds = sym q; amounts = λ p. omega arith }

  pub rise_second : x < 3 * h → (3 * h - 1 - x ≡ 0 → ⊥) → Tells 2 (h - top_bit (3 * h - 1 - x)) (rise_kind x) (rise_by x)
  unfolding rise_kind rise_kind_at gap_kind rise_by rise_by_at
  rise_second t g =
      let q : rise_kind x ≡ 2 = rw (le-ltb x 2 l, e, lt-leb (3 * h) x t, ne_eqb (3 * h - 1 - x) 0 g) in
      let r : rise_by x ≡ h - top_bit (3 * h - 1 - x) = rw (e, lt-leb (3 * h) x t) in
      record { kinds = sym q; amounts = λ p. sym r }

-- The amount of the second kind does not go below 0.
pub gap_top : (x h : ℕ) → 2 ≤ x → x < 2 ^ 64 → top_bit x / 2 ≡ h → (3 * h - 1 - x ≡ 0 → ⊥) → top_bit (3 * h - 1 - x) ≤ h
gap_top x h l u e g =
    let t = half_top x l u in
    let r = top_exists (3 * h - 1 - x) (omega arith) (omega arith) in
    omega (arith, r.1, r.3, e)

-- What `fall` tells, in its three cases.
pub fall_none : (x : ℕ) → Tells 0 0 (fall_kind x 0) (fall_by x 0)
unfolding fall_kind
fall_none x = let e : fall_kind x 0 ≡ 0 = refl in record { kinds = sym e; amounts = λ p. omega arith }

module _ (x y g : ℕ) (l : y ≡ 0 → ⊥) (e : low_bit y ≡ g) where
  pub fall_first : x < g → Tells 1 g (fall_kind x y) (fall_by x y)
  unfolding fall_kind fall_by fall_kind_at fall_by_at
  fall_first t =
      let q : fall_kind x y ≡ 1 = rw (ne_eqb y 0 l, e, lt-ltb x g t) in
      let r : fall_by x y ≡ g = rw (e, lt-ltb x g t) in
      record { kinds = sym q; amounts = λ p. sym r }

  pub fall_second : g ≤ x → Tells 2 (low_bit (y + g) - g) (fall_kind x y) (fall_by x y)
  unfolding fall_kind fall_by fall_kind_at fall_by_at
  fall_second t =
      let q : fall_kind x y ≡ 2 = rw (ne_eqb y 0 l, e, le-ltb x g t) in
      let r : fall_by x y ≡ low_bit (y + g) - g = rw (e, le-ltb x g t) in
      record { kinds = sym q; amounts = λ p. sym r }
