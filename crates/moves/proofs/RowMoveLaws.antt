-- Laws of the moves on rows (RowMoves).
--
-- In this order: what both kinds of move have; a move keeps the sum and the length; the chain condition before and after a move;
-- the theorems of record: a move on a chain gives a chain, and each direction undoes the other.
use Rattle.std.specs.Prelude.{◌≡◌, refl, [], ◌∷◌, ◌++◌, ℕ, suc, ◌+◌, ◌-◌, ◌*◌, ◌^◌, ◌≤◌, ◌<◌, length}
use Rattle.std.proofs.Common.{sym, ap, ◌∙◌, pow-suc, arith, length-append, pow_pos, pow_mono}
use Rattle.std.specs.Int.{◌∣◌}
use Rattle.std.proofs.Math.Nat.{dvd_refl, dvd_trans, dvd-add, dvd-sub, dvd-add_iff_right, dvd-add_iff_left, le_of_dvd, dvd-mul_left_of_dvd}
use Rattle.std.proofs.Math.Decide.{dec_lt}
use Rattle.moves.specs.Rows.{Rows, amount, Over, Under, Laid}
use Rattle.moves.proofs.RowLaws.{pow_dvd, exp_lt, over_less, over_append, over_join, laid_tail, amount_append}
use Rattle.moves.specs.RowMoves.{Shape, one, two, Swap, UpRows, DownRows}

-- ---- both kinds

-- What both kinds have.
--   even, odd  2^c is the lowest one bit of s
--   from, to   2^(m+1) is the highest one bit of row b before the move up
--   below      row b has no exponent above c after it
pub record Facts (s x m c : ℕ) : Type 0 where
  pub even : 2 ^ c ∣ s
  pub odd : 2 ^ suc c ∣ s → ⊥
  pub small : s ≤ 2 ^ m
  pub from : 2 ^ suc m ≤ 3 * s + x
  pub to : 3 * s + x < 2 ^ suc (suc m)
  pub below : x < 2 ^ suc c
  pub order : c ≤ m

pub facts : {k s x m c : ℕ} → Shape k s x m c → Facts s x m c
facts {k} {s} {x} {m} (one e h) =
    record {
      even = rw e (dvd_refl (2 ^ m));
      odd = λ (d : 2 ^ suc m ∣ s). omega (arith, le_of_dvd (omega (arith, pow_pos m)) d, pow-suc 2 m, pow_pos m);
      small = omega arith;
      from = omega (arith, pow-suc 2 m);
      to = omega (arith, pow-suc 2 m, pow-suc 2 (suc m));
      below = omega (arith, pow-suc 2 m);
      order = omega arith;
    }
facts {k} {s} {x} {m} {c} (two l e h g) =
    record {
      even = (dvd-add_iff_left (2 ^ c) (dvd_refl (2 ^ c))).1 (rw e (pow_dvd (omega arith)));
      odd = λ (d : 2 ^ suc c ∣ s).
          let z : 2 ^ suc c ∣ 2 ^ c = (dvd-add_iff_right (2 ^ suc c) d).1 (rw e (pow_dvd l)) in
          omega (arith, le_of_dvd (pow_pos c) z, pow-suc 2 c, pow_pos c);
      small = omega arith;
      from = omega (arith, pow-suc 2 m, pow-suc 2 c, pow_mono l);
      to = omega (arith, pow-suc 2 m, pow-suc 2 (suc m), pow-suc 2 c);
      below = g;
      order = omega arith;
    }

pub shape_pos : {k s x m c : ℕ} → Shape k s x m c → 0 < s
shape_pos {k} {s} {x} {m} (one e l) = omega (arith, pow_pos m)
shape_pos {k} {s} {x} {m} {c} (two a e l u) = omega (arith, pow_mono a, pow-suc 2 c, pow_pos c)

pub shape_kind : {k s x m c : ℕ} → Shape k s x m c → 0 < k
shape_kind (one e l) = omega arith
shape_kind (two a e l u) = omega arith

pub shape_two : {k s x m c : ℕ} → Shape k s x m c → k ≤ 2
shape_two (one e g) = omega arith
shape_two (two a e g u) = omega arith

-- ---- two layouts with a move between them

amount_move : (s x y : ℕ) (l : Rows) → amount ((3 * s + x) ∷ y ∷ l) ≡ amount (x ∷ (s + y) ∷ l)
unfolding amount
amount_move s x y l = omega arith

-- A move keeps the sum.
pub swap_amount : {k b : ℕ} {low high : Rows} → Swap k b low high → amount low ≡ amount high
swap_amount w =
    let low = (3 * w.s + w.x) ∷ w.y ∷ w.over in
    let high = w.x ∷ (w.s + w.y) ∷ w.over in
    ap amount w.is_low ∙ amount_append w.under low high (amount_move w.s w.x w.y w.over)
    ∙ sym (ap amount w.is_high)

pub swap_length : {k b : ℕ} {low high : Rows} → Swap k b low high → length low ≡ length high
swap_length w =
    omega (
      arith,
      ap length w.is_low,
      ap length w.is_high,
      length-append w.under ((3 * w.s + w.x) ∷ w.y ∷ w.over),
      length-append w.under (w.x ∷ (w.s + w.y) ∷ w.over),
    )

-- A move is within the rows.
pub swap_within : {k b : ℕ} {low high : Rows} → Swap k b low high → (suc b < length low) × (suc b < length high)
swap_within {k} {b} {low} {high} w = (
  omega (arith, ap length w.is_low, length-append w.under ((3 * w.s + w.x) ∷ w.y ∷ w.over), w.row),
  omega (arith, ap length w.is_high, length-append w.under (w.x ∷ (w.s + w.y) ∷ w.over), w.row),
)

-- ---- the chain condition

-- Rows l' may take the place of l above u, where they keep every bound up to c.
laid_swap :
    (c : ℕ) (u l l' : Rows)
    → Under c u
    → Laid (u ++ l)
    → Laid l'
    → ((e : ℕ) → e ≤ c → Over e l → Over e l')
    → Laid (u ++ l')
laid_swap c [] l l' p h h' f = h'
laid_swap c (w ∷ u) l l' p h h' f = (go (dec_lt c e), laid_swap c u l l' p.1 h.1 h' f)
  where
    e : ℕ
    e = h.0.0

    o : Over e u × Over e l
    o = over_append e u l h.0.2

    go : Dec (c < e) → (e : ℕ) × (w < 2 ^ suc e) × Over e (u ++ l')
    go (yes g) =
        (c, p.0, over_join c u l' (over_less u (omega arith) o.0) (f c (omega arith) (over_less l (omega arith) o.1)))
    go (no g) = (e, h.0.1, over_join e u l' o.0 (f e (omega arith) o.1))

-- `lower` and `higher` are the rows from b on, before and after a move up.
module _ (s x m c : ℕ) (k : Facts s x m c) (y : ℕ) (l : Rows) where
  abbrev lower : Rows
  lower = (3 * s + x) ∷ y ∷ l

  abbrev higher : Rows
  higher = x ∷ (s + y) ∷ l

  -- Before a move up, the parts above are all past 2^m.
  clear_above : Laid lower → Over (suc m) (y ∷ l)
  clear_above h =
      let e : ℕ = h.0.0 in
      let g : suc m < suc e = exp_lt (suc m) (suc e) (omega (arith, h.0.1, k.from)) in
      over_less (y ∷ l) (omega arith) h.0.2

  -- A bound of the exponents from below holds before and after.
  s_dvd : (e : ℕ) → e ≤ c → 2 ^ e ∣ s
  s_dvd e h = dvd_trans (2 ^ e) (pow_dvd h) k.even

  over_up : (e : ℕ) → e ≤ c → Over e lower → Over e higher
  over_up e h o = (
    (dvd-add_iff_right (2 ^ e) (dvd-mul_left_of_dvd (2 ^ e) (s_dvd e h) 3)).1 o.0,
    (dvd-add (2 ^ e) (s_dvd e h) o.1.0, o.1.1),
  )

  over_down : (e : ℕ) → e ≤ c → Over e higher → Over e lower
  over_down e h o = (
    dvd-add (2 ^ e) (dvd-mul_left_of_dvd (2 ^ e) (s_dvd e h) 3) o.0,
    ((dvd-add_iff_right (2 ^ e) (s_dvd e h)).1 o.1.0, o.1.1),
  )

  -- The row b + 1 stays below what its exponent was, or holds s alone.
  row_above : Laid (y ∷ l) → Over (suc m) (y ∷ l) → (e : ℕ) × (s + y < 2 ^ suc e) × Over e l
  row_above h o = go (dec_lt m h.0.0)
    where
      e : ℕ
      e = h.0.0

      go : Dec (m < e) → (e : ℕ) × (s + y < 2 ^ suc e) × Over e l
      go (yes g) =
          let d : 2 ^ suc m ∣ 2 ^ suc e - y = dvd-sub (2 ^ suc m) (pow_dvd (omega arith)) o.0 in
          let r : 2 ^ suc m ≤ 2 ^ suc e - y = le_of_dvd (omega (arith, h.0.1)) d in
          (e, omega (arith, k.small, pow-suc 2 m, pow_pos m), h.0.2)
      go (no g) =
          let t = pow_mono {i = suc e} {j = suc m} (omega arith) in
          let z : ¬ (0 < y) = λ (p : 0 < y). omega (arith, le_of_dvd p o.0, h.0.1) in
          (m, omega (arith, k.small, pow-suc 2 m, pow_pos m), over_less l (omega arith) o.1)

  laid_higher : Laid lower → Laid higher
  laid_higher h =
      let o = clear_above h in
      let p : Over c (y ∷ l) = over_less (y ∷ l) (omega (arith, k.order)) o in (
        (c, k.below, (dvd-add (2 ^ c) k.even p.0, p.1)),
        (row_above h.1 o, h.1.1),
      )

  laid_lower : Laid higher → Over (suc m) (y ∷ l) → Laid lower
  laid_lower h o = ((suc m, k.to, o), ((h.1.0.0, omega (arith, h.1.0.1), h.1.0.2), h.1.1))

  -- Where a move down is allowed, no exponent below is past c.
  low_exponent : Over (suc m) (y ∷ l) → (e : ℕ) → Over e higher → e ≤ c
  low_exponent o e p =
      let z : ¬ (c < e) = λ (g : c < e).
      k.odd ((dvd-add_iff_left (2 ^ suc c) (over_less (y ∷ l) (omega (arith, k.order)) o).0).1
      (over_less higher g p).1.0) in
      omega arith

  -- So the rows below leave room for the move up that undoes it.
  under_clear : (u : Rows) → Laid (u ++ higher) → Over (suc m) (y ∷ l) → Under c u
  under_clear [] h o = tt
  under_clear (w ∷ u) h o =
      let e : ℕ = h.0.0 in
      let g = low_exponent o e (over_append e u higher h.0.2).1 in
      (omega (arith, h.0.1, pow_mono {i = suc e} {j = suc c} (omega arith)), under_clear u h.1 o)

  -- A move up keeps the chain condition, where no lower row has an exponent above c.
  up_laid : (u : Rows) → Under c u → Laid (u ++ lower) → Laid (u ++ higher)
  up_laid u p h = laid_swap c u lower higher p h (laid_higher (laid_tail u lower h)) over_up

  -- A move down keeps it, where no higher row has an exponent of m or below.
  pub down_laid : (u : Rows) → Over (suc m) (y ∷ l) → Laid (u ++ higher) → Laid (u ++ lower)
  down_laid u o h = laid_swap c u higher lower (under_clear u h o) h (laid_lower (laid_tail u higher h) o) over_down

-- The first kind asks nothing of the rows below: they cannot pass 2^m.
under_one : (m x : ℕ) → x < 2 ^ m → (y : ℕ) (l u : Rows) → Laid (u ++ ((3 * 2 ^ m + x) ∷ y ∷ l)) → Under m u
under_one m x h y l [] k = tt
under_one m x h y l (w ∷ u) k =
    let e : ℕ = k.0.0 in
    let d : 2 ^ e ∣ 3 * 2 ^ m + x = (over_append e u ((3 * 2 ^ m + x) ∷ y ∷ l) k.0.2).1.0 in
    let z : ¬ (m < e) = λ (g : m < e).
    let d' : 2 ^ suc m ∣ 3 * 2 ^ m + x = (over_less ((3 * 2 ^ m + x) ∷ []) g (d, tt)).0 in
    let f : 3 * 2 ^ m + x ≡ 2 ^ suc m + (2 ^ m + x) = omega (arith, pow-suc 2 m) in
    let d'' : 2 ^ suc m ∣ 2 ^ m + x = (dvd-add_iff_right (2 ^ suc m) (dvd_refl (2 ^ suc m))).1 (rw f at d') in
    omega (arith, le_of_dvd (omega (arith, pow_pos m)) d'', pow-suc 2 m) in
    (omega (arith, k.0.1, pow_mono {i = suc e} {j = suc m} (omega arith)), under_one m x h y l u k.1)

-- So no row below has an exponent above c, for both kinds.
pub under_shape :
    {k s x m c : ℕ} (y : ℕ) (l u : Rows)
    → Shape k s x m c
    → Laid (u ++ ((3 * s + x) ∷ y ∷ l))
    → (k ≡ 2 → Under c u)
    → Under c u
under_shape {k} {s} {x} {m} y l u (one e p) h f = under_one m x p y l u (rw e at h)
under_shape y l u (two a e p q) h f = f refl

-- ---- the theorems of record

-- A move up on a chain gives a chain, and the move down at the same row undoes it.
pub up_keeps : {k b : ℕ} {low high : Rows} → Laid low → UpRows k b low high → Laid high × DownRows k b high low
up_keeps {k} {b} {low} {high} h r =
    let w = r.swap in
    let h' : Laid (w.under ++ ((3 * w.s + w.x) ∷ w.y ∷ w.over)) = rw w.is_low at h in
    let f = facts w.shape in
    let u = under_shape w.y w.over w.under w.shape h' r.free in (
      rw w.is_high (up_laid w.s w.x w.m w.c f w.y w.over w.under u h'),
      record { swap = w; clear = clear_above w.s w.x w.m w.c f w.y w.over (laid_tail w.under _ h') },
    )

-- A move down on a chain gives a chain, and the move up at the same row undoes it.
pub down_keeps : {k b : ℕ} {low high : Rows} → Laid high → DownRows k b high low → Laid low × UpRows k b low high
down_keeps {k} {b} {low} {high} h r =
    let w = r.swap in
    let h' : Laid (w.under ++ (w.x ∷ (w.s + w.y) ∷ w.over)) = rw w.is_high at h in
    let f = facts w.shape in (
      rw w.is_low (down_laid w.s w.x w.m w.c f w.y w.over w.under r.clear h'),
      record { swap = w; free = λ _. under_clear w.s w.x w.m w.c f w.y w.over w.under h' r.clear },
    )
