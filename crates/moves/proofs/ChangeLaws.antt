-- The code finds a move exactly where there is one (Changes, Amounts, RowMoves).
--
-- In this order: `past_of` for each kind; a move up at row b of the rows R; a move down. For each direction, what the code finds
-- is a move (`up_yes`, `down_yes`), and where there is a move, the code finds it (`up_found`, `down_found`).
use Rattle.std.specs.Prelude.{◌≡◌, ◌∷◌, ◌++◌, length, get_or, take, drop}
use Rattle.std.proofs.Math.Path.{sym, ap₂}
use Rattle.std.proofs.Common.{ap, ◌∙◌, ⊎_elim, arith, length-take-le, eq-eqb}
use Prim.Native.Nat.{ℕ, suc, ◌+◌, ◌-◌, ◌*◌, ◌/◌, ◌^◌, ◌<◌, ◌∣◌}
use Rattle.std.proofs.Math.Nat.{pow-suc, dvd_iff_mod-eq-zero}
use Rattle.std.proofs.Math.Decide.{dec_lt}
use Rattle.moves.specs.Rows.{Rows, amount, Over, Under, Laid}
use Rattle.moves.proofs.RowLaws.{laid_tail, split_at, set_at, cut, get_or_cut, all_map, all_take, take_all, all_drop, drop_all}
use Rattle.moves.proofs.RowLaws.{row_amount}
use Rattle.moves.specs.RowMoves.{Shape, one, two, UpRows, DownRows}
use Rattle.moves.proofs.RowMoveLaws.{facts, shape_pos, shape_kind, under_shape}
use Rattle.moves.specs.Amounts.{low_bit, rise_kind, rise_by, fall_kind, fall_by}
use Rattle.moves.proofs.BitLaws.{low_is}
use Rattle.moves.proofs.AmountLaws.{shape_low, rise_complete, Rise, rise_at, fall_complete}
use Rattle.moves.specs.Walks.{Fits}
use Rattle.moves.proofs.Phases.{fall_next}
use Rattle.moves.specs.Changes.{raised, lowered, Free, Clear, past_of}

pub past_one : (k s : ℕ) → k ≡ 1 → past_of k s ≡ 2 * s
unfolding past_of
past_one k s e = rw e (omega arith)

pub past_two : (k s : ℕ) → k ≡ 2 → past_of k s ≡ 2 * (s + low_bit s)
unfolding past_of
past_two k s e = rw e (omega arith)

module _ (b : ℕ) (R : Rows) (long : suc b < length R) (fits : amount R < 2 ^ 64) where
  -- X and Y are the rows b and b + 1.
  abbrev X : ℕ
  X = get_or R b 0

  abbrev Y : ℕ
  Y = get_or R (suc b) 0

  -- ---- the rows R

  below : X + 3 * Y < 2 ^ 64
  below = omega (arith, row_amount b R long)

  whole : R ≡ take b R ++ (X ∷ Y ∷ drop (suc (suc b)) R)
  whole = split_at b R long

  raised_is : (s : ℕ) → raised b s R ≡ take b R ++ ((X - 3 * s) ∷ (Y + s) ∷ drop (suc (suc b)) R)
  unfolding raised
  raised_is s = set_at b R (X - 3 * s) (Y + s) long

  lowered_is : (s : ℕ) → lowered b s R ≡ take b R ++ ((X + 3 * s) ∷ (Y - s) ∷ drop (suc (suc b)) R)
  unfolding lowered
  lowered_is s = set_at b R (X + 3 * s) (Y - s) long

  -- ---- up

  -- Where g is 2^c, the test of the rows below b says that no exponent is above c.
  free_under : (c g : ℕ) → g ≡ 2 ^ c → Free b g R → Under c (take b R)
  unfolding Free
  free_under c g e f =
      all_map {P = λ (x : ℕ). x / 2 < g} (take b R) (λ x h. omega (arith, pow-suc 2 c))
      (all_take (λ (x : ℕ). x / 2 < g) b R (omega arith) f)

  under_free : (c g : ℕ) → g ≡ 2 ^ c → Under c (take b R) → Free b g R
  unfolding Free
  under_free c g e u =
      take_all (λ (x : ℕ). x / 2 < g) b R (omega arith)
      (all_map {P = λ (x : ℕ). x < 2 ^ suc c} (take b R) (λ x h. omega (arith, pow-suc 2 c)) u)

  -- A move up is made from its numbers.
  up_make : (k s x m c : ℕ) → Shape k s x m c → X ≡ 3 * s + x → Under c (take b R) → UpRows k b R (raised b s R)
  up_make k s x m c w e u =
      let f : X - 3 * s ≡ x = omega arith in
      let g : Y + s ≡ s + Y = omega arith in
      record {
        swap = record {
          under = take b R;
          x = x;
          y = Y;
          over = drop (suc (suc b)) R;
          s = s;
          m = m;
          c = c;
          shape = w;
          row = length-take-le b R (omega (arith, long));
          is_low = whole ∙ ap (λ (i : ℕ). take b R ++ (i ∷ Y ∷ drop (suc (suc b)) R)) e;
          is_high = raised_is s ∙ ap₂ (λ (i j : ℕ). take b R ++ (i ∷ j ∷ drop (suc (suc b)) R)) f g;
        };
        free = λ _. u;
      }

  -- The lowest one bit of the amount is 2^c.
  low_of : {k s x m c : ℕ} → Shape k s x m c → s < 2 ^ 64 → low_bit s ≡ 2 ^ c
  low_of {k} {s} {x} {m} {c} w h = low_is c s (shape_low (facts w) (shape_pos w)) h

  -- Where the code finds a move up, there is one.
  pub up_yes : (k : ℕ) → rise_kind X ≡ k → 0 < k → Free b (low_bit (rise_by X)) R → UpRows k b R (raised b (rise_by X) R)
  up_yes k e p f = ⊎_elim (λ (z : rise_kind X ≡ 0). absurd (omega arith)) go (rise_at X (omega (arith, below)))
    where
      go : Rise X → UpRows k b R (raised b (rise_by X) R)
      go r =
          let q = rise_complete r.shape (omega (arith, r.is, below)) in
          let q₁ : k ≡ r.k = sym e ∙ ap rise_kind r.is ∙ q.0 in
          let q₂ : rise_by X ≡ r.s = ap rise_by r.is ∙ q.1 in
          let w : low_bit (rise_by X) ≡ 2 ^ r.c = ap low_bit q₂ ∙ low_of r.shape (omega (arith, r.is, below)) in
          rw (q₁, q₂) (up_make r.k r.s r.x r.m r.c r.shape r.is (free_under r.c (low_bit (rise_by X)) w f))

  -- What the code finds where there is a move up.
  pub record UpFound (k : ℕ) (high : Rows) : Type 0 where
    pub kinds : rise_kind X ≡ k
    pub some : 0 < k
    pub frees : Free b (low_bit (rise_by X)) R
    pub is : high ≡ raised b (rise_by X) R

  pub up_found : (k : ℕ) (high : Rows) → Laid R → UpRows k b R high → UpFound k high
  up_found k high h r =
      let w = r.swap in
      let g = get_or_cut w.under (3 * w.s + w.x) w.y w.over b w.row in
      let t = cut w.under ((3 * w.s + w.x) ∷ w.y ∷ w.over) b w.row in
      let x_is : X ≡ 3 * w.s + w.x = ap (λ (l : Rows). get_or l b 0) w.is_low ∙ g.0 in
      let y_is : Y ≡ w.y = ap (λ (l : Rows). get_or l (suc b) 0) w.is_low ∙ g.1 in
      let o_is : drop (suc (suc b)) R ≡ w.over = ap (λ (l : Rows). drop (suc (suc b)) l) w.is_low ∙ g.2 in
      let u_is : take b R ≡ w.under = ap (λ (l : Rows). take b l) w.is_low ∙ t.0 in
      let q = rise_complete w.shape (omega (arith, x_is, below)) in
      let s_is : rise_by X ≡ w.s = ap rise_by x_is ∙ q.1 in
      let v : low_bit (rise_by X) ≡ 2 ^ w.c = ap low_bit s_is ∙ low_of w.shape (omega (arith, x_is, below)) in
      let u = under_shape w.y w.over w.under w.shape (rw w.is_low at h) r.free in
      let a_is : X - 3 * rise_by X ≡ w.x = omega arith in
      let b_is : Y + rise_by X ≡ w.s + w.y = omega arith in
      record {
        kinds = ap rise_kind x_is ∙ q.0;
        some = shape_kind w.shape;
        frees = under_free w.c (low_bit (rise_by X)) v (rw u_is u);
        is = cc (a_is, b_is, u_is, o_is, raised_is (rise_by X), w.is_high);
      }

  -- ---- down

  -- Where p is 2^(m+1), the test of the rows above b + 1 says that every exponent is above m.
  clear_over : (m p : ℕ) → p ≡ 2 ^ suc m → Clear (suc (suc b)) p R → Over (suc m) (drop (suc (suc b)) R)
  unfolding Clear
  clear_over m p e f =
      all_drop (λ (x : ℕ). 2 ^ suc m ∣ x) (suc (suc b)) R (λ k l h. (dvd_iff_mod-eq-zero (2 ^ suc m)).1 (rw e at (f k l h)))

  over_clear : (m p : ℕ) → p ≡ 2 ^ suc m → Over (suc m) (drop (suc (suc b)) R) → Clear (suc (suc b)) p R
  unfolding Clear
  over_clear m p e o k l h =
      rw e ((dvd_iff_mod-eq-zero (2 ^ suc m)).0 (drop_all (λ (x : ℕ). 2 ^ suc m ∣ x) (suc (suc b)) R o k l h))

  -- `past_of` is 2^(m+1).
  pub past_is : {k s x m c : ℕ} → Shape k s x m c → s < 2 ^ 64 → past_of k s ≡ 2 ^ suc m
  unfolding past_of
  past_is {k} {s} {x} {m} (one e l) h = omega (arith, pow-suc 2 m)
  past_is {k} {s} {x} {m} {c} (two a e l u) h = omega (arith, pow-suc 2 m, low_of {k = 2} {s = s} {x = x} (two a e l u) h)

  -- A move down is made from its numbers.
  down_make :
      (k s m c y : ℕ)
      → Shape k s X m c → Y ≡ s + y → 2 ^ suc m ∣ y → Over (suc m) (drop (suc (suc b)) R) → DownRows k b R (lowered b s R)
  down_make k s m c y w e d o =
      let f : X + 3 * s ≡ 3 * s + X = omega arith in
      let g : Y - s ≡ y = omega arith in
      record {
        swap = record {
          under = take b R;
          x = X;
          y = y;
          over = drop (suc (suc b)) R;
          s = s;
          m = m;
          c = c;
          shape = w;
          row = length-take-le b R (omega (arith, long));
          is_low = lowered_is s ∙ ap₂ (λ (i j : ℕ). take b R ++ (i ∷ j ∷ drop (suc (suc b)) R)) f g;
          is_high = whole ∙ ap (λ (i : ℕ). take b R ++ (X ∷ i ∷ drop (suc (suc b)) R)) e;
        };
        clear = (d, o);
      }

  -- Rows b and b + 1 are two rows of a chain.
  pub fits_rows : Laid R → Fits X Y
  fits_rows h = let t = laid_tail (take b R) (X ∷ Y ∷ drop (suc (suc b)) R) (rw whole at h) in (t.0.0, t.0.1, t.0.2.0)

  -- Where the code finds a move down, there is one.
  pub down_yes :
      (k : ℕ)
      → Laid R
      → fall_kind X Y ≡ k
      → 0 < k
      → Clear (suc (suc b)) (past_of k (fall_by X Y)) R
      → DownRows k b R (lowered b (fall_by X Y) R)
  unfolding fall_kind
  down_yes k h e p f = go (dec_lt 0 Y)
    where
      go : Dec (0 < Y) → DownRows k b R (lowered b (fall_by X Y) R)
      go (yes l) =
          let n = fall_next X Y (fits_rows h) l (omega (arith, below)) in
          let r = n.1 in
          let q : k ≡ r.k = sym e ∙ n.2 in
          let v = ap₂ (λ (i j : ℕ). past_of i j) q n.3 ∙ past_is r.shape (omega (arith, r.is, below)) in
          let o = clear_over r.m (past_of k (fall_by X Y)) v f in
          rw (q, n.3) (down_make r.k r.s r.m r.c r.y' r.shape r.is r.left o)
      go (no l) = let z : fall_kind X Y ≡ 0 = rw (eq-eqb Y 0 (omega arith)) in absurd (omega arith)

  -- What the code finds where there is a move down.
  pub record DownFound (k : ℕ) (low : Rows) : Type 0 where
    pub kinds : fall_kind X Y ≡ k
    pub some : 0 < k
    pub clears : Clear (suc (suc b)) (past_of k (fall_by X Y)) R
    pub is : low ≡ lowered b (fall_by X Y) R

  pub down_found : (k : ℕ) (low : Rows) → DownRows k b R low → DownFound k low
  down_found k low r =
      let w = r.swap in
      let g = get_or_cut w.under w.x (w.s + w.y) w.over b w.row in
      let t = cut w.under (w.x ∷ (w.s + w.y) ∷ w.over) b w.row in
      let x_is : X ≡ w.x = ap (λ (l : Rows). get_or l b 0) w.is_high ∙ g.0 in
      let y_is : Y ≡ w.s + w.y = ap (λ (l : Rows). get_or l (suc b) 0) w.is_high ∙ g.1 in
      let o_is : drop (suc (suc b)) R ≡ w.over = ap (λ (l : Rows). drop (suc (suc b)) l) w.is_high ∙ g.2 in
      let u_is : take b R ≡ w.under = ap (λ (l : Rows). take b l) w.is_high ∙ t.0 in
      let q = fall_complete w.y w.shape r.clear.0 (omega (arith, y_is, below)) in
      let s_is : fall_by X Y ≡ w.s = ap₂ (λ (i j : ℕ). fall_by i j) x_is y_is ∙ q.1 in
      let a_is : X + 3 * fall_by X Y ≡ 3 * w.s + w.x = omega arith in
      let b_is : Y - fall_by X Y ≡ w.y = omega arith in
      let p_is = ap (λ (i : ℕ). past_of k i) s_is ∙ past_is w.shape (omega (arith, y_is, below)) in
      record {
        kinds = ap₂ (λ (i j : ℕ). fall_kind i j) x_is y_is ∙ q.0;
        some = shape_kind w.shape;
        clears = over_clear w.m (past_of k (fall_by X Y)) p_is (rw o_is r.clear.1);
        is = cc (a_is, b_is, u_is, o_is, lowered_is (fall_by X Y), w.is_low);
      }
