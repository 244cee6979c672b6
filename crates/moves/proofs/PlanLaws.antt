-- How the code finds out about a move (Plans).
--
-- In this order: a move up at row b of the rows R, case by case; a move down, case by case; a move down as the code meets it,
-- with the kind and the amount that `fall` told. What `rise` told is in RowLaws of bench.
use Rattle.std.specs.Prelude.{◌≡◌, ℕ, suc, ◌+◌, ◌*◌, ◌^◌, ◌≤◌, ◌<◌, length, get_or}
use Rattle.std.proofs.Common.{sym, ap, ◌∙◌, ⊎_elim, add-one, arith, eq-eqb}
use Rattle.std.proofs.Math.Decide.{dec_lt}
use Rattle.moves.specs.Rows.{Rows, Held}
use Rattle.moves.proofs.RowLaws.{row_amount}
use Rattle.moves.specs.RowMoves.{UpRows, DownRows}
use Rattle.moves.proofs.RowMoveLaws.{facts, shape_pos, shape_kind, shape_two, swap_within}
use Rattle.moves.specs.Amounts.{low_bit, rise_kind, rise_by, fall_kind, fall_by, Tells}
use Rattle.moves.proofs.AmountLaws.{rise_complete, Rise, rise_at}
use Rattle.moves.proofs.Phases.{fall_next}
use Rattle.moves.specs.Changes.{Free, Clear, past_of}
use Rattle.moves.proofs.ChangeLaws.{up_yes, UpFound, up_found, past_is, fits_rows, down_yes, DownFound, down_found}
use Rattle.moves.specs.Plans.{Raisable, Lowerable, PlannedUp, PlannedDown}

-- There is no move.
no_up : (k b : ℕ) (R : Rows) → ((c : Rows) → UpRows k b R c → ⊥) → PlannedUp k b R 0
no_up k b R f = record { some = λ p. absurd (omega arith); none = λ _. f }

no_down : (k b : ℕ) (R : Rows) → ((c : Rows) → DownRows k b R c → ⊥) → PlannedDown k b R 0
no_down k b R f = record { some = λ p. absurd (omega arith); none = λ _. f }

module _ (b : ℕ) (R : Rows) (h : Held R) where
  -- X and Y are the rows b and b + 1.
  abbrev X : ℕ
  X = get_or R b 0

  abbrev Y : ℕ
  Y = get_or R (suc b) 0

  -- No move is at a row past 39.
  pub up_outside : 40 ≤ b → (k : ℕ) → PlannedUp k b R 0
  up_outside l k = no_up k b R (λ c u. omega (arith, (swap_within u.swap).0, h.rows))

  pub down_outside : 40 ≤ b → (k : ℕ) → PlannedDown k b R 0
  down_outside l k = no_down k b R (λ c u. omega (arith, (swap_within u.swap).1, h.rows))

  module _ (l : b < 40) where
    long : suc b < length R
    long = omega (arith, h.rows)

    below : X + 3 * Y < 2 ^ 64
    below = omega (arith, row_amount b R long, h.fits)

    -- ---- up

    found_up : (k : ℕ) (c : Rows) → UpRows k b R c → UpFound b R long h.fits k c
    found_up k c u = up_found b R long h.fits k c h.laid u

    -- The row allows a move of another kind, or none, or the rows below are in the way.
    pub up_other : (k : ℕ) → (rise_kind X ≡ k → ⊥) → PlannedUp k b R 0
    up_other k e = no_up k b R (λ c u. e (found_up k c u).kinds)

    pub up_none : (k : ℕ) → rise_kind X ≡ 0 → PlannedUp k b R 0
    up_none k e = no_up k b R (λ c u. omega (arith, (found_up k c u).kinds, (found_up k c u).some))

    pub up_blocked : (k : ℕ) → (Free b (low_bit (rise_by X)) R → ⊥) → PlannedUp k b R 0
    up_blocked k e = no_up k b R (λ c u. e (found_up k c u).frees)

    -- The amount is not 0, and row b has three times as much.
    pub rise_bounds : 0 < rise_kind X → (0 < rise_by X) × (3 * rise_by X ≤ X)
    rise_bounds p =
        ⊎_elim (λ (z : rise_kind X ≡ 0). absurd (omega arith))
        (λ (r : Rise X).
        let q = rise_complete r.shape (omega (arith, r.is, below)) in
        let e : rise_by X ≡ r.s = ap rise_by r.is ∙ q.1 in
        (omega (arith, e, shape_pos r.shape), omega (arith, e, r.is)))
        (rise_at X (omega (arith, below)))

    -- There is a move.
    pub up_planned : (k : ℕ) → rise_kind X ≡ k → 0 < k → Free b (low_bit (rise_by X)) R → PlannedUp k b R (rise_by X)
    up_planned k e p f =
        let r = rise_bounds (omega arith) in
        let q : b + 1 ≡ suc b = omega arith in
        let t : Raisable b (rise_by X) R =
        record { row = l; less = r.1; thrice = omega (arith, r, below); more = rw q (omega (arith, r, below)) } in
        record { some = λ _. (t, up_yes b R long h.fits k e p f); none = λ z. absurd (omega (arith, r.0)) }

    -- ---- down

    found_down : (k : ℕ) (c : Rows) → DownRows k b R c → DownFound b R long h.fits k c
    found_down k c u = down_found b R long h.fits k c u

    -- The rows allow a move of another kind, or none, or the rows above are in the way.
    pub down_other : (k : ℕ) → (fall_kind X Y ≡ k → ⊥) → PlannedDown k b R 0
    down_other k e = no_down k b R (λ c u. e (found_down k c u).kinds)

    pub down_none : (k : ℕ) → fall_kind X Y ≡ 0 → PlannedDown k b R 0
    down_none k e = no_down k b R (λ c u. omega (arith, (found_down k c u).kinds, (found_down k c u).some))

    pub down_blocked : (k : ℕ) → (Clear (suc (suc b)) (past_of k (fall_by X Y)) R → ⊥) → PlannedDown k b R 0
    down_blocked k e = no_down k b R (λ c u. e (found_down k c u).clears)

    -- What holds of the amount of a move down.
    pub record FallBounds (k s : ℕ) : Type 0 where
      pub pos : 0 < s
      pub within : s ≤ get_or R (suc b) 0
      pub kinds : (0 < k) × (k ≤ 2)
      pub past_fits : past_of k s < 2 ^ 64

    fall_bounds : 0 < fall_kind X Y → FallBounds (fall_kind X Y) (fall_by X Y)
    unfolding fall_kind
    fall_bounds p = go (dec_lt 0 Y)
      where
        go : Dec (0 < Y) → FallBounds (fall_kind X Y) (fall_by X Y)
        go (yes g) =
            let n = fall_next X Y (fits_rows b R long h.fits h.laid) g (omega (arith, below)) in
            let r = n.1 in
            let v = past_is b R long h.fits r.shape (omega (arith, r.is, below)) in
            rw (n.2, n.3)
            (record {
              pos = shape_pos r.shape;
              within = omega (arith, r.is);
              kinds = (shape_kind r.shape, shape_two r.shape);
              past_fits = omega (arith, v, (facts r.shape).from, r.is, below);
            })
        go (no g) = let z : fall_kind X Y ≡ 0 = rw (eq-eqb Y 0 (omega arith)) in absurd (omega arith)

    -- There is a move.
    pub down_planned :
        (k : ℕ)
        → fall_kind X Y ≡ k
        → 0 < k
        → Clear (suc (suc b)) (past_of k (fall_by X Y)) R
        → PlannedDown k b R (fall_by X Y)
    down_planned k e p f =
        let r = fall_bounds (omega arith) in
        let q : b + 1 ≡ suc b = omega arith in
        let t : Lowerable b (fall_by X Y) R =
        record {
          row = l;
          less = rw q r.within;
          thrice = omega (arith, r.within, below);
          more = omega (arith, r.within, below);
        } in
        record { some = λ _. (t, down_yes b R long h.fits k h.laid e p f); none = λ z. absurd (omega (arith, r.pos)) }

-- ---- the kind k and the amount s as `fall` told them

module _ (b : ℕ) (R : Rows) (h : Held R) (l : b < 40) (k s : ℕ)
    (t : Tells k s (fall_kind (get_or R b 0) (get_or R (b + 1) 0)) (fall_by (get_or R b 0) (get_or R (b + 1) 0))) where
  told : Tells k s (fall_kind (get_or R b 0) (get_or R (suc b) 0)) (fall_by (get_or R b 0) (get_or R (suc b) 0))
  told = rw (add-one b) at t

  -- The cases of a move down follow; p is `past_of kind s`.
  pub fell_none : (kind : ℕ) → k ≡ 0 → PlannedDown kind b R 0
  fell_none kind e = down_none b R h l kind (sym told.kinds ∙ e)

  pub fell_other : (kind : ℕ) → (k ≡ kind → ⊥) → PlannedDown kind b R 0
  fell_other kind e = down_other b R h l kind (λ q. e (told.kinds ∙ q))

  pub fell_bounds : (k ≡ 0 → ⊥) → FallBounds b R h l k s
  fell_bounds e =
      let p : 0 < fall_kind (get_or R b 0) (get_or R (suc b) 0) = omega (arith, told.kinds) in
      rw (told.kinds, told.amounts p) (fall_bounds b R h l p)

  pub fell_blocked : (kind p : ℕ) → (k ≡ 0 → ⊥) → k ≡ kind → p ≡ past_of kind s → (Clear (b + 2) p R → ⊥) → PlannedDown kind b R 0
  fell_blocked kind p z e q f =
      let a = told.amounts (omega (arith, told.kinds)) in
      let w : b + 2 ≡ suc (suc b) = omega arith in
      down_blocked b R h l kind (λ g. f (rw (w, q, a) g))

  pub fell : (kind p : ℕ) → (k ≡ 0 → ⊥) → k ≡ kind → p ≡ past_of kind s → Clear (b + 2) p R → PlannedDown kind b R s
  fell kind p z e q f =
      let a = told.amounts (omega (arith, told.kinds)) in
      let w : b + 2 ≡ suc (suc b) = omega arith in
      rw a (down_planned b R h l kind (sym told.kinds ∙ e) (omega arith) (rw (w, q, a) at f))
