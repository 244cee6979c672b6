-- Whether a chain of n has a move can be decided: the answer is the chain that the move leads to, or that there is none. The code of
-- the bench decides it too; its contract names this answer, and not the way to it.
-- In this order: tests of every row; the moves of rows; the moves of a chain; whether rows are those of a chain.
use Rattle.std.specs.Prelude.{◌≡◌, refl, Bool, true, false, List, ℕ, zero, suc, ◌%◌, ◌/◌, ◌^◌, ◌≤◌, ◌<◌, length, get_or}
use Rattle.std.proofs.Common.{sym, ◌∙◌, true≢false, arith}
use Rattle.std.proofs.Math.Decide.{dec_lt, dec_le, ℕ_discrete}
use Rattle.chains.specs.Chains.{Part, ChainOf}
use Rattle.moves.specs.Moves.{Move}
use Rattle.moves.specs.Rows.{Rows, amount, Held, rows_of, Laying}
use Rattle.moves.proofs.TestLaws.{laid_test, small_all, laid_from, Small}
use Rattle.moves.proofs.RowsOf.{row_least}
use Rattle.moves.specs.RowMoves.{UpRows, DownRows, RowMove}
use Rattle.moves.specs.Amounts.{rise_kind, rise_by, fall_kind, fall_by, low_bit}
use Rattle.moves.specs.Changes.{raised, lowered, Free, Clear, past_of}
use Rattle.moves.specs.Plans.{PlannedUp, PlannedDown}
use Rattle.moves.proofs.PlanLaws.{up_outside, up_other, up_none, up_blocked, up_planned, down_outside, down_other, down_none}
use Rattle.moves.proofs.PlanLaws.{down_blocked, down_planned}
use Rattle.moves.proofs.MoveLaws.{held_chain, chain_held, move_tie, move_keeps, move_for}
use Rattle.std.specs.Float.Ieee.Bits.{is_true}

-- ---- tests of every row

pub every_below : {P : ℕ → Type 0} → ((i : ℕ) → Dec (P i)) → (k : ℕ) → Dec ((i : ℕ) → i < k → P i)
every_below t zero = yes (λ i h. absurd (omega arith))
every_below {P} t (suc k) = go (every_below t k) (t k)
  where
    go : Dec ((i : ℕ) → i < k → P i) → Dec (P k) → Dec ((i : ℕ) → i < suc k → P i)
    go (no f) d = no (λ g. f (λ i h. g i (omega arith)))
    go (yes f) (no p) = no (λ g. p (g k (omega arith)))
    go (yes f) (yes p) = yes (λ i h. at i h (dec_lt i k))
      where
        at : (i : ℕ) → i < suc k → Dec (i < k) → P i
        at i h (yes l) = f i l
        at i h (no l) = let e : i ≡ k = omega arith in rw e p

pub isnt : {A : Type 0} → Dec A → Dec (A → ⊥)
isnt (yes a) = no (λ f. f a)
isnt (no a) = yes a

pub implies : {A B : Type 0} → Dec A → Dec B → Dec (A → B)
implies (no a) b = yes (λ x. absurd (a x))
implies (yes a) (yes b) = yes (λ x. b)
implies (yes a) (no b) = no (λ f. b (f a))

free? : (b g : ℕ) (R : Rows) → Dec (Free b g R)
unfolding Free
free? b g R = every_below {P = λ k. get_or R k 0 / 2 < g} (λ k. dec_lt (get_or R k 0 / 2) g) b

clear? : (b p : ℕ) (R : Rows) → Dec (Clear b p R)
unfolding Clear
clear? b p R = go (every_below {P = λ k. b ≤ k → get_or R k 0 % p ≡ 0} (λ k. implies (dec_le b k) (ℕ_discrete (get_or R k 0 % p) 0)) (length R))
  where
    go : Dec ((k : ℕ) → k < length R → b ≤ k → get_or R k 0 % p ≡ 0) → Dec ((k : ℕ) → b ≤ k → k < length R → get_or R k 0 % p ≡ 0)
    go (yes f) = yes (λ k l h. f k h l)
    go (no f) = no (λ g. f (λ k h l. g k l h))

-- ---- the moves of rows

-- The amount of the move up, 0 for none.
plan_up : (kind b : ℕ) (R : Rows) → Held R → (s : ℕ) × PlannedUp kind b R s
plan_up kind b R h = go (dec_lt b 40)
  where
    at :
        b < 40
        → Dec (rise_kind (get_or R b 0) ≡ kind)
        → Dec (0 < kind)
        → Dec (Free b (low_bit (rise_by (get_or R b 0))) R)
        → (s : ℕ) × PlannedUp kind b R s
    at l (no e) p f = (0, up_other b R h l kind e)
    at l (yes e) (no p) f = (0, up_none b R h l kind (omega arith))
    at l (yes e) (yes p) (no f) = (0, up_blocked b R h l kind f)
    at l (yes e) (yes p) (yes f) = (rise_by (get_or R b 0), up_planned b R h l kind e p f)

    go : Dec (b < 40) → (s : ℕ) × PlannedUp kind b R s
    go (no l) = (0, up_outside b R h (omega arith) kind)
    go (yes l) = at l (ℕ_discrete (rise_kind (get_or R b 0)) kind) (dec_lt 0 kind) (free? b (low_bit (rise_by (get_or R b 0))) R)

plan_down : (kind b : ℕ) (R : Rows) → Held R → (s : ℕ) × PlannedDown kind b R s
plan_down kind b R h = go (dec_lt b 40)
  where
    k : ℕ
    k = fall_kind (get_or R b 0) (get_or R (suc b) 0)

    by : ℕ
    by = fall_by (get_or R b 0) (get_or R (suc b) 0)

    at : b < 40 → Dec (k ≡ kind) → Dec (0 < kind) → Dec (Clear (suc (suc b)) (past_of kind by) R) → (s : ℕ) × PlannedDown kind b R s
    at l (no e) p f = (0, down_other b R h l kind e)
    at l (yes e) (no p) f = (0, down_none b R h l kind (omega arith))
    at l (yes e) (yes p) (no f) = (0, down_blocked b R h l kind f)
    at l (yes e) (yes p) (yes f) = (by, down_planned b R h l kind e p f)

    go : Dec (b < 40) → (s : ℕ) × PlannedDown kind b R s
    go (no l) = (0, down_outside b R h (omega arith) kind)
    go (yes l) = at l (ℕ_discrete k kind) (dec_lt 0 kind) (clear? (suc (suc b)) (past_of kind by) R)

row_movable : (kind b : ℕ) (up : Bool) (R : Rows) → Held R → Dec ((R' : Rows) × RowMove kind up b R R')
unfolding RowMove
row_movable kind b true R h = go (plan_up kind b R h)
  where
    go : (s : ℕ) × PlannedUp kind b R s → Dec ((R' : Rows) × UpRows kind b R R')
    go (zero, p) = no (λ r. p.none refl r.0 r.1)
    go (suc s, p) = yes (raised b (suc s) R, (p.some (omega arith)).1)
row_movable kind b false R h = go (plan_down kind b R h)
  where
    go : (s : ℕ) × PlannedDown kind b R s → Dec ((R' : Rows) × DownRows kind b R R')
    go (zero, p) = no (λ r. p.none refl r.0 r.1)
    go (suc s, p) = yes (lowered b (suc s) R, (p.some (omega arith)).1)

-- ---- the moves of a chain

-- The chain that a move leads to, or that there is none.
pub movable :
    (kind b : ℕ) (up : Bool) (n : ℕ) (c : List Part)
    → n < 2 ^ 64 → ChainOf n c
    → Dec ((d : List Part) × Move kind up b c d)
movable kind b up n c l h = go (row_movable kind b up (rows_of 41 c) (chain_held n c l h).0)
  where
    go : Dec ((R : Rows) × RowMove kind up b (rows_of 41 c) R) → Dec ((d : List Part) × Move kind up b c d)
    go (yes (R, w)) = let f = move_for n l kind b up c R h w in yes (f.after, f.move)
    go (no f) = no (λ r. f (rows_of 41 r.0, (move_tie n l kind b up c r.0 h (move_keeps n l kind b up c r.0 h r.1)).0 r.1))

-- ---- chains in rows

-- Whether rows are those of a chain of n.
pub laying? : (n : ℕ) (R : Rows) → n < 2 ^ 64 → Dec (Laying n R)
laying? n R l = go (ℕ_discrete (length R) 41) (ℕ_discrete (amount R) n)
  where
    held : Laying n R → Held R × (amount R ≡ n)
    held w = rw w.rows (chain_held n w.chain l w.of_n)

    small : amount R ≡ n → Small R
    small e = small_all R (λ i. omega (arith, row_least i R, e))

    at : length R ≡ 41 → amount R ≡ n → (t : Bool) → laid_from 1 R ≡ t → Dec (Laying n R)
    at k e true t =
        let h : Held R = record { rows = k; laid = (laid_test R (small e)).0 (rw t tt); fits = omega (arith, e) } in
        yes (rw e at (held_chain R h))
    at k e false t = no (λ w. true≢false (sym (is_true (laid_from 1 R) ((laid_test R (small e)).1 (held w).0.laid)) ∙ t))

    go : Dec (length R ≡ 41) → Dec (amount R ≡ n) → Dec (Laying n R)
    go (no k) d = no (λ w. k (held w).0.rows)
    go (yes k) (no e) = no (λ w. e (held w).1)
    go (yes k) (yes e) = at k e (laid_from 1 R) refl
