-- Laws that the code on rows asks for, in this order:
--   kinds           the numbers of the two kinds
--   powers of two   the numbers that rows are divided by are powers of two, and the remainder by one is a mask
--   tests           what a test of each number of some rows says
--   changes         the two writes of a move make `raised` and `lowered`
--   up              what `rise` told decides the move up
--   down            what the code may ask once `fall` told a move; what this decides is in PlanLaws of moves
--   plans           the same, of a kind by its name and of the plan that the code tells
--   emptying a row  that `fall` tells a move until the upper row is empty
use Rattle.std.specs.Prelude.{◌≡◌, ◌↔◌, IsTrue, Bool, true, false, cond, ltb, refl, List, Some, None, ℕ, suc, ◌+◌, ◌-◌, ◌*◌, ◌%◌, ◌/◌, ◌^◌, ◌<◌, ◌≤◌, get_or, length, set, take, drop}
use Rattle.std.proofs.Common.{sym, ◌∙◌, add-one, arith, eq-eqb, ne_eqb, pow_pos, get_or-set_other, get_or-take, get_or-drop, length-take-le, length-drop}
use Rattle.std.proofs.Math.Path.{ap, ap₂}
use Rattle.std.proofs.Math.Decide.{dec_lt, ℕ_discrete}
use Rattle.std.proofs.lemmas.Bool.{false≢true}
use Rattle.std.specs.Bool.{MatchBool}
use Rattle.std.specs.List.{HoldsAt, AllWithin}
use Rattle.std.specs.Int.Bits.{bit_and}
use Rattle.std.proofs.lemmas.Nat.{and_mask}
use Rattle.moves.specs.Rows.{Rows, Held}
use Rattle.moves.proofs.Phases.{next_at}
use Rattle.moves.specs.Amounts.{Tells, low_bit, rise_kind, rise_by, fall_kind_at, fall_kind, fall_by}
use Rattle.moves.proofs.AmountLaws.{fall_complete, fall_none}
use Rattle.moves.proofs.BitLaws.{low_exists}
use Rattle.moves.specs.Changes.{raised, lowered, Free, Clear, past_of}
use Rattle.moves.proofs.ChangeLaws.{past_is, fits_rows}
use Rattle.moves.proofs.RowLaws.{row_amount}
use Rattle.moves.specs.Plans.{PlannedUp}
use Rattle.moves.proofs.PlanLaws.{up_none, up_other, up_blocked, up_planned, rise_bounds, down_none, fell_other, fell_blocked, fell, fell_bounds}
use Rattle.moves.proofs.WalkLoops.{Emptying, emptying_fall}
use Rattle.bench.specs.declared.amounts.Kind.{Kind}
use Rattle.bench.specs.declared.amounts.Kind.TheVariants.{First, Second}
use Rattle.bench.specs.Planning.{kind_number, UpPlan, DownPlan}

-- ---- kinds

pub kind_pos : (kind : Kind) → 0 < kind_number kind
unfolding kind_number
kind_pos First = omega arith
kind_pos Second = omega arith

pub kind_some : (kind : Kind) → kind_number kind ≡ 0 → ⊥
kind_some kind e = omega (arith, kind_pos kind)

pub kind_one : (kind : Kind) → kind ≡ First → kind_number kind ≡ 1
unfolding kind_number
kind_one kind e = rw e

pub kind_two : (kind : Kind) → kind ≡ Second → kind_number kind ≡ 2
unfolding kind_number
kind_two kind e = rw e

-- Each kind has a number of its own.
pub kind_by : (k l : Kind) → kind_number k ≡ kind_number l → k ≡ l
unfolding kind_number
kind_by First First e = refl
kind_by First Second e = absurd (omega arith)
kind_by Second First e = absurd (omega arith)
kind_by Second Second e = refl

-- ---- powers of two

abbrev pub Power : ℕ → Type 0
Power t = (e : ℕ) × (t ≡ 2 ^ e)

pub power_pos : {t : ℕ} → Power t → 0 < t
power_pos p = omega (arith, p.1, pow_pos p.0)

-- The remainder by a power of two is what the bits below it say.
pub mask : {t : ℕ} (y : ℕ) → Power t → bit_and y (t - 1) ≡ y % t
mask y p = rw p.1 (and_mask y p.0)

-- ---- tests

-- Whether a test of each number of xs says that P holds of all. Q says what the test found where it failed.
tested : (P Q : ℕ → Type 0) (r : Bool) (xs : List ℕ)
    → ((x : ℕ) → P x → Q x → ⊥)
    → MatchBool r (AllWithin P xs 0 (length xs)) ((k : ℕ) × (k < length xs) × HoldsAt Q xs k)
    → IsTrue r ↔ ((k : ℕ) → k < length xs → P (get_or xs k 0))
tested P Q true xs apart h = (λ e k l. h k 0 (omega arith) l, λ f. refl)
tested P Q false xs apart h = (λ e. absurd (false≢true e), λ f. absurd (apart (get_or xs h.0 0) (f h.0 h.1) (h.2 0)))

module _ (R : List ℕ) (b : ℕ) (l : b ≤ length R) (r : Bool) where
  pub free_tested : (g : ℕ)
      → MatchBool r (AllWithin (λ x. x / 2 < g) (take b R) 0 (length (take b R)))
      ((k : ℕ) × (k < length (take b R)) × HoldsAt (λ x. g ≤ x / 2) (take b R) k)
      → IsTrue r ↔ Free b g R
  unfolding Free
  free_tested g h =
      let t = tested (λ x. x / 2 < g) (λ x. g ≤ x / 2) r (take b R) (λ x p q. omega arith) h in
      let n = length-take-le b R l in (
        λ e k d. rw (get_or-take b R k 0 d) at (t.0 e k (omega (arith, n))),
        λ f. t.1 (λ k d. let c : k < b = omega (arith, n) in rw (get_or-take b R k 0 c) (f k c)),
      )

  pub clear_tested : (p : ℕ) → Power p
      → MatchBool r (AllWithin (λ x. bit_and x (p - 1) ≡ 0) (drop b R) 0 (length (drop b R)))
      ((k : ℕ) × (k < length (drop b R)) × HoldsAt (λ x. bit_and x (p - 1) ≡ 0 → ⊥) (drop b R) k)
      → IsTrue r ↔ Clear b p R
  unfolding Clear
  clear_tested p w h =
      let t = tested (λ x. bit_and x (p - 1) ≡ 0) (λ x. bit_and x (p - 1) ≡ 0 → ⊥) r (drop b R) (λ x y z. z y) h in
      let n = length-drop b R in (
        λ e k c d.
            let q : b + (k - b) ≡ k = omega arith in
            let z : bit_and (get_or R k 0) (p - 1) ≡ 0 = rw (get_or-drop b R (k - b) 0, q) at (t.0 e (k - b) (omega (arith, n))) in
            sym (mask (get_or R k 0) w) ∙ z,
        λ f. t.1 (λ k d. rw (get_or-drop b R k 0) (mask (get_or R (b + k) 0) w ∙ f (b + k) (omega arith) (omega (arith, n)))),
      )

-- ---- changes

pub raised_writes :
    (b s : ℕ) (R : Rows) → set (set R b (get_or R b 0 - 3 * s)) (b + 1) (get_or R (b + 1) 0 + s) ≡ raised b s R
unfolding raised
raised_writes b s R = rw (add-one b)

pub lowered_writes :
    (b s : ℕ) (R : Rows) → set (set R b (get_or R b 0 + 3 * s)) (b + 1) (get_or R (b + 1) 0 - s) ≡ lowered b s R
unfolding lowered
lowered_writes b s R = rw (add-one b)

-- The code writes row b + 1 from the rows with row b written, which are there as they were.
pub raised_over :
    (b s : ℕ) (R : Rows)
    → set (set R b (get_or R b 0 - 3 * s)) (b + 1) (get_or (set R b (get_or R b 0 - 3 * s)) (b + 1) 0 + s) ≡ raised b s R
raised_over b s R = rw (get_or-set_other R b (b + 1) (get_or R b 0 - 3 * s) 0 (λ e. omega arith)) (raised_writes b s R)

pub lowered_over :
    (b s : ℕ) (R : Rows)
    → set (set R b (get_or R b 0 + 3 * s)) (b + 1) (get_or (set R b (get_or R b 0 + 3 * s)) (b + 1) 0 - s) ≡ lowered b s R
lowered_over b s R = rw (get_or-set_other R b (b + 1) (get_or R b 0 + 3 * s) 0 (λ e. omega arith)) (lowered_writes b s R)

-- ---- up: k and s as `rise` told them

module _ (b : ℕ) (R : Rows) (h : Held R) (l : b < 40) (k s : ℕ) (t : Tells k s (rise_kind (get_or R b 0)) (rise_by (get_or R b 0))) where
  some : (k ≡ 0 → ⊥) → 0 < rise_kind (get_or R b 0)
  some z = omega (arith, t.kinds)

  pub rose_none : (kind : ℕ) → k ≡ 0 → PlannedUp kind b R 0
  rose_none kind e = up_none b R h l kind (sym t.kinds ∙ e)

  pub rose_other : (kind : ℕ) → (k ≡ kind → ⊥) → PlannedUp kind b R 0
  rose_other kind e = up_other b R h l kind (λ q. e (t.kinds ∙ q))

  pub rose_pos : (k ≡ 0 → ⊥) → 0 < s
  rose_pos z = omega (arith, t.amounts (some z), rise_bounds b R h l (some z))

  pub rose_blocked : (kind g : ℕ) → (k ≡ 0 → ⊥) → g ≡ low_bit s → (Free b g R → ⊥) → PlannedUp kind b R 0
  rose_blocked kind g z e f =
      up_blocked b R h l kind (λ (q : Free b (low_bit (rise_by (get_or R b 0))) R). f (rw (e, t.amounts (some z)) q))

  pub rose : (kind g : ℕ) → (k ≡ 0 → ⊥) → k ≡ kind → g ≡ low_bit s → Free b g R → PlannedUp kind b R s
  rose kind g z e q f =
      let a = t.amounts (some z) in
      rw a (up_planned b R h l kind (sym t.kinds ∙ e) (omega arith) (rw (q, a) at f))

-- ---- down: k and s as `fall` told them

module _ (b : ℕ) (R : Rows) (h : Held R) (l : b < 40) where
  abbrev x : ℕ
  x = get_or R b 0

  abbrev y : ℕ
  y = get_or R (suc b) 0

  long : suc b < length R
  long = omega (arith, h.rows)

  below : x + 3 * y < 2 ^ 64
  below = omega (arith, row_amount b R long, h.fits)

  pub above_fits : 2 * get_or R (b + 1) 0 < 2 ^ 64
  above_fits = rw (add-one b) (omega (arith, below))

  fall_power : 0 < fall_kind x y → Power (past_of (fall_kind x y) (fall_by x y))
  unfolding fall_kind
  fall_power p = go (dec_lt 0 y)
    where
      go : Dec (0 < y) → Power (past_of (fall_kind x y) (fall_by x y))
      go (yes g) =
          let t = low_exists y g (omega (arith, below)) in
          let r = next_at x y t.0 t.1 (fits_rows b R long h.fits h.laid) in
          let q = fall_complete r.y' r.shape r.left (omega (arith, r.is, below)) in
          let q₁ : fall_kind x y ≡ r.k = ap (λ (i : ℕ). fall_kind x i) r.is ∙ q.0 in
          let q₂ : fall_by x y ≡ r.s = ap (λ (i : ℕ). fall_by x i) r.is ∙ q.1 in
          let v = past_is b R long h.fits r.shape (omega (arith, r.is, below)) in
          (suc r.m, ap₂ (λ (i j : ℕ). past_of i j) q₁ q₂ ∙ v)
      go (no g) = let z : fall_kind x y ≡ 0 = rw (eq-eqb y 0 (omega arith)) in absurd (omega arith)

  module _ (k s : ℕ) (t : Tells k s (fall_kind x (get_or R (b + 1) 0)) (fall_by x (get_or R (b + 1) 0))) (z : k ≡ 0 → ⊥) where
    -- What `past` asks.
    pub past_asked : (kind : ℕ) → k ≡ kind → (past_of kind s < 2 ^ 64) × (0 < s) × ((0 < kind) × (kind ≤ 2))
    past_asked kind e =
        let r = fell_bounds b R h l k s t z in
        (rw e at r.past_fits, r.pos, (omega (arith, r.kinds), omega (arith, r.kinds)))

    -- What `past` makes is a power of two.
    pub past_power : (kind p : ℕ) → k ≡ kind → p ≡ past_of kind s → Power p
    past_power kind p e q =
        let w : Tells k s (fall_kind x y) (fall_by x y) = rw (add-one b) at t in
        let g : 0 < fall_kind x y = omega (arith, w.kinds) in
        let i : kind ≡ fall_kind x y = sym e ∙ w.kinds in
        rw (q, i, w.amounts g) (fall_power g)

-- ---- plans

-- Where no move up is allowed at row b, or one as `rise` told it.
pub none_rose : (b : ℕ) (R : Rows) → Held R → b < 40 → (k : ℕ) → rise_kind (get_or R b 0) ≡ 0 → UpPlan k b R None
none_rose b R h l k e = (up_none b R h l k e).none refl

module _ (b : ℕ) (R : Rows) (h : Held R) (l : b < 40) (kind : Kind) (s : ℕ)
    (t : Tells (kind_number kind) s (rise_kind (get_or R b 0)) (rise_by (get_or R b 0))) (k : ℕ) where
  pub other_rose : (kind_number kind ≡ k → ⊥) → UpPlan k b R None
  other_rose e = (rose_other b R h l (kind_number kind) s t k e).none refl

  pub blocked_rose : (g : ℕ) → g ≡ low_bit s → (Free b g R → ⊥) → UpPlan k b R None
  blocked_rose g e f = (rose_blocked b R h l (kind_number kind) s t k g (kind_some kind) e f).none refl

  pub planned_rose : (g : ℕ) → kind_number kind ≡ k → g ≡ low_bit s → Free b g R → UpPlan k b R (Some s)
  planned_rose g e q f =
      (rose b R h l (kind_number kind) s t k g (kind_some kind) e q f).some (rose_pos b R h l (kind_number kind) s t (kind_some kind))

-- The same of a move down and `fall`.
pub none_fell : (b : ℕ) (R : Rows) → Held R → b < 40 → (k : ℕ) → fall_kind (get_or R b 0) (get_or R (b + 1) 0) ≡ 0 → DownPlan k b R None
none_fell b R h l k e = (down_none b R h l k (rw (add-one b) at e)).none refl

module _ (b : ℕ) (R : Rows) (h : Held R) (l : b < 40) (kind : Kind) (s : ℕ)
    (t : Tells (kind_number kind) s (fall_kind (get_or R b 0) (get_or R (b + 1) 0)) (fall_by (get_or R b 0) (get_or R (b + 1) 0)))
    (k : ℕ) where
  pub other_fell : (kind_number kind ≡ k → ⊥) → DownPlan k b R None
  other_fell e = (fell_other b R h l (kind_number kind) s t k e).none refl

  pub blocked_fell : (p : ℕ) → kind_number kind ≡ k → p ≡ past_of k s → (Clear (b + 2) p R → ⊥) → DownPlan k b R None
  blocked_fell p e q f = (fell_blocked b R h l (kind_number kind) s t k p (kind_some kind) e q f).none refl

  pub planned_fell : (p : ℕ) → kind_number kind ≡ k → p ≡ past_of k s → Clear (b + 2) p R → DownPlan k b R (Some s)
  planned_fell p e q f =
      (fell b R h l (kind_number kind) s t k p (kind_some kind) e q f).some
      (past_asked b R h l (kind_number kind) s t (kind_some kind) k e).1

-- ---- emptying a row

-- Where `fall` tells no move, the upper row is empty.
pub emptied : (x y : ℕ) → fall_kind x y ≡ 0 → y ≡ 0
unfolding fall_kind fall_kind_at
emptied x y e = go (ℕ_discrete y 0)
  where
    go : Dec (y ≡ 0) → y ≡ 0
    go (yes z) = z
    go (no z) = absurd (neither (ltb x (low_bit y)) (rw (ne_eqb y 0 z) at e))
      where
        neither : (b : Bool) → ◌≡◌ {A = ℕ} (cond b 1 2) 0 → ⊥
        neither true q = omega arith
        neither false q = omega arith

nothing_falls : (x y : ℕ) → y ≡ 0 → fall_kind x y ≡ 0
nothing_falls x y z = rw z (sym (fall_none x).kinds)

-- The loop goes on with a move that `fall` told.
pub emptying_on :
    {x y low up moves s : ℕ} (kind : Kind)
    → Emptying x y low up moves
    → x + 3 * y < 2 ^ 64
    → Tells (kind_number kind) s (fall_kind low up) (fall_by low up)
    → (0 < s) × (s ≤ up) × Emptying x y (low + 3 * s) (up - s) (moves + 1)
emptying_on {x} {y} {low} {up} {moves} {s} kind h f t = emptying_fall x y low up moves (kind_number kind) s h f some t
  where
    some : up ≡ 0 → ⊥
    some z = let e : fall_kind low up ≡ 0 = nothing_falls low up z in omega (arith, t.kinds, kind_pos kind)
