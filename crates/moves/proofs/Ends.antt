-- The walk on rows (Walks) exists, and has one end and one length.
--
-- In this order: the bound; there is a walk within the bound; it ends at the binary chain; there is only one; the theorem of
-- record: every walk of 41 rows is within the bound and has at most 1,280 moves. The same for chains is in WalkLaws.
use Rattle.std.specs.Prelude.{◌≡◌, refl, [], ◌∷◌, ◌++◌, ℕ, zero, suc, ◌+◌, ◌-◌, ◌*◌, ◌/◌, ◌^◌, ◌≤◌, ◌<◌, length, get_or, drop}
use Rattle.std.proofs.Common.{sym, ap, ap₂, ◌∙◌, append_assoc, pow-suc, arith, pow_mono}
use Rattle.std.specs.Int.{◌∣◌}
use Rattle.std.proofs.Math.Nat.{dvd-add, dvd-mul_left_of_dvd, dvd-zero, one-dvd}
use Rattle.std.proofs.Math.Decide.{dec_lt}
use Rattle.std.specs.Int.Count.{count_leading_zeros}
use Rattle.std.proofs.lemmas.Nat.{leading_length}
use Rattle.moves.specs.Rows.{Rows, amount, Over, Laid, Held, Zeros, zeros}
use Rattle.moves.proofs.RowLaws.{zeros_zeros, zeros_is, zeros_amount, get_or_cut, drop_all}
use Rattle.moves.specs.RowMoves.{DownRows}
use Rattle.moves.proofs.RowMoveLaws.{shape_pos, swap_amount, swap_length, swap_within}
use Rattle.moves.specs.Amounts.{fall_by}
use Rattle.moves.specs.Walks.{Fits, WalkRows, stop, step, digits, points}
use Rattle.moves.proofs.Phases.{phase, phase_walk}
use Rattle.moves.specs.Changes.{lowered}
use Rattle.moves.proofs.ChangeLaws.{down_found}

-- ---- the bound

digits_above : (n : ℕ) → n < 2 ^ 64 → n < 2 ^ digits n
unfolding digits
digits_above n h =
    let r = leading_length 64 n h in
    let q : 64 - count_leading_zeros 64 n ≡ r.0 = omega (arith, r.1) in
    rw q r.2

digits_mono : (a b : ℕ) → a ≤ b → b < 2 ^ 64 → digits a ≤ digits b
unfolding digits
digits_mono a b h l =
    let r = leading_length 64 a (omega arith) in
    let t = leading_length 64 b l in
    let z : ¬ (t.0 < r.0) = λ (g : t.0 < r.0). omega (arith, pow_mono g, pow-suc 2 t.0, r.3, t.2) in
    omega (arith, r.1, t.1)

points_mono : (k a b : ℕ) → a ≤ b → b < 2 ^ 64 → points k a ≤ points k b
unfolding points
points_mono zero a b h l = omega arith
points_mono (suc k) a b h l =
    let p = digits_mono (a / 3) (b / 3) (omega arith) (omega arith) in
    omega (arith, p, points_mono k (a / 3) (b / 3) (omega arith) (omega arith))

-- The number of points of 2^64 - 1 is computed here.
points_most : (n : ℕ) → n < 2 ^ 64 → points 40 n ≤ 1280
unfolding points digits count_leading_zeros
points_most n h = points_mono 40 n (2 ^ 64 - 1) (omega arith) (omega arith)

-- ---- there is a walk

-- What divides every row divides the sum.
over_amount : (e : ℕ) (l : Rows) → Over e l → 2 ^ e ∣ amount l
unfolding amount
over_amount e [] o = dvd-zero (2 ^ e)
over_amount e (x ∷ l) o = dvd-add (2 ^ e) o.0 (dvd-mul_left_of_dvd (2 ^ e) (over_amount e l o.1) 3)

-- The moves that bring the rows x ∷ l, above the rows u, into their first, before a walk of i moves from there.
gather :
    (u : Rows) (x : ℕ) (l : Rows) (i : ℕ) (d : Rows)
    → Laid (x ∷ l)
    → amount (x ∷ l) < 2 ^ 64
    → (j : ℕ) × (j ≤ points (length l) (amount (x ∷ l)))
    × (WalkRows (u ++ (amount (x ∷ l) ∷ zeros (length l))) i d → WalkRows (u ++ (x ∷ l)) (j + i) d)
unfolding amount points zeros
gather u x [] i d h b =
    let q : 0 + i ≡ i = omega arith in
    let p : x + 3 * 0 ≡ x = omega arith in
    (0, omega arith, λ w. rw q (rw p at w))
gather u x (y ∷ l) i d h b =
    let e = h.0.0 in
    let n = amount (y ∷ l) in
    let q : 0 + digits n ≡ digits n = omega arith in
    let f : Fits x n = (e, h.0.1, over_amount e (y ∷ l) h.0.2) in
    let p = phase (digits n) 0 x n f (one-dvd n) (rw q (digits_above n (omega arith))) in
    let r = gather (u ++ (x ∷ [])) y l (p.0 + i) d h.1 (omega arith) in
    let g : n ≤ (x + 3 * n) / 3 = omega arith in (
      r.0 + p.0,
      omega (
        arith,
        p.2,
        r.1,
        digits_mono n ((x + 3 * n) / 3) g (omega arith),
        points_mono (length l) n ((x + 3 * n) / 3) g (omega arith),
      ),
      λ (w : WalkRows (u ++ (amount (x ∷ y ∷ l) ∷ zeros (length (y ∷ l)))) i d).
          let f : x + 3 * n ≡ 3 * n + x = omega arith in
          let v = phase_walk i u (zeros (length l)) d (zeros_zeros (length l)) p.1 (rw f at w) in
          let q : r.0 + p.0 + i ≡ r.0 + (p.0 + i) = omega arith in
          rw q (rw append_assoc at (r.2 (rw append_assoc v))),
    )

-- There is a walk from the rows of every chain to those of the binary chain, with no more moves than there are points.
pub walk_exists :
    (x : ℕ) (l : Rows)
    → Laid (x ∷ l)
    → amount (x ∷ l) < 2 ^ 64
    → (j : ℕ) × (j ≤ points (length l) (amount (x ∷ l))) × WalkRows (x ∷ l) j (amount (x ∷ l) ∷ zeros (length l))
walk_exists x l h b =
    let r = gather [] x l 0 (amount (x ∷ l) ∷ zeros (length l)) h b in
    let q : r.0 + 0 ≡ r.0 = omega arith in
    (r.0, r.1, rw q at (r.2 (stop (zeros_zeros (length l)))))

-- ---- its end

-- The walk ends at the binary chain: all of the number is in row 0.
pub walk_end : {c d : Rows} {j : ℕ} → WalkRows c j d → d ≡ amount c ∷ zeros (length c - 1)
unfolding amount
walk_end (stop {n} {z} h) =
    let p : amount (n ∷ z) ≡ n = omega (arith, zeros_amount z h) in
    let q : suc (length z) - 1 ≡ length z = omega arith in
    rw (q, p) (ap (λ (l : Rows). n ∷ l) (zeros_is z h))
walk_end (step r h w) =
    walk_end w ∙ ap₂ (λ (i j : ℕ). i ∷ zeros (j - 1)) (swap_amount r.swap) (swap_length r.swap)

-- ---- one walk

-- Row b + 1 is the highest of R that has a part.
record Top (b : ℕ) (R : Rows) : Type 0 where
  some : 0 < get_or R (suc b) 0
  above : (i : ℕ) → suc b < i → i < length R → get_or R i 0 ≡ 0
  long : suc b < length R

-- A step of the walk is at this row.
top_of_lem : {k b : ℕ} {R low : Rows} (r : DownRows k b R low) → Zeros r.swap.over → Top b R
top_of_lem {k} {b} {R} {low} r h =
    let w = r.swap in
    let g = get_or_cut w.under w.x (w.s + w.y) w.over b w.row in
    let y_is : get_or R (suc b) 0 ≡ w.s + w.y = ap (λ (l : Rows). get_or l (suc b) 0) w.is_high ∙ g.1 in
    let o_is : drop (suc (suc b)) R ≡ w.over = ap (λ (l : Rows). drop (suc (suc b)) l) w.is_high ∙ g.2 in
    record {
      some = omega (arith, y_is, shape_pos w.shape);
      above = λ i p q. drop_all (λ (x : ℕ). x ≡ 0) (suc (suc b)) R (rw o_is h) i p q;
      long = (swap_within w).1;
    }

top_one : (b b' : ℕ) (R : Rows) → Top b R → Top b' R → b ≡ b'
top_one b b' R t t' = go (dec_lt b b') (dec_lt b' b)
  where
    go : Dec (b < b') → Dec (b' < b) → b ≡ b'
    go (yes h) d = absurd (omega (arith, t.above (suc b') (omega arith) t'.long, t'.some))
    go (no h) (yes k) = absurd (omega (arith, t'.above (suc b) (omega arith) t.long, t.some))
    go (no h) (no k) = omega arith

-- All parts are in row 0.
flat : (n : ℕ) (z : Rows) → Zeros z → (i : ℕ) → get_or (n ∷ z) (suc i) 0 ≡ 0
flat n [] h i = refl
flat n (x ∷ z) h zero = h.0
flat n (x ∷ z) h (suc i) = flat x z h.1 i

-- The next rows of the walk are known from the rows.
next_one :
    {k k' b b' : ℕ} {R R' low low' : Rows}
    → R ≡ R'
    → amount R < 2 ^ 64
    → (r : DownRows k b R low)
    → Zeros r.swap.over
    → (r' : DownRows k' b' R' low')
    → Zeros r'.swap.over
    → low ≡ low'
next_one {k} {k'} {b} {b'} {R} {R'} {low} {low'} q f r h r' h' =
    let t' : Top b' R' = top_of_lem r' h' in
    let e = top_one b b' R (top_of_lem r h) (rw q t') in
    let p = (down_found b R (top_of_lem r h).long f k low r).is in
    let p' = (down_found b' R' t'.long (omega (arith, ap amount q)) k' low' r').is in
    p ∙ ap₂ (λ (i : ℕ) (S : Rows). lowered i (fall_by (get_or S i 0) (get_or S (suc i) 0)) S) e q ∙ sym p'

-- The walk has no move where all parts are in row 0.
no_step : {k b n : ℕ} {z R low : Rows} → n ∷ z ≡ R → Zeros z → (r : DownRows k b R low) → Zeros r.swap.over → ⊥
no_step {k} {b} {n} {z} e h r g =
    let t = top_of_lem r g in
    omega (arith, flat n z h b, ap (λ (l : Rows). get_or l (suc b) 0) e, t.some)

walk_lengths : {c c' d d' : Rows} {j j' : ℕ} → c ≡ c' → amount c < 2 ^ 64 → WalkRows c j d → WalkRows c' j' d' → j ≡ j'
walk_lengths e f (stop h) (stop h') = refl
walk_lengths e f (stop h) (step r g w) = absurd (no_step e h r g)
walk_lengths e f (step r g w) (stop h) = absurd (no_step (sym e) h r g)
walk_lengths e f (step r g w) (step r' g' w') =
    ap suc (walk_lengths (next_one e f r g r' g') (omega (arith, swap_amount r.swap)) w w')

-- Two walks from the same rows have the same length and the same end.
pub walk_one : {c d d' : Rows} {j j' : ℕ} → amount c < 2 ^ 64 → WalkRows c j d → WalkRows c j' d' → (j ≡ j') × (d ≡ d')
walk_one f w w' = (walk_lengths refl f w w', walk_end w ∙ sym (walk_end w'))

-- ---- the theorem of record

-- A walk is the one that exists, so its length has the bound.
walk_most :
    (x : ℕ) (l : Rows) {d : Rows} {j : ℕ}
    → Laid (x ∷ l)
    → amount (x ∷ l) < 2 ^ 64
    → WalkRows (x ∷ l) j d
    → j ≤ points (length l) (amount (x ∷ l))
walk_most x l h f w =
    let r = walk_exists x l h f in
    omega (arith, r.1, (walk_one f w r.2).0)

-- From 41 rows of a chain of a number below 2^64, a walk has no more moves than there are points, and at most 1,280.
pub walk_held : (R d : Rows) (j : ℕ) → Held R → WalkRows R j d → (j ≤ points 40 (amount R)) × (j ≤ 1280)
walk_held [] d j h w = absurd (omega (arith, h.rows))
walk_held (x ∷ l) d j h w =
    let q : length l ≡ 40 = omega (arith, h.rows) in
    let r : j ≤ points 40 (amount (x ∷ l)) = rw q at (walk_most x l h.laid h.fits w) in
    (r, omega (arith, r, points_most (amount (x ∷ l)) h.fits))
