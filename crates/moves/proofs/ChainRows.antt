-- Moves of chains and moves of rows are the same: the tie of what the bench holds to 003's chains.
-- In this order: a move up of a chain is one of its rows; a move up of its rows is one of the chain.
use Rattle.std.specs.Prelude.{◌≡◌, refl, List, [], ◌∷◌, ◌++◌, ℕ, zero, suc, ◌+◌, ◌-◌, ◌*◌, ◌^◌, ◌≤◌, ◌<◌, length, get_or, take, drop}
use Rattle.std.proofs.Common.{sym, ap, ◌∙◌, pow-suc, arith, pow_mono, length-take-le}
use Rattle.std.proofs.Math.Decide.{dec_lt}
use Rattle.chains.specs.Chains.{Part, Chained}
use Rattle.moves.specs.Moves.{part, Every, run, Up, first, second}
use Rattle.moves.specs.Rows.{Rows, Under, add_at, rows_of}
use Rattle.moves.specs.RowMoves.{Shape, one, two, UpRows}
use Rattle.moves.proofs.RowLaws.{exp_lt, split_at, get_or_cut, cut}
use Rattle.moves.proofs.RowMoveLaws.{swap_within}
use Rattle.moves.proofs.Layouts.{length_rows, length_add, laid_out_room}
use Rattle.moves.proofs.Chaining.{every_map, every_append, every_with, before_row, chained_after, chained_every, chained_rest}
use Rattle.moves.proofs.UpChains.{gap_chained}
use Rattle.moves.proofs.RowsOf.{add_all, add_same, add_here, take_add, rows_append, all_add, rows_run, take_all, get_or_all}
use Rattle.moves.proofs.RowsOf.{part_row, room_row, room_under, Peeled, peel}

-- ---- from the chain to its rows

-- v more in the row after u.
add_cut : (u : Rows) (x : ℕ) (l : Rows) (b v : ℕ) → length u ≡ b → add_at b v (u ++ (x ∷ l)) ≡ u ++ ((x + v) ∷ l)
unfolding add_at
add_cut [] x l zero v h = refl
add_cut [] x l (suc b) v h = absurd (omega arith)
add_cut (w ∷ u) x l zero v h = absurd (omega arith)
add_cut (w ∷ u) x l (suc b) v h = ap (λ (k : Rows). w ∷ k) (add_cut u x l b v (omega arith))

add_cut_above :
    (u : Rows) (x y : ℕ) (l : Rows) (b v : ℕ)
    → length u ≡ b
    → add_at (suc b) v (u ++ (x ∷ y ∷ l)) ≡ u ++ (x ∷ (y + v) ∷ l)
unfolding add_at
add_cut_above [] x y l zero v h = refl
add_cut_above [] x y l (suc b) v h = absurd (omega arith)
add_cut_above (w ∷ u) x y l zero v h = absurd (omega arith)
add_cut_above (w ∷ u) x y l (suc b) v h = ap (λ (k : Rows). w ∷ k) (add_cut_above u x y l b v (omega arith))

-- 3 s more in row b, or s more in row b + 1.
swap_of :
    (kind b s m c : ℕ) (W : Rows)
    → suc b < length W
    → Shape kind s (get_or W b 0) m c
    → Under c (take b W)
    → UpRows kind b (add_at b (3 * s) W) (add_at (suc b) s W)
swap_of kind b s m c W h w u =
    let x = get_or W b 0 in
    let y = get_or W (suc b) 0 in
    let t = take b W in
    let o = drop (suc (suc b)) W in
    let n : length t ≡ b = length-take-le b W (omega arith) in
    let e : W ≡ t ++ (x ∷ y ∷ o) = split_at b W h in
    let f : x + 3 * s ≡ 3 * s + x = omega arith in
    let g : y + s ≡ s + y = omega arith in
    record {
      swap = record {
        under = t;
        x = x;
        y = y;
        over = o;
        s = s;
        m = m;
        c = c;
        shape = w;
        row = n;
        is_low = ap (add_at b (3 * s)) e ∙ add_cut t x (y ∷ o) b (3 * s) n ∙ ap (λ (i : ℕ). t ++ (i ∷ y ∷ o)) f;
        is_high = ap (add_at (suc b) s) e ∙ add_cut_above t x y o b s n ∙ ap (λ (i : ℕ). t ++ (x ∷ i ∷ o)) g;
      };
      free = λ _. u;
    }

-- Where the parts of u are in rows above b, and (c, b) may come before v: row b of both is below 2^c, and the rows under it are
-- below 2^(c+1).
record Low (b c : ℕ) (l : Rows) : Type 0 where
  row : get_or l b 0 < 2 ^ c
  under : Under c (take b l)

low_of : (n b c : ℕ) (u v : List Part) → Every (λ p. b < p.b) u → b < n → Chained (part c b ∷ v) → Low b c (add_all u (rows_of n v))
low_of n b c u v f l h =
    let r = (laid_out_room n (part c b) v h l).1 in
    record {
      row = omega (arith, get_or_all b u (rows_of n v) f, room_row c b (rows_of n v) r);
      under = rw (take_all b u (rows_of n v) (every_map {P = λ p. b < p.b} u (λ p g. omega arith) f)) (room_under c b (rows_of n v) r);
    }

length_all : (u : List Part) (l : Rows) → length (add_all u l) ≡ length l
unfolding add_all
length_all [] l = refl
length_all (p ∷ u) l = length_add p.b (2 ^ p.a) (add_all u l) ∙ length_all u l

-- Two parts more in a row, before others.
rows_two :
    (n b x y : ℕ) (u v : List Part)
    → rows_of n (u ++ (part x b ∷ part y b ∷ v)) ≡ add_at b (2 ^ x + 2 ^ y) (add_all u (rows_of n v))
unfolding rows_of
rows_two n b x y u v =
    rows_append n u (part x b ∷ part y b ∷ v)
    ∙ ap (add_all u) (add_same b (2 ^ x) (2 ^ y) (rows_of n v))
    ∙ all_add u b (2 ^ x + 2 ^ y) (rows_of n v)

rows_one : (n b x : ℕ) (u v : List Part) → rows_of n (u ++ (part x b ∷ v)) ≡ add_at b (2 ^ x) (add_all u (rows_of n v))
unfolding rows_of
rows_one n b x u v = rows_append n u (part x b ∷ v) ∙ all_add u b (2 ^ x) (rows_of n v)

-- The first kind.
first_rows :
    (n a b : ℕ) (u v : List Part)
    → Every (λ p. p.b ≡ b → ⊥) u
    → Chained (u ++ (part (suc a) b ∷ part a b ∷ v))
    → suc b < n
    → UpRows 1 b (rows_of n (u ++ (part (suc a) b ∷ part a b ∷ v))) (rows_of n (u ++ (part a (suc b) ∷ v)))
first_rows n a b u v f h l =
    let W = add_all u (rows_of n v) in
    let t = chained_after u (part (suc a) b ∷ part a b ∷ v) h in
    let g : Every (λ p. b < p.b) u = every_map u (λ p k. k.1) (before_row u (part (suc a) b) (part a b ∷ v) h f) in
    let w = low_of n b a u v g (omega arith) t.1 in
    let s : 2 ^ suc a + 2 ^ a ≡ 3 * 2 ^ a = omega (arith, pow-suc 2 a) in
    rw (rows_two n b (suc a) a u v, s, rows_one n (suc b) a u v)
    (swap_of 1 b (2 ^ a) a a W (omega (arith, length_all u (rows_of n v), length_rows n v)) (one refl w.row) w.under)

-- The second kind, with m = c + k + 1: row b has 3 (2^m - 2^c) + 2^c more, or row b + 1 has 2^m - 2^c more and row b 2^c.
rows_gap :
    (n c k b : ℕ) (u v : List Part)
    → rows_of n (u ++ (part (suc (suc (c + k))) b ∷ (run k c b ++ v)))
    ≡ add_at b (3 * (2 ^ suc (c + k) - 2 ^ c)) (add_at b (2 ^ c) (add_all u (rows_of n v)))
unfolding rows_of
rows_gap n c k b u v =
    let m = 2 ^ suc (c + k) in
    let o = pow_mono {i = suc c} {j = suc (c + k)} (omega arith) in
    let e : 2 ^ suc (suc (c + k)) + (m - 2 ^ suc c) ≡ 3 * (m - 2 ^ c) + 2 ^ c =
    omega (arith, pow-suc 2 (suc (c + k)), pow-suc 2 c) in
    rows_append n u (part (suc (suc (c + k))) b ∷ (run k c b ++ v))
    ∙ ap (λ (l : Rows). add_all u (add_at b (2 ^ suc (suc (c + k))) l)) (rows_run n k c b v)
    ∙ ap (add_all u) (add_same b (2 ^ suc (suc (c + k))) (m - 2 ^ suc c) (rows_of n v))
    ∙ all_add u b (2 ^ suc (suc (c + k)) + (m - 2 ^ suc c)) (rows_of n v)
    ∙ ap (λ (i : ℕ). add_at b i (add_all u (rows_of n v))) e
    ∙ sym (add_same b (3 * (m - 2 ^ c)) (2 ^ c) (add_all u (rows_of n v)))

rows_filled :
    (n c k b : ℕ) (u v : List Part)
    → rows_of n (u ++ (run k c (suc b) ++ (part c (suc b) ∷ part c b ∷ v)))
    ≡ add_at (suc b) (2 ^ suc (c + k) - 2 ^ c) (add_at b (2 ^ c) (add_all u (rows_of n v)))
unfolding rows_of
rows_filled n c k b u v =
    let m = 2 ^ suc (c + k) in
    let o = pow_mono {i = suc c} {j = suc (c + k)} (omega arith) in
    let e : m - 2 ^ suc c + 2 ^ c ≡ m - 2 ^ c = omega (arith, pow-suc 2 c) in
    let w = add_at b (2 ^ c) (rows_of n v) in
    rows_append n u (run k c (suc b) ++ (part c (suc b) ∷ part c b ∷ v))
    ∙ ap (add_all u)
    (rows_run n k c (suc b) (part c (suc b) ∷ part c b ∷ v)
    ∙ add_same (suc b) (m - 2 ^ suc c) (2 ^ c) w
    ∙ ap (λ (i : ℕ). add_at (suc b) i w) e)
    ∙ all_add u (suc b) (m - 2 ^ c) w
    ∙ ap (add_at (suc b) (m - 2 ^ c)) (all_add u b (2 ^ c) (rows_of n v))

second_rows :
    (n c k b : ℕ) (u v : List Part)
    → Every (λ p. p.b ≡ b → ⊥) u
    → Every (λ p. p.b ≡ b → p.a < c) v
    → Every (λ p. p.b < b → p.a ≤ c) v
    → Chained (u ++ (part (suc (suc (c + k))) b ∷ (run k c b ++ v)))
    → suc b < n
    → UpRows 2 b (rows_of n (u ++ (part (suc (suc (c + k))) b ∷ (run k c b ++ v))))
    (rows_of n (u ++ (run k c (suc b) ++ (part c (suc b) ∷ part c b ∷ v))))
second_rows n c k b u v f gap free h l =
    let top = part (suc (suc (c + k))) b in
    let g : Every (λ p. b < p.b) u = every_map u (λ p j. j.1) (before_row u top (run k c b ++ v) h f) in
    let W = add_all u (rows_of n v) in
    let w =
    low_of n b c u v g (omega arith) (gap_chained c b (run k c b) v top (chained_after u (top ∷ (run k c b ++ v)) h) refl gap free) in
    let i : length W ≡ n = length_all u (rows_of n v) ∙ length_rows n v in
    let x = add_here b (2 ^ c) W (omega (arith, i)) in
    let o = pow_mono {i = suc c} {j = suc (c + k)} (omega arith) in
    rw (rows_gap n c k b u v, rows_filled n c k b u v)
    (swap_of 2 b (2 ^ suc (c + k) - 2 ^ c) (suc (c + k)) c (add_at b (2 ^ c) W)
    (omega (arith, length_add b (2 ^ c) W, i))
    (two {s = 2 ^ suc (c + k) - 2 ^ c} {x = get_or (add_at b (2 ^ c) W) b 0} {m = suc (c + k)} {c = c}
    (omega arith) (omega (arith, pow-suc 2 c)) (omega arith) (omega (arith, w.row, pow-suc 2 c)))
    (rw (take_add b b (2 ^ c) W (omega arith)) w.under))

-- A move up of a chain is one of its rows.
pub up_rows :
    {kind b : ℕ} {c d : List Part} (n : ℕ)
    → Up kind b c d
    → Chained c
    → suc b < n
    → UpRows kind b (rows_of n c) (rows_of n d)
up_rows {kind} {b} n (first a u v f) h l = first_rows n a b u v f h l
up_rows {kind} {b} n (second c k u v f gap free) h l = second_rows n c k b u v f gap free h l

-- ---- from the rows to the chain

-- A chain cut at row b: the parts in the rows above, and the others.
record CutAt (b : ℕ) (c : List Part) : Type 0 where
  above : List Part
  others : List Part
  is : c ≡ above ++ others
  higher : Every (λ p. b < p.b) above
  rest : Every (λ p. p.b ≤ b) others

cut_at : (b : ℕ) (c : List Part) → Chained c → CutAt b c
cut_at b [] h = record { above = []; others = []; is = refl; higher = tt; rest = tt }
cut_at b (p ∷ c) h = go (dec_lt b p.b) (cut_at b c (chained_rest p c h))
  where
    go : Dec (b < p.b) → CutAt b c → CutAt b (p ∷ c)
    go (yes l) r =
        record {
          above = p ∷ r.above;
          others = r.others;
          is = ap (λ (k : List Part). p ∷ k) r.is;
          higher = (l, r.higher);
          rest = r.rest;
        }
    go (no l) r =
        record {
          above = [];
          others = p ∷ c;
          is = refl;
          higher = tt;
          rest = (omega arith, every_map c (λ q k. omega (arith, k.upward)) (chained_every p c h));
        }

-- k parts side by side, from the row's number.
record Run (n b c k x : ℕ) (w : List Part) : Type 0 where
  rest : List Part
  is : w ≡ run k c b ++ rest
  row : get_or (rows_of n rest) b 0 ≡ x

peel_run :
    (n b c k x : ℕ) (w : List Part)
    → Chained w
    → Every (λ p. (p.b ≤ b) × (p.b < n)) w
    → x < 2 ^ c
    → get_or (rows_of n w) b 0 + 2 ^ suc c ≡ 2 ^ suc (c + k) + x
    → Run n b c k x w
unfolding run
peel_run n b c zero x w h f l e =
    record { rest = w; is = refl; row = omega (arith, ap (λ (i : ℕ). 2 ^ suc i) {x = c + 0} {y = c} (omega arith)) }
peel_run n b c (suc k) x w h f l e = go (peel n b (c + suc k) w h f (omega (arith, a, o, pow-suc 2 c)) (omega (arith, a, pow-suc 2 c)))
    (λ v g j i. peel_run n b c k x v g j l i)
  where
    a : 2 ^ suc (c + suc k) ≡ 2 * 2 ^ (c + suc k)
    a = omega (arith, pow-suc 2 (c + suc k))

    o : 2 ^ suc c ≤ 2 ^ (c + suc k)
    o = pow_mono {i = suc c} {j = c + suc k} (omega arith)

    go :
        Peeled n b (c + suc k) w
        → ((v : List Part)
        → Chained v
        → Every (λ p. (p.b ≤ b) × (p.b < n)) v
        → get_or (rows_of n v) b 0 + 2 ^ suc c ≡ 2 ^ suc (c + k) + x
        → Run n b c k x v)
        → Run n b c (suc k) x w
    go p rec =
        let q : 2 ^ (c + suc k) ≡ 2 ^ suc (c + k) = ap (λ (i : ℕ). 2 ^ i) {x = c + suc k} {y = suc (c + k)} (omega arith) in
        let h' = rw p.is at h in
        let f' = rw p.is at f in
        let r = rec p.rest (chained_rest (part (c + suc k) b) p.rest h') f'.1 (omega (arith, p.row, e, a, q)) in
        record { rest = r.rest; is = p.is ∙ ap (λ (v : List Part). part (c + suc k) b ∷ v) r.is; row = r.row }

pub every_of : (P : Part → Type 0) {c d : List Part} → c ≡ d → Every P c → Every P d
every_of P e h = rw e at h

under_at : (b g : ℕ) (l : Rows) → b ≤ length l → Under g (take b l) → (i : ℕ) → i < b → get_or l i 0 < 2 ^ suc g
under_at zero g l h u i k = absurd (omega arith)
under_at (suc b) g [] h u i k = absurd (omega arith)
under_at (suc b) g (x ∷ l) h u zero k = u.0
under_at (suc b) g (x ∷ l) h u (suc i) k = under_at b g l (omega arith) u.1 i (omega arith)

-- A move up of the rows is one of the chain.
pub record UpFor (kind b : ℕ) (c : List Part) : Type 0 where
  pub after : List Part
  pub up : Up kind b c after

up_for : {kind b : ℕ} {c c' d : List Part} → c ≡ c' → Up kind b c' d → UpFor kind b c
up_for {d = d} e w = record { after = d; up = rw e w }

-- No later part of row b is at the gap or above it, by the row's number.
gap_of :
    (n b g : ℕ) (v : List Part)
    → Every (λ p. p.b < n) v → get_or (rows_of n v) b 0 < 2 ^ g → Every (λ p. p.b ≡ b → p.a < g) v
gap_of n b g v f l =
    every_map v
    (λ p j y. exp_lt p.a g (omega (arith, j, ap (λ (m : ℕ). get_or (rows_of n v) m 0) y)))
    (part_row n v f)

-- No part below row b is above the gap, by the rows' numbers.
free_of :
    (b g : ℕ) (R : Rows) (v : List Part)
    → b ≤ length R → Under g (take b R) → Every (λ p. 2 ^ p.a ≤ get_or R p.b 0) v → Every (λ p. p.b < b → p.a ≤ g) v
free_of b g R v l u f =
    every_map v
    (λ p j y. let m = exp_lt p.a (suc g) (omega (arith, j, under_at b g R l u p.b y)) in omega arith)
    f

-- The second kind, where the parts are found.
run_up :
    (n b g k : ℕ) (c u v : List Part)
    → c ≡ u ++ (part (suc (suc (g + k))) b ∷ (run k g b ++ v))
    → Every (λ p. p.b < n) c
    → Every (λ p. p.b ≡ b → ⊥) u
    → get_or (rows_of n v) b 0 < 2 ^ g
    → Under g (take b (rows_of n c))
    → b < n
    → UpFor 2 b c
run_up n b g k c u v e f none l under bn =
    let top = part (suc (suc (g + k))) b in
    let P : Part → Type 0 = λ p. (p.b < n) × (2 ^ p.a ≤ get_or (rows_of n c) p.b 0) in
    let all : Every P c = every_with c (λ p x y. (x, y)) f (part_row n c f) in
    let last : Every P v = (every_append P (run k g b) v (every_append P u (top ∷ (run k g b ++ v)) (every_of P e all)).1.1).1 in
    up_for e
    (second g k u v none
    (gap_of n b g v (every_map v (λ p j. j.0) last) l)
    (free_of b g (rows_of n c) v (omega (arith, length_rows n c)) under (every_map v (λ p j. j.1) last)))

module _ (n b : ℕ) (c : List Part) (h : Chained c) (f : Every (λ p. p.b < n) c) where
  -- The parts in row b and below.
  record Part-of (u w : List Part) : Type 0 where
    chained : Chained w
    rest : Every (λ p. (p.b ≤ b) × (p.b < n)) w
    row : get_or (rows_of n w) b 0 ≡ get_or (rows_of n c) b 0
    none : Every (λ p. p.b ≡ b → ⊥) u

  part_of : (r : CutAt b c) → Part-of r.above r.others
  part_of r =
      let g : Every (λ p. p.b < n) (r.above ++ r.others) = rw r.is at f in
      record {
        chained = chained_after r.above r.others (rw r.is at h);
        rest = every_with r.others (λ p x y. (x, y)) r.rest (every_append (λ p. p.b < n) r.above r.others g).1;
        row = sym
            (ap (λ (k : List Part). get_or (rows_of n k) b 0) r.is
            ∙ ap (λ (l : Rows). get_or l b 0) (rows_append n r.above r.others)
            ∙ get_or_all b r.above (rows_of n r.others) r.higher);
        none = every_map r.above (λ p x e. omega arith) r.higher;
      }

  first_up : (m x : ℕ) → x < 2 ^ m → get_or (rows_of n c) b 0 ≡ 3 * 2 ^ m + x → UpFor 1 b c
  first_up m x l e =
      let r = cut_at b c h in
      let o = part_of r in
      let p =
      peel n b (suc m) r.others o.chained o.rest (omega (arith, o.row, e, pow-suc 2 m))
      (omega (arith, o.row, e, pow-suc 2 m, pow-suc 2 (suc m))) in
      let h' = rw p.is at o.chained in
      let f' = rw p.is at o.rest in
      let q =
      peel n b m p.rest (chained_rest (part (suc m) b) p.rest h') f'.1
      (omega (arith, p.row, o.row, e, pow-suc 2 m)) (omega (arith, p.row, o.row, e, pow-suc 2 m)) in
      let i : c ≡ r.above ++ (part (suc m) b ∷ part m b ∷ q.rest) =
      r.is ∙ ap (λ (k : List Part). r.above ++ k) (p.is ∙ ap (λ (k : List Part). part (suc m) b ∷ k) q.is) in
      up_for i (first m r.above q.rest o.none)

  second_up :
      (k g x : ℕ)
      → 2 ^ g ≤ x
      → x < 2 ^ suc g
      → get_or (rows_of n c) b 0 ≡ 3 * (2 ^ suc (g + k) - 2 ^ g) + x
      → Under g (take b (rows_of n c))
      → b < n
      → UpFor 2 b c
  second_up k g x l u e under bn =
      let r = cut_at b c h in
      let o = part_of r in
      let z = pow_mono {i = suc g} {j = suc (g + k)} (omega arith) in
      let top = suc (suc (g + k)) in
      let t : 2 ^ top ≡ 2 * 2 ^ suc (g + k) = omega (arith, pow-suc 2 (suc (g + k))) in
      let t' : 2 ^ suc top ≡ 2 * 2 ^ top = omega (arith, pow-suc 2 top) in
      let s : 2 ^ suc g ≡ 2 * 2 ^ g = omega (arith, pow-suc 2 g) in
      let p =
      peel n b top r.others o.chained o.rest (omega (arith, o.row, e, t, s)) (omega (arith, o.row, e, t, t', s)) in
      let h' = rw p.is at o.chained in
      let f' = rw p.is at o.rest in
      let q =
      peel_run n b g k (x - 2 ^ g) p.rest (chained_rest (part top b) p.rest h') f'.1 (omega (arith, s))
      (omega (arith, p.row, o.row, e, t, s)) in
      let i : c ≡ r.above ++ (part top b ∷ (run k g b ++ q.rest)) =
      r.is ∙ ap (λ (j : List Part). r.above ++ j) (p.is ∙ ap (λ (j : List Part). part top b ∷ j) q.is) in
      run_up n b g k c r.above q.rest i f o.none (omega (arith, q.row, s)) under bn

  -- From a move of the rows to one of the chain.
  pub rows_up : {kind : ℕ} {high : Rows} → UpRows kind b (rows_of n c) high → UpFor kind b c
  rows_up {kind} {high} r =
      let w = r.swap in
      let z = (swap_within w).0 in
      let l : b < n = omega (arith, length_rows n c) in
      let g = get_or_cut w.under (3 * w.s + w.x) w.y w.over b w.row in
      let e : get_or (rows_of n c) b 0 ≡ 3 * w.s + w.x = ap (λ (l : Rows). get_or l b 0) w.is_low ∙ g.0 in
      let t : take b (rows_of n c) ≡ w.under =
      ap (λ (l : Rows). take b l) w.is_low ∙ (cut w.under ((3 * w.s + w.x) ∷ w.y ∷ w.over) b w.row).0 in
      shaped l w.shape e (λ k. rw t (r.free k))
    where
      shaped :
          {kind s x m g : ℕ}
          → b < n → Shape kind s x m g → get_or (rows_of n c) b 0 ≡ 3 * s + x → (kind ≡ 2 → Under g (take b (rows_of n c))) → UpFor kind b c
      shaped {kind} {s} {x} {m} l (one e k) i u = first_up m x k (i ∙ ap (λ (j : ℕ). 3 * j + x) e)
      shaped {kind} {s} {x} {m} {g} l (two a e k j) i u =
          let q : suc (g + (m - suc g)) ≡ m = omega arith in
          let y : 2 ^ suc (g + (m - suc g)) ≡ 2 ^ m = ap (λ (i : ℕ). 2 ^ i) q in
          second_up (m - suc g) g x k j (omega (arith, i, e, y)) (u refl) l
