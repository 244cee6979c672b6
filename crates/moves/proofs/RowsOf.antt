-- The rows of a list of parts: a part more is a number more in its row, in any order.
-- In this order: adding to rows; the rows of two lists, of a run; one row of a list; the largest part of a row.
use Rattle.std.specs.Prelude.{◌≡◌, refl, List, [], ◌∷◌, ◌++◌, ℕ, zero, suc, ◌+◌, ◌-◌, ◌*◌, ◌^◌, ◌≤◌, ◌<◌, length, get_or, take}
use Rattle.std.proofs.Common.{sym, ap, ◌∙◌, pow-suc, arith, pow_pos, pow_mono}
use Rattle.std.proofs.Math.Decide.{ℕ_discrete}
use Rattle.chains.specs.Chains.{Part, Chained}
use Rattle.chains.proofs.Divides.{same_part_lem}
use Rattle.moves.specs.Moves.{part, Every, run}
use Rattle.moves.specs.Rows.{Rows, amount, Under, zeros, add_at, rows_of}
use Rattle.moves.proofs.RowLaws.{exp_lt}
use Rattle.moves.proofs.Layouts.{Room, length_rows, laid_out_room}
use Rattle.moves.proofs.Chaining.{every_map, chained_every}

-- ---- adding to rows

pub add_same : (b v v' : ℕ) (l : Rows) → add_at b v (add_at b v' l) ≡ add_at b (v + v') l
unfolding add_at
add_same b v v' [] = refl
add_same zero v v' (x ∷ l) = ap (λ (i : ℕ). i ∷ l) (omega arith)
add_same (suc b) v v' (x ∷ l) = ap (λ (k : Rows). x ∷ k) (add_same b v v' l)

pub add_comm : (b v b' v' : ℕ) (l : Rows) → add_at b v (add_at b' v' l) ≡ add_at b' v' (add_at b v l)
unfolding add_at
add_comm b v b' v' [] = refl
add_comm zero v zero v' (x ∷ l) = ap (λ (i : ℕ). i ∷ l) (omega arith)
add_comm zero v (suc b') v' (x ∷ l) = refl
add_comm (suc b) v zero v' (x ∷ l) = refl
add_comm (suc b) v (suc b') v' (x ∷ l) = ap (λ (k : Rows). x ∷ k) (add_comm b v b' v' l)

pub add_none : (b : ℕ) (l : Rows) → add_at b 0 l ≡ l
unfolding add_at
add_none b [] = refl
add_none zero (x ∷ l) = ap (λ (i : ℕ). i ∷ l) (omega arith)
add_none (suc b) (x ∷ l) = ap (λ (k : Rows). x ∷ k) (add_none b l)

pub add_here : (b v : ℕ) (l : Rows) → b < length l → get_or (add_at b v l) b 0 ≡ get_or l b 0 + v
unfolding add_at
add_here b v [] h = absurd (omega arith)
add_here zero v (x ∷ l) h = refl
add_here (suc b) v (x ∷ l) h = add_here b v l (omega arith)

pub add_there : (b b' v : ℕ) (l : Rows) → (b' ≡ b → ⊥) → get_or (add_at b v l) b' 0 ≡ get_or l b' 0
unfolding add_at
add_there b b' v [] h = refl
add_there zero zero v (x ∷ l) h = absurd (h refl)
add_there zero (suc b') v (x ∷ l) h = refl
add_there (suc b) zero v (x ∷ l) h = refl
add_there (suc b) (suc b') v (x ∷ l) h = add_there b b' v l (λ e. h (ap suc e))

pub add_least : (b b' v : ℕ) (l : Rows) → get_or l b' 0 ≤ get_or (add_at b v l) b' 0
unfolding add_at
add_least b b' v [] = omega arith
add_least zero zero v (x ∷ l) = omega arith
add_least zero (suc b') v (x ∷ l) = omega arith
add_least (suc b) zero v (x ∷ l) = omega arith
add_least (suc b) (suc b') v (x ∷ l) = add_least b b' v l

-- The rows below are as they were.
pub take_add : (k b v : ℕ) (l : Rows) → k ≤ b → take k (add_at b v l) ≡ take k l
unfolding add_at
take_add zero b v l h = refl
take_add (suc k) b v [] h = refl
take_add (suc k) zero v (x ∷ l) h = absurd (omega arith)
take_add (suc k) (suc b) v (x ∷ l) h = ap (λ (j : Rows). x ∷ j) (take_add k b v l (omega arith))

-- ---- the rows of lists

-- The parts of u more.
unfoldable pub add_all : List Part → Rows → Rows
add_all [] l = l
add_all (p ∷ u) l = add_at p.b (2 ^ p.a) (add_all u l)

pub rows_append : (n : ℕ) (u w : List Part) → rows_of n (u ++ w) ≡ add_all u (rows_of n w)
unfolding rows_of add_all
rows_append n [] w = refl
rows_append n (p ∷ u) w = ap (add_at p.b (2 ^ p.a)) (rows_append n u w)

pub all_add : (u : List Part) (b v : ℕ) (l : Rows) → add_all u (add_at b v l) ≡ add_at b v (add_all u l)
unfolding add_all
all_add [] b v l = refl
all_add (p ∷ u) b v l =
    ap (add_at p.b (2 ^ p.a)) (all_add u b v l) ∙ add_comm p.b (2 ^ p.a) b v (add_all u l)

-- k parts side by side from 2^(c+1) on.
pub rows_run : (n k c b : ℕ) (w : List Part) → rows_of n (run k c b ++ w) ≡ add_at b (2 ^ suc (c + k) - 2 ^ suc c) (rows_of n w)
unfolding rows_of run
rows_run n zero c b w =
    let e : 2 ^ suc (c + 0) - 2 ^ suc c ≡ 0 = omega (arith, ap (λ (i : ℕ). 2 ^ suc i) {x = c + 0} {y = c} (omega arith)) in
    sym (ap (λ (i : ℕ). add_at b i (rows_of n w)) e ∙ add_none b (rows_of n w))
rows_run n (suc k) c b w =
    let m = pow_mono {i = suc c} {j = suc (c + k)} (omega arith) in
    let q : 2 ^ (c + suc k) ≡ 2 ^ suc (c + k) = ap (λ (i : ℕ). 2 ^ i) {x = c + suc k} {y = suc (c + k)} (omega arith) in
    let r : 2 ^ suc (c + suc k) ≡ 2 * 2 ^ suc (c + k) =
    ap (λ (i : ℕ). 2 ^ suc i) {x = c + suc k} {y = suc (c + k)} (omega arith) ∙ omega (arith, pow-suc 2 (suc (c + k))) in
    let e : 2 ^ (c + suc k) + (2 ^ suc (c + k) - 2 ^ suc c) ≡ 2 ^ suc (c + suc k) - 2 ^ suc c = omega arith in
    ap (add_at b (2 ^ (c + suc k))) (rows_run n k c b w)
    ∙ add_same b (2 ^ (c + suc k)) (2 ^ suc (c + k) - 2 ^ suc c) (rows_of n w)
    ∙ ap (λ (i : ℕ). add_at b i (rows_of n w)) e

-- ---- one row of a list

-- Parts in higher rows change nothing below.
pub take_all : (k : ℕ) (u : List Part) (l : Rows) → Every (λ p. k ≤ p.b) u → take k (add_all u l) ≡ take k l
unfolding add_all
take_all k [] l h = refl
take_all k (p ∷ u) l h = take_add k p.b (2 ^ p.a) (add_all u l) h.0 ∙ take_all k u l h.1

pub get_or_all : (b : ℕ) (u : List Part) (l : Rows) → Every (λ p. b < p.b) u → get_or (add_all u l) b 0 ≡ get_or l b 0
unfolding add_all
get_or_all b [] l h = refl
get_or_all b (p ∷ u) l h =
    add_there p.b b (2 ^ p.a) (add_all u l) (λ e. omega (arith, h.0)) ∙ get_or_all b u l h.1

no_row : (n b : ℕ) → get_or (zeros n) b 0 ≡ 0
unfolding zeros
no_row zero b = refl
no_row (suc n) zero = refl
no_row (suc n) (suc b) = no_row n b

-- A row that has no part.
pub row_empty : (n b : ℕ) (c : List Part) → Every (λ p. p.b ≡ b → ⊥) c → get_or (rows_of n c) b 0 ≡ 0
unfolding rows_of
row_empty n b [] h = no_row n b
row_empty n b (p ∷ c) h =
    add_there p.b b (2 ^ p.a) (rows_of n c) (λ e. h.0 (sym e)) ∙ row_empty n b c h.1

-- A row is at least each of its parts.
pub part_row : (n : ℕ) (c : List Part) → Every (λ p. p.b < n) c → Every (λ p. 2 ^ p.a ≤ get_or (rows_of n c) p.b 0) c
unfolding rows_of
part_row n [] h = tt
part_row n (p ∷ c) h = (
  omega (arith, add_here p.b (2 ^ p.a) (rows_of n c) (omega (arith, h.0, length_rows n c))),
  every_map c
      (λ q k. omega (arith, k, add_least p.b q.b (2 ^ p.a) (rows_of n c)))
      (part_row n c h.1),
)

-- A row is no more than the sum of all.
pub row_least : (b : ℕ) (R : Rows) → get_or R b 0 ≤ amount R
unfolding amount
row_least b [] = omega arith
row_least zero (x ∷ R) = omega arith
row_least (suc b) (x ∷ R) = omega (arith, row_least b R)

-- ---- room

pub room_row : (a b : ℕ) (l : Rows) → Room a b l → get_or l b 0 < 2 ^ a
unfolding Room
room_row a b [] r = absurd r
room_row a zero (x ∷ l) r = r.0
room_row a (suc b) (x ∷ l) r = room_row a b l r.1

pub room_under : (a b : ℕ) (l : Rows) → Room a b l → Under a (take b l)
unfolding Room
room_under a b [] r = absurd r
room_under a zero (x ∷ l) r = tt
room_under a (suc b) (x ∷ l) r = (r.0, room_under a b l r.1)

-- ---- the largest part of a row

pub record Peeled (n b j : ℕ) (w : List Part) : Type 0 where
  pub rest : List Part
  pub is : w ≡ part j b ∷ rest
  pub row : get_or (rows_of n w) b 0 ≡ get_or (rows_of n rest) b 0 + 2 ^ j

row_more : (n b : ℕ) (p : Part) (w : List Part) → p.b ≡ b → b < n → get_or (rows_of n (p ∷ w)) b 0 ≡ get_or (rows_of n w) b 0 + 2 ^ p.a
unfolding rows_of
row_more n b p w e l =
    ap (λ (i : ℕ). get_or (add_at i (2 ^ p.a) (rows_of n w)) b 0) e ∙ add_here b (2 ^ p.a) (rows_of n w) (omega (arith, length_rows n w))

-- The highest one bit of row b is the largest part, where no part is in a row above.
pub peel :
    (n b j : ℕ) (w : List Part)
    → Chained w
    → Every (λ p. (p.b ≤ b) × (p.b < n)) w
    → 2 ^ j ≤ get_or (rows_of n w) b 0
    → get_or (rows_of n w) b 0 < 2 ^ suc j
    → Peeled n b j w
peel n b j [] h f l u = absurd (omega (arith, row_empty n b [] tt, pow_pos j))
peel n b j (p ∷ w) h f l u = go (ℕ_discrete p.b b)
  where
    below : (p.b ≡ b → ⊥) → Every (λ q. q.b ≡ b → ⊥) (p ∷ w)
    below e =
        (e, every_map w (λ q k s. e (omega (arith, k.upward, f.0.0))) (chained_every p w h))

    go : Dec (p.b ≡ b) → Peeled n b j (p ∷ w)
    go (no e) = absurd (omega (arith, row_empty n b (p ∷ w) (below e), pow_pos j))
    go (yes e) =
        let R = rows_of n w in
        let at = row_more n b p w e (omega (arith, f.0.1)) in
        let room : get_or R b 0 < 2 ^ p.a = rw e at (room_row p.a p.b R (laid_out_room n p w h f.0.1).1) in
        let x : p.a < suc j = exp_lt p.a (suc j) (omega (arith, at)) in
        let y : j < suc p.a = exp_lt j (suc p.a) (omega (arith, at, pow-suc 2 p.a)) in
        let top : p.a ≡ j = omega arith in
        record {
          rest = w;
          is = ap (λ (q : Part). q ∷ w) (same_part_lem p (part j b) top e);
          row = at ∙ ap (λ (i : ℕ). get_or R b 0 + 2 ^ i) top;
        }
