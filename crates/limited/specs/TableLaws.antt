-- How a block, a row and the table are filled and read, over any meaning of their cells.
--
-- In this order: a block, one number of parts more at a time, and its two neighbours while it is filled; a row, from its last live column
-- down, each block in the part that begins at it; how wide the rows are; the table, from its last row down, each row in the part that
-- begins at it; reading a cell.
use Rattle.std.specs.Prelude.{◌≡◌, refl, Bool, true, false, List, ℕ, zero, suc, ◌+◌, ◌-◌, ◌*◌, ◌^◌, ◌/◌, ◌%◌, ◌≤◌, ◌<◌, T, leb, length, get_or, drop, set}
use Rattle.std.proofs.Common.{sym, ap, ◌∙◌, subst₂, ⊎_elim, eq-or-lt_of_le, le-div_iff_mul-le, mul-le-mul_right, lt_of_not-le, pow-suc, arith, leb→le, length-set, length-drop, pow_mono, pow_pos, get_or-set_same, get_or-set_other, drop-set-lt, get_or-drop, drop-drop}
use Rattle.std.proofs.Math.Nat.{one-le-pow, pow-le-pow_right}
use borrow.Rule.Slice.PartMut.{mid_of, put_mid, same_len_mid}
use Rattle.lent.specs.Parts.{part_lent, part_back, kept_behind}
use Rattle.lent.specs.LentLaws.{used_none}
use Rattle.grid.specs.Rests.{third_of_rest, half_of_rest, rest_dead, row_above, point_bounds}
use Rattle.parts.proofs.Tests.{below, at_below}
use Rattle.limited.specs.Services.{table_size}
use Rattle.limited.specs.Table.{Block, UpTo, BlockLent, Filled, Row, RowFrom, RowLent, RowFilled, width, start, RowsFrom, TableFilled}
use Rattle.limited.specs.Cells.{CellAsked}

-- ---- a block

up_to_fewer : {g : Block} {j top : ℕ} {l : List ℕ} → UpTo g top l → j ≤ top → UpTo g j l
up_to_fewer u h = record { free = λ k p. u.free k (omega arith); after_a = λ k p. u.after_a k (omega arith) }

-- What means the same is as right.
pub filled_as : {g g' : Block} {j : ℕ} {entry l : List ℕ} → ((f : Bool) (k : ℕ) → g f k ≡ g' f k) → Filled g j entry l
    → Filled g' j entry l
filled_as e f =
    record {
      below = record { free = λ k p. f.below.free k p ∙ e true k; after_a = λ k p. f.below.after_a k p ∙ e false k };
      same = f.same;
      later = f.later;
    }

pub filled_none : (g : Block) (entry : List ℕ) → Filled g 0 entry entry
filled_none g entry =
    record {
      below = record { free = λ k h. absurd (omega arith); after_a = λ k h. absurd (omega arith) };
      same = refl;
      later = refl;
    }

-- One number of parts more. The number of the reader after a has risen is stored first.
pub filled_more : {g : Block} {j : ℕ} {entry l : List ℕ} {x y : ℕ} → j < 65 → 130 ≤ length entry → x ≡ g true j → y ≡ g false j
    → Filled g j entry l → Filled g (suc j) entry (set (set l (65 + j) y) j x)
filled_more {g} {j} {entry} {l} {x} {y} h room ex ey f =
    record {
      below = record {
        free = λ k p.
            ⊎_elim
            (λ (e : k ≡ j). rw e (get_or-set_same one j x 0 (omega (arith, long)) ∙ ex))
            (λ (q : k < j). get_or-set_other one j k x 0 (omega arith) ∙ other k q (omega arith) ∙ f.below.free k q)
            (eq-or-lt_of_le {n = k} {m = j} (omega arith));
        after_a = λ k p.
            get_or-set_other one j (65 + k) x 0 (omega arith)
            ∙ ⊎_elim
            (λ (e : k ≡ j). rw e (get_or-set_same l (65 + j) y 0 (omega (arith, f.same)) ∙ ey))
            (λ (q : k < j). get_or-set_other l (65 + j) (65 + k) y 0 (omega arith) ∙ f.below.after_a k q)
            (eq-or-lt_of_le {n = k} {m = j} (omega arith));
      };
      same = length-set one j x ∙ long;
      later = drop-set-lt 130 one j x (omega arith) ∙ drop-set-lt 130 l (65 + j) y (omega arith) ∙ f.later;
    }
  where
    one : List ℕ
    one = set l (65 + j) y

    long : length one ≡ length entry
    long = length-set l (65 + j) y ∙ f.same

    other : (k : ℕ) → k < j → k < 65 → get_or one k 0 ≡ get_or l k 0
    other k p q = get_or-set_other l (65 + j) k y 0 (omega arith)

-- What stands behind the block is still there while it is filled. A number needs its neighbours for no more parts than its own.
pub lent_still : {g right above : Block} {m up top j k : ℕ} {entry l : List ℕ}
    → BlockLent right above m up top entry → Filled g j entry l → k ≤ top → BlockLent right above m up k l
lent_still {up = up} {entry = entry} {l = l} r f h =
    record {
      room = omega (arith, r.room, f.same);
      far = r.far;
      right_room = λ two. omega (arith, r.right_room two, f.same);
      right_is = λ two. up_to_fewer (rw f.later (r.right_is two)) h;
      above_room = λ two low. omega (arith, r.above_room two low, f.same);
      above_is = λ two low. up_to_fewer (rw behind (r.above_is two low)) h;
    }
  where
    behind : drop up l ≡ drop up entry
    behind =
        let s : up ≡ 130 + (up - 130) = omega (arith, r.far) in
        rw (s, ← drop-drop (up - 130) 130 l, ← drop-drop (up - 130) 130 entry, f.later)

-- A cell may be asked for while its block is filled.
pub cell_still : {R : ℕ → Row} {g : Block} {b a m up most j : ℕ} {entry l : List ℕ} (k : ℕ) → CellAsked R b a m up most entry
    → Filled g j entry l → k ≤ most → CellAsked R b a m up k l
cell_still k p f h = record { lent = lent_still p.lent f (omega arith); some_left = p.some_left; few = omega (arith, p.few) }

-- Reading the two neighbours, at the place i.
module _ {right above : Block} {m up top : ℕ} {l : List ℕ} (r : BlockLent right above m up top l) (two : 2 ≤ m) (i k : ℕ) (h : k < top) where
  pub read_right : i ≡ 195 + k → get_or l i 0 ≡ right false k
  read_right e =
      let s : i ≡ 130 + (65 + k) = omega arith in
      rw s (sym (get_or-drop 130 l (65 + k) 0) ∙ (r.right_is two).after_a k h)

  pub read_above : m % 3 ≤ 1 → i ≡ up + k → get_or l i 0 ≡ above true k
  read_above low e = rw e (sym (get_or-drop up l k 0) ∙ (r.above_is two low).free k h)

-- ---- a row

-- Where nothing is left from column j on, nothing is to be filled there.
pub columns_none : {R : Row} {m up top : ℕ} (j : ℕ) (entry : List ℕ) → m < 2 ^ j → RowFilled R m up top j entry entry
columns_none {m = m} j entry h =
    record { row = record { at = λ i l left. absurd (omega (arith, rest_dead m j i h l)) }; same = refl; later = refl }

-- Each column below the number of bits of m is live.
pub column_live : (m a live : ℕ) → 0 < a → a ≤ live → 2 ^ live ≤ 2 * m + 1 → 1 ≤ m / 2 ^ (a - 1)
column_live m a live h l p =
    let e : a ≡ suc (a - 1) = omega arith in
    let q : 2 ^ a ≡ 2 ^ (a - 1) * 2 = ap (λ (x : ℕ). 2 ^ x) e ∙ pow-suc 2 (a - 1) in
    (le-div_iff_mul-le (pow_pos (a - 1))).1 (omega (arith, pow_mono l))

-- Column i is next, where those from k = i + 1 on are filled.
module _ {R above : Row} {m up top : ℕ} {entry l : List ℕ} (r : RowLent above m up top entry) (i k : ℕ) (e : k ≡ suc i)
    (left : 1 ≤ m / 2 ^ i) (f : RowFilled R m up top k entry l) where
  abbrev rest : ℕ
  rest = m / 2 ^ i

  abbrev first : ℕ
  first = 130 * i

  pub column_room : first + 130 ≤ length l
  column_room = omega (arith, r.room i left, f.same)

  half : rest / 2 ≡ m / 2 ^ suc i
  half = half_of_rest m i

  third : m / 3 / 2 ^ i ≡ rest / 3
  third = third_of_rest m i

  -- The part that its block is lent.
  pub column_lent : BlockLent (R (suc i) (rest / 2)) (above i (rest / 3)) rest up top (mid_of first (length l - first) l)
  column_lent =
      rw (part_lent first l (omega (arith, column_room)))
      (record {
        room = omega (arith, column_room, length-drop first l);
        far = omega (arith, r.room i left);
        right_room = λ two. omega (arith, r.room (suc i) (omega (arith, half)), f.same, length-drop first l);
        right_is = λ two.
            let s : 130 * suc i ≡ first + 130 = omega arith in
            subst₂ (λ (x : ℕ) (z : List ℕ). UpTo (R (suc i) x) top z) (sym half) (rw (s, ← drop-drop 130 first l))
            (f.row.at (suc i) (omega arith) (omega (arith, half)));
        above_room = λ two low. omega (arith, r.above_room i (omega (arith, third)), f.same, length-drop first l);
        above_is = λ two low.
            let s : up + first ≡ first + up = omega arith in
            subst₂ (λ (x : ℕ) (z : List ℕ). UpTo (above i x) top z) third
            (rw (← f.later, drop-drop first up l, s, ← drop-drop up first l))
            (r.above_is.at i (omega arith) (omega (arith, third)));
      })

  -- It comes back filled.
  pub column_more : (part : List ℕ) → Filled (R i rest) top (mid_of first (length l - first) l) part
      → RowFilled R m up top i entry (put_mid first (length l - first) l part)
  column_more part g =
      record {
        row = record { at = λ j p s. ⊎_elim (λ (q : i ≡ j). here j q) (λ (q : i < j). there j q s) (eq-or-lt_of_le p) };
        same = same_len_mid first (length l - first) l part g.same ∙ f.same;
        later = kept_behind first l within 130 up part g.later (omega (arith, r.room i left)) ∙ f.later;
      }
    where
      within : first ≤ length l
      within = omega (arith, column_room)

      l' : List ℕ
      l' = put_mid first (length l - first) l part

      here : (j : ℕ) → i ≡ j → UpTo (R j (m / 2 ^ j)) top (drop (130 * j) l')
      here j q = rw (← q, part_back first l within part) g.below

      there : (j : ℕ) → i < j → 1 ≤ m / 2 ^ j → UpTo (R j (m / 2 ^ j)) top (drop (130 * j) l')
      there j q s = rw (kept_behind first l within 130 (130 * j) part g.later (omega arith)) (f.row.at j (omega arith) s)

-- ---- how wide the rows are

pub start_next : (b : ℕ) → start (suc b) ≡ start b + width b
unfolding start
start_next b = refl

pub start_last : start 41 ≡ 1344
unfolding start width
start_last = refl

pub start_mono : (b j : ℕ) → b ≤ j → start b ≤ start j
start_mono b zero h = omega (arith, ap start {x = b} {y = 0} (omega arith))
start_mono b (suc j) h =
    ⊎_elim
    (λ (e : b ≡ suc j). omega (arith, ap start e))
    (λ (l : b < suc j). omega (arith, start_next j, start_mono b j (omega arith)))
    (eq-or-lt_of_le h)

pub start_low : (b : ℕ) → b ≤ 41 → start b ≤ 1344
start_low b h = omega (arith, start_last, start_mono b 41 h)

-- The first point behind a row is not below 2^64: tested once for all rows.
unfoldable wide : ℕ → Bool
wide b = leb (2 ^ 64) (2 ^ width b * 3 ^ b)

all_wide : T (below 41 wide)
unfolding below wide width
all_wide = tt

-- So each point with something left is within its row.
pub point_within : (n a b : ℕ) → n < 2 ^ 64 → b < 41 → 1 ≤ n / 3 ^ b / 2 ^ a → a < width b
unfolding wide
point_within n a b h k left =
    let x : 1 * 2 ^ a ≤ n / 3 ^ b = (le-div_iff_mul-le (pow_pos a)).0 left in
    let v : 2 ^ a * 3 ^ b ≤ n = (le-div_iff_mul-le (one-le-pow b 3 (omega arith))).0 (omega arith) in
    let w : 2 ^ 64 ≤ 2 ^ width b * 3 ^ b = leb→le (2 ^ 64) (2 ^ width b * 3 ^ b) (at_below 41 wide all_wide b k) in
    lt_of_not-le (λ g. omega (arith, mul-le-mul_right (3 ^ b) (pow_mono g)))

-- A power of three is below 2^64 in each row.
pub three_fits : (b : ℕ) → b < 41 → 3 ^ b < 2 ^ 64
three_fits b h = let p : 3 ^ b ≤ 3 ^ 40 = pow-le-pow_right {n = 3} (omega arith) {i = b} {j = 40} (omega arith) in omega arith

-- ---- the table

pub rows_none : (G : ℕ → Row) (n top : ℕ) (l : List ℕ) → TableFilled G n top 41 l l
rows_none G n top l = record { rows = record { row = λ i h k. absurd (omega arith) }; used = used_none }

-- Row i is next, where those from k = i + 1 on are filled. It begins at `first`, its rest is m, it has `up` numbers, and `r` stand from
-- there on.
module _ {G : ℕ → Row} {n top : ℕ} {entry l : List ℕ} (small : n < 2 ^ 64) (size : table_size ≤ length entry) (i k : ℕ) (e : k ≡ suc i)
    (h : k ≤ 41) (f : TableFilled G n top k entry l) where
  ends : (start (suc i) ≡ start i + width i) × (start (suc i) ≤ 1344)
  ends = (start_next i, start_low (suc i) (omega arith))

  pub row_room : 130 * start i + 130 * width i ≤ length l
  row_room = omega (arith, ends, f.used.same)

  module _ (first m up : ℕ) {r : ℕ} (place : first ≡ 130 * start i) (is : m ≡ n / 3 ^ i) (has : up ≡ 130 * width i)
      (behind : r ≡ length l - first) where
    within : first ≤ length l
    within = omega (arith, row_room)

    above : m / 3 ≡ n / 3 ^ suc i
    above = rw is (row_above n i)

    above_within : (a : ℕ) → 1 ≤ m / 3 / 2 ^ a → (suc i < 41) × (a < width (suc i))
    above_within a left =
        let p : 1 ≤ n / 3 ^ suc i / 2 ^ a = rw (← above) left in
        let q : suc i < 41 = (point_bounds n a (suc i) small p).1 in
        (q, point_within n a (suc i) small q p)

    -- The part that it is lent.
    pub row_lent : RowLent (G (suc i)) m up top (mid_of first r l)
    row_lent =
        rw (behind, part_lent first l within)
        (record {
          room = λ a left.
              let w = point_within n a i small (omega arith) (rw (← is) left) in omega (arith, row_room, length-drop first l);
          above_room = λ a left.
              let w = above_within a left in
              omega
              (arith, row_room, length-drop first l, f.used.same, ends, start_next (suc i), start_low (suc (suc i)) (omega arith));
          above_is = record {
            at = λ a z left.
                let w = above_within a left in
                let s : 130 * start (suc i) ≡ first + up = omega (arith, ends) in
                subst₂ (λ (x : ℕ) (z : List ℕ). UpTo (G (suc i) a (x / 2 ^ a)) top (drop (130 * a) z))
                (sym above) (rw (s, ← drop-drop up first l))
                ((f.rows.row (suc i) (omega arith) w.0).at a z (rw (← above) left));
          };
        })

    -- It comes back filled.
    pub row_more : (part : List ℕ) → RowFilled (G i) m up top 0 (mid_of first r l) part
        → TableFilled G n top i entry (put_mid first r l part)
    row_more part g' =
        rw behind
        (record {
          rows = record { row = λ j p q. ⊎_elim (λ (s : i ≡ j). here j s) (λ (s : i < j). there j s q) (eq-or-lt_of_le p) };
          used = record {
            same = same_len_mid first (length l - first) l part g.same ∙ f.used.same;
            later = kept_behind first l within up table_size part g.later (omega (arith, ends)) ∙ f.used.later;
          };
        })
      where
        g : RowFilled (G i) m up top 0 (mid_of first (length l - first) l) part
        g = rw behind at g'

        l' : List ℕ
        l' = put_mid first (length l - first) l part

        here : (j : ℕ) → i ≡ j → RowFrom (G j) (n / 3 ^ j) top 0 (drop (130 * start j) l')
        here j s = rw (← s, ← place, ← is, part_back first l within part) g.row

        there : (j : ℕ) → i < j → j < 41 → RowFrom (G j) (n / 3 ^ j) top 0 (drop (130 * start j) l')
        there j s q =
            rw (kept_behind first l within up (130 * start j) part g.later (omega (arith, ends, start_mono (suc i) j s)))
            (f.rows.row j (omega arith) q)

-- ---- reading a cell

-- At the point (a, b), where something is left.
module _ {G : ℕ → Row} {n top j : ℕ} {l : List ℕ} (r : RowsFrom G n top j l) (a b k : ℕ) (from : j ≤ b) (low : b < 41)
    (left : 1 ≤ n / 3 ^ b / 2 ^ a) (h : k < top) where
  abbrev place : ℕ
  place = 130 * (start b + a)

  cell : UpTo (G b a (n / 3 ^ b / 2 ^ a)) top (drop place l)
  cell =
      let s : place ≡ 130 * start b + 130 * a = omega arith in
      rw (s, ← drop-drop (130 * a) (130 * start b) l) ((r.row b from low).at a (omega arith) left)

  pub read_free : get_or l (place + k) 0 ≡ G b a (n / 3 ^ b / 2 ^ a) true k
  read_free = sym (get_or-drop place l k 0) ∙ cell.free k h

  pub read_after : get_or l (place + 65 + k) 0 ≡ G b a (n / 3 ^ b / 2 ^ a) false k
  read_after =
      let s : place + 65 + k ≡ place + (65 + k) = omega arith in
      rw s (sym (get_or-drop place l (65 + k) 0) ∙ cell.after_a k h)
