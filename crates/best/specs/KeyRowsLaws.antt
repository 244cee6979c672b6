-- How the rows of keys are filled.
--
-- In this order: a run of cells with no word; the columns of a row below one that is filled; columns outside the grid; the end of a
-- row, within the limit on doublings or behind it; the rows in the scratch. The laws over any meaning are in grid, Fill.
use Rattle.std.specs.Prelude.{◌≡◌, ℕ, suc, ◌+◌, ◌-◌, ◌*◌, ◌/◌, ◌%◌, ◌^◌, ◌<◌, ◌≤◌, min, Bool, true, false, ◌⊎◌, List, length, slice_index, slice_index_or, slice_set, refl}
use Rattle.std.proofs.Common.{sym, ◌∙◌, inl, inr, ⊎_elim, eq-or-lt_of_le, le-div_iff_mul-le, le_trans, lt_of_not-le, pow-suc, div-one, one-add, arith, length-set, length-drop, pow_mono, pow_pos, shr-shr, get_or-set_same, get_or-set_other, drop-set-lt, get_or-drop, replicate, rules}
use Rattle.std.proofs.Math.Nat.{sub-zero, sub_self}
use borrow.Rule.Slice.PartMut.{mid_of, put_mid, same_len_mid}
use Rattle.std.specs.Int.Count.{count_leading_zeros}
use Rattle.std.proofs.lemmas.Nat.{leading_top}
use Rattle.std.proofs.lemmas.Slice.{drop-put_mid}
use Rattle.std.proofs.lemmas.List.{length-replicate, length-take, places}
use Rattle.lent.specs.Lent.{scratch_size}
use Rattle.grid.specs.Grid.{Meaning, RowFilled, RowsFilled, row_place, rests_place, rests_of, live_rows}
use Rattle.grid.specs.Rests.{half_of_rest, third_of_rest, rest_dead, rest_at_top, row_dead}
use Rattle.grid.specs.Masks.{ones_of, twos_of}
use Rattle.grid.specs.MaskLaws.{ones_bit, twos_bit}
use Rattle.grid.specs.Fill.{dead_columns, column, filled_on, rows_few, rows_none, rows_begin, row_lent, row_behind, row_more, rows_set}
use Rattle.best.specs.KeyTable.{no_key, Low, key_cell, Uncut, free_key, pick, less, turn_at, Turns}
use Rattle.best.specs.KeyTableLaws.{cell_outside, cell_at_1, pick_low, less_low, free_by_bits, after_by_bits, turn_by_bits}
use Rattle.best.specs.KeyRows.{NoKeys, BelowAsked, Below, BelowFilled, row_of, LiveRow, RowOfKeys, RowTold}
use Rattle.best.specs.KeyRows.{KeysFrom, KeysFilled, KeysAsked}

-- ---- a run with no word

-- It is one cell longer.
pub none_more : {from i : ℕ} {entry l : List ℕ} → NoKeys from i entry l → from ≤ i → i < 64 → i < length l
    → NoKeys from (i + 1) entry (slice_set l i no_key)
none_more {from} {i} {entry} {l} n g h k =
    record {
      keys = λ j p q.
          ⊎_elim (λ (e : j ≡ i). rw e (get_or-set_same l i no_key 0 k))
          (λ (s : j < i). get_or-set_other l i j no_key 0 (omega arith) ∙ n.keys j p s)
          (eq-or-lt_of_le (let l : j ≤ i = omega arith in l));
      before = λ j p. get_or-set_other l i j no_key 0 (omega arith) ∙ n.before j p;
      same = length-set l i no_key ∙ n.same;
      later = drop-set-lt 64 l i no_key h ∙ n.later;
    }

-- Its cells are filled with the key of no word, all at once.
pub none_from : (from end : ℕ) (l : List ℕ) {ys : List ℕ} → ys ≡ replicate (length (mid_of from (end - from) l)) no_key
    → from ≤ end → end ≤ 64 → 64 ≤ length l → NoKeys from end l (put_mid from (end - from) l ys)
none_from from end l e h k room =
    let size : length (mid_of from (end - from) l) ≡ end - from = simp (length-take, length-drop) (omega arith) in
    rw (e, size)
    (record {
      keys = λ i p q. search (rules, places);
      before = λ i p. search (rules, places);
      same = same_len_mid from (end - from) l _ (length-replicate (end - from) no_key ∙ sym size);
      later = drop-put_mid from (end - from) l _ 64 (omega arith) (omega arith) (length-replicate (end - from) no_key);
    })

-- ---- the columns below one that is filled

halved : (x d : ℕ) → x / 2 / 2 ^ d ≡ x / 2 ^ suc d
halved x d = shr-shr x 1 d ∙ rw one-add

module _ {costs : List ℕ} {A B b m q start right : ℕ} {entry : List ℕ} (low : Low costs)
    (asked : BelowAsked costs A B b m q start right entry)
  where
    pub below_none : Below costs A B b m start entry entry start right 0
    below_none =
        record {
          filled = record { row = asked.filled; same = refl; later = refl };
          ahead = λ i h. refl;
          number = asked.first;
          within = omega arith;
          turned = λ i h u low. absurd (omega arith);
          few = pow_pos (start - start);
        }

    -- Column j is next.
    module _
        {part : List ℕ} {k after turns : ℕ} (s : Below costs A B b m start entry part k after turns) (j : ℕ) (e : k ≡ suc j)
      where
        abbrev above : ℕ
        above = slice_index part j

        -- The rest, and what a rise of a costs.
        abbrev r : ℕ
        r = m / 2 ^ j

        abbrev c : ℕ
        c = pick (r % 2) (slice_index costs 1) (slice_index costs 0)

        two_left : 2 ≤ r
        two_left =
            let p : 2 ^ suc j ≤ 2 ^ start = pow_mono (omega (arith, s.within)) in
            (le-div_iff_mul-le (pow_pos j)).1 (omega (arith, asked.left, pow-suc 2 j))

        pub below_room : j < length part
        below_room = omega (arith, s.filled.same, asked.room, s.within, asked.last)

        above_is : 3 ≤ r → free_key costs A B j (suc b) (r / 3) above
        above_is three =
            let left : 1 ≤ q / 2 ^ j = rw (asked.third, third_of_rest) (omega arith) in
            let d : q / 2 ^ j ≡ r / 3 = rw (asked.third, third_of_rest) in
            rw (s.ahead j (omega arith), ← d) (asked.above j (omega (arith, s.within)) left)

        after_is : min no_key after ≡ key_cell costs A B (suc j) b false (r / 2)
        after_is = s.number.cut ∙ rw (e, half_of_rest)

        cost_low : (bit x y : ℕ) → pick bit (slice_index costs x) (slice_index costs y) ≤ no_key
        cost_low bit x y = pick_low bit (slice_index costs x) (slice_index costs y) no_key (low.each x) (low.each y)

        -- The number by a rise of a is bounded in its turn,
        half_low : after + c ≤ no_key * (64 - j)
        half_low = omega (arith, s.number.bound, s.within, asked.last, cost_low (r % 2) 1 0)

        pub half_fits : after + c < 2 ^ 47
        half_fits = omega (arith, half_low)

        -- and a sum with the number above wraps only where nothing is left there.
        sum_is : (bit : ℕ) → 3 ≤ r
            → (above + pick bit (slice_index costs 3) (slice_index costs 2)) % 2 ^ 64 ≡ above + pick bit (slice_index costs 3) (slice_index costs 2)
        sum_is bit three = omega (arith, (above_is three).bound, cost_low bit 3 2)

        pub turns_fit : turns < 2 ^ 63
        turns_fit =
            let p : 2 ^ (start - k) ≤ 2 ^ 63 = pow_mono {j = 63} (omega (arith, asked.last)) in
            omega (arith, s.few)

        -- Column j is filled: `half` and `third` are the numbers by a rise of a and by a rise of b, chosen by bits of the masks.
        pub below_more : {half third x next t : ℕ}
            → half ≡ after + c
            → third ≡ pick (twos_of m q / 2 ^ j % 2) no_key
            ((above + pick (ones_of m q / 2 ^ j % 2) (slice_index costs 3) (slice_index costs 2)) % 2 ^ 64)
            → x ≡ min third half
            → next ≡ pick (ones_of m q / 2 ^ j % 2) (min third half) half
            → t ≡ less third half
            → Below costs A B b m start entry (slice_set part j x) j next (turns + turns + t)
        below_more {half} {third} {x} {next} {t} eh et ex en el =
            record {
              filled =
                  column (free_key costs A B) x e (omega (arith, s.within, asked.last)) asked.room
                  (record { cut = free_is; bound = omega (arith, ex, eh, half_low) }) s.filled;
              ahead = λ i o. get_or-set_other part j i x 0 (omega arith) ∙ s.ahead i (omega arith);
              number = record { cut = next_is; bound = next_low };
              within = omega (arith, s.within);
              turned = λ i o u low. ⊎_elim (λ (d : j ≡ i). here i d low) (λ (d : j < i). there i d u low) (eq-or-lt_of_le o);
              few =
                  let up : start - j ≡ suc (start - k) = omega (arith, s.within) in
                  rw (up, pow-suc 2 (start - k)) (omega (arith, s.few, t_low));
            }
          where
            ones : ones_of m q / 2 ^ j % 2 ≡ r % 3 % 2
            ones = rw asked.third (ones_bit m j)

            third_is : third ≡ pick (r % 3 / 2) no_key ((above + pick (r % 3 % 2) (slice_index costs 3) (slice_index costs 2)) % 2 ^ 64)
            third_is = et ∙ rw (ones, asked.third, twos_bit m j)

            free_is : min no_key x ≡ key_cell costs A B j b true r
            free_is =
                rw (ex, eh, third_is)
                (free_by_bits costs A B j b r two_left after above _ after_is (λ three. (above_is three).cut) (sum_is (r % 3 % 2)))

            next_is : min no_key next ≡ key_cell costs A B j b false r
            next_is =
                rw (en, ones, eh, third_is)
                (after_by_bits costs A B j b r two_left after above _ after_is (λ three. (above_is three).cut) (sum_is (r % 3 % 2)))

            turn_is : key_cell costs A B j b true r < no_key → t ≡ turn_at costs A B j b r
            turn_is low =
                rw (el, eh, third_is)
                (turn_by_bits costs A B j b r two_left after above _ after_is (λ three. (above_is three).cut) (sum_is (r % 3 % 2)) low)

            next_low : next ≤ no_key * (64 - j)
            next_low =
                rw en
                (pick_low (ones_of m q / 2 ^ j % 2) (min third half) half (no_key * (64 - j)) (omega (arith, eh, half_low))
                (omega (arith, eh, half_low)))

            t_low : t ≤ 1
            t_low = rw el (less_low third half)

            doubled : (turns + turns + t) / 2 ≡ turns
            doubled = omega (arith, t_low)

            here : (i : ℕ) → j ≡ i → key_cell costs A B i b true (m / 2 ^ i) < no_key
                → (turns + turns + t) / 2 ^ (i - j) % 2 ≡ turn_at costs A B i b (m / 2 ^ i)
            here i d low = rw (← d, sub_self, div-one) (omega (arith, t_low) ∙ turn_is (rw (← d) at low))

            there : (i : ℕ) → j < i → i < start → key_cell costs A B i b true (m / 2 ^ i) < no_key
                → (turns + turns + t) / 2 ^ (i - j) % 2 ≡ turn_at costs A B i b (m / 2 ^ i)
            there i d u low =
                let up : i - j ≡ suc (i - k) = omega arith in
                rw (up, ← halved (turns + turns + t) (i - k), doubled) (s.turned i (omega arith) u low)

pub below_all : {costs : List ℕ} {A B b m start : ℕ} {entry part : List ℕ} {k after turns : ℕ}
    → Below costs A B b m start entry part k after turns → k ≤ 0 → BelowFilled costs A B b m start entry part turns
below_all {k = k} s h =
    let e : k ≡ 0 = omega arith in
    record { filled = rw e at s.filled; turned = λ i u low. rw (e, sub-zero) at (s.turned i (omega arith) u low) }

-- ---- columns outside the grid

-- The columns from k on are outside; `top` is the last one where something is left.
module _ (costs : List ℕ) (A B b m top : ℕ) {entry l : List ℕ} (hi : m < 2 ^ suc top) (last : top < 64) where
  outside_columns : (k : ℕ) → NoKeys k (top + 1) entry l → ((i : ℕ) → k ≤ i → (A < i) ⊎ (B < b))
      → RowFilled (free_key costs A B) b m k entry l
  outside_columns k n o =
      record {
        row = record {
          cell = λ i h u left.
              rw (n.keys i h (omega (arith, live i left)))
              (record { cut = sym (cell_outside costs A B i b true (m / 2 ^ i) left (o i h)); bound = omega arith });
        };
        same = n.same;
        later = n.later;
      }
    where
      live : (i : ℕ) → 1 ≤ m / 2 ^ i → i ≤ top
      live i left =
          let low : i < suc top = lt_of_not-le (λ (g : suc top ≤ i). omega (arith, rest_dead m (suc top) i hi g)) in
          omega arith

  -- The row is above the limit on triplings.
  pub outside_row : NoKeys 0 (top + 1) entry l → B < b → RowTold costs A B b m entry l 0
  outside_row n k =
      record {
        filled = outside_columns 0 n (λ i h. inr k);
        told = record {
          turn = λ i u two low. absurd (omega (arith, cell_outside costs A B i b true (m / 2 ^ i) (omega arith) (inr k)));
        };
      }

-- ---- the end of a row

module _ {costs : List ℕ} {A B b m q top : ℕ} {entry : List ℕ} (asked : LiveRow costs A B b m q top entry) where
  -- What the columns below `start` ask, where those from there on are filled.
  below_from : {start right : ℕ} (l : List ℕ) → RowFilled (free_key costs A B) b m start entry l
      → ((i : ℕ) → i < start → slice_index l i ≡ slice_index entry i) → start < 64 → 2 ^ start ≤ m
      → Uncut (key_cell costs A B start b false (m / 2 ^ start)) start right → BelowAsked costs A B b m q start right l
  below_from l f before h left first =
      record {
        third = asked.asked.third;
        room = omega (arith, asked.asked.room, f.same);
        above = λ i o s. rw (before i o) (asked.asked.above.cell i (omega arith) (omega arith) s);
        last = h;
        left = left;
        filled = f.row;
        first = first;
      }

  -- What they leave is the row.
  row_told : {start turns : ℕ} {l part : List ℕ} → RowFilled (free_key costs A B) b m start entry l
      → BelowFilled costs A B b m start l part turns
      → ((i : ℕ) → 2 ≤ m / 2 ^ i → key_cell costs A B i b true (m / 2 ^ i) < no_key → i < start)
      → RowTold costs A B b m entry part turns
  row_told f g short =
      record {
        filled = filled_on (free_key costs A B) f g.filled;
        told = record { turn = λ i u two low. g.turned i (short i two low) low };
      }

  -- The row ends within the limit on doublings.
  module _ (low : Low costs) (a : top ≤ A) where
    abbrev end : ℕ
    end = slice_index costs 4

    one : (f : Bool) → Uncut (key_cell costs A B top b f (m / 2 ^ top)) top end
    one f =
        record {
          cut = rw (rest_at_top m top asked.lo asked.hi)
              (omega (arith, low.each 4) ∙ sym (cell_at_1 costs A B top b f low a asked.within));
          bound = omega (arith, low.each 4, asked.last);
        }

    end_within : RowFilled (free_key costs A B) b m top entry (slice_set entry top end)
    end_within =
        column (free_key costs A B) end refl asked.last (omega (arith, asked.asked.room)) (one true)
        (dead_columns (free_key costs A B) b m (suc top) entry asked.hi)

    pub within_asked : BelowAsked costs A B b m q top end (slice_set entry top end)
    within_asked =
        below_from (slice_set entry top end) end_within (λ i o. get_or-set_other entry top i end 0 (omega arith)) asked.last asked.lo
        (one false)

    pub within_told : {part : List ℕ} {turns : ℕ} → BelowFilled costs A B b m top (slice_set entry top end) part turns
        → RowTold costs A B b m entry part turns
    within_told f = row_told end_within f (λ i two low. lt_of_not-le (λ (g : top ≤ i). behind i two g))
      where
        behind : (i : ℕ) → 2 ≤ m / 2 ^ i → top ≤ i → ⊥
        behind i two g =
            let p : 2 ^ suc top ≤ 2 ^ suc i = pow_mono (omega arith) in
            let k : 2 * 2 ^ i ≤ m = (le-div_iff_mul-le (pow_pos i)).0 two in
            omega (arith, asked.hi, pow-suc 2 i)

  -- It ends behind the limit: `start` is the first column outside.
  module _ (start : ℕ) {l : List ℕ} (e : start ≡ A + 1) (a : start ≤ top) (n : NoKeys start (top + 1) entry l) where
    end_beyond : RowFilled (free_key costs A B) b m start entry l
    end_beyond = outside_columns costs A B b m top asked.hi asked.last start n (λ i g. inl (omega arith))

    pub beyond_asked : BelowAsked costs A B b m q start no_key l
    beyond_asked =
        let lo : 2 ^ start ≤ m = le_trans (pow_mono a) asked.lo in
        let left : 1 ≤ m / 2 ^ start = (le-div_iff_mul-le (pow_pos start)).1 (omega arith) in
        below_from l end_beyond n.before (omega (arith, asked.last)) lo
        (record {
          cut = sym (cell_outside costs A B start b false (m / 2 ^ start) left (inl (omega arith)));
          bound = omega (arith, asked.last);
        })

    pub beyond_told : {part : List ℕ} {turns : ℕ} → BelowFilled costs A B b m start l part turns
        → RowTold costs A B b m entry part turns
    beyond_told f =
        row_told end_beyond f
        (λ i two low. lt_of_not-le
        (λ (g : start ≤ i). omega (arith, cell_outside costs A B i b true (m / 2 ^ i) (omega arith) (inl (omega arith)))))

-- Nothing is left in the row.
no_turns : (costs : List ℕ) (A B b m turns : ℕ) → m ≡ 0 → Turns costs A B b m turns
no_turns costs A B b m turns e =
    record { turn = λ i u two low. absurd (omega (arith, rest_dead m 0 i (omega arith) (omega arith))) }

pub no_row : (costs : List ℕ) (A B b m : ℕ) (l : List ℕ) → m ≡ 0 → RowTold costs A B b m l l 0
no_row costs A B b m l e =
    record { filled = dead_columns (free_key costs A B) b m 0 l (omega arith); told = no_turns costs A B b m 0 e }

-- The column in which the rest is 1: the highest set digit of m.
pub top_of_lem : (m : ℕ) → 1 ≤ m → m < 2 ^ 64
    → (count_leading_zeros 64 m ≤ 63) × (2 ^ (63 - count_leading_zeros 64 m) ≤ m) × (m < 2 ^ suc (63 - count_leading_zeros 64 m))
top_of_lem m h k =
    let t = leading_top 64 m h k in
    let e : 63 - count_leading_zeros 64 m ≡ t.0 = omega (arith, t.1) in
    (omega (arith, t.1), rw e t.2, rw e t.3)

-- ---- the rows in the scratch

-- The rests are put, and in k rows something is left.
pub keys_none : {costs : List ℕ} {A B n k : ℕ} {l ys : List ℕ} → n < 2 ^ 64 → scratch_size ≤ length l
    → k ≡ live_rows n (length (mid_of rests_place 42 l)) → ys ≡ rests_of n (length (mid_of rests_place 42 l))
    → KeysFilled costs A B n k l (put_mid rests_place 42 l ys) × (k ≤ 41)
keys_none {costs} {A} {B} {n} {k} {l} fits h live e =
    let G = free_key costs A B in
    let r = rows_begin 64 0 G (omega arith) l h fits live e k (omega arith) in
    let dead = rows_none 64 0 G (omega arith) l h fits live e in (
      record {
        keys = record { rows = r.rows; turns = λ b p u. no_turns costs A B b (n / 3 ^ b) _ (row_dead n k b dead p) };
        used = r.used;
      },
      rows_few 64 0 G (omega arith) l h fits live e,
    )

-- The row below those that are filled is next.
pub keys_next : {costs : List ℕ} {A B n k : ℕ} {l : List ℕ} → KeysFrom costs A B n k l → 0 < k → k ≤ 41
    → KeysAsked costs A B n (k - 1) l
keys_next {k = k} f some last = let e : suc (k - 1) ≡ k = omega arith in record { keys = rw e f; last = omega arith }

module _ {costs : List ℕ} {A B n k : ℕ} {l : List ℕ} {r : ℕ} (asked : KeysAsked costs A B n k l) (behind : r ≡ length l - 64) where
  abbrev G : Meaning
  G = free_key costs A B

  at : 64 ≡ row_place 64 0 k
  at = omega arith

  pub keys_lent : RowOfKeys costs A B k (row_of l k).m (row_of l k).q (mid_of 64 r l)
  keys_lent = rw behind (row_lent 64 0 G (omega arith) asked.keys.rows asked.last at (omega arith))

  module _ {part : List ℕ} {x : ℕ} (t : RowTold costs A B k (row_of l k).m (mid_of 64 r l) part x) where
    abbrev l' : List ℕ
    l' = put_mid 64 r l part

    more : RowsFilled 64 0 G n k l l'
    more = rw behind (row_more 64 0 G (omega arith) asked.keys.rows asked.last at (rw behind at t.filled))

    pub keys_room : scratch_size ≤ length l'
    keys_room = more.rows.size

    pub keys_more : KeysFilled costs A B n k l (slice_set l' (128 + k) x)
    keys_more =
        record {
          keys = record {
            rows = rows_set 64 0 G (omega arith) (128 + k) x more.rows (omega arith) (omega (arith, asked.last));
            turns = λ b h u. ⊎_elim (λ (e : k ≡ b). here b e) (λ (s : k < b). there b s u) (eq-or-lt_of_le h);
          };
          used = record {
            same = length-set l' (128 + k) x ∙ more.used.same;
            later = drop-set-lt scratch_size l' (128 + k) x (omega (arith, asked.last)) ∙ more.used.later;
          };
        }
      where
        own : slice_index_or l (448 + k) 0 ≡ n / 3 ^ k
        own = asked.keys.rows.rests k (omega (arith, asked.last))

        here : (b : ℕ) → k ≡ b → Turns costs A B b (n / 3 ^ b) (slice_index (slice_set l' (128 + k) x) (128 + b))
        here b e =
            rw (← e, get_or-set_same l' (128 + k) x 0 (omega (arith, keys_room, asked.last)))
            (rw own at t.told)

        there : (b : ℕ) → k < b → b < 41 → Turns costs A B b (n / 3 ^ b) (slice_index (slice_set l' (128 + k) x) (128 + b))
        there b s u =
            rw (
              behind,
              get_or-set_other _ (128 + k) (128 + b) x 0 (omega arith),
              ← get_or-drop 128 (put_mid 64 (length l - 64) l part) b 0,
              row_behind 64 0 G (omega arith) asked.keys.rows asked.last at (rw behind at t.filled) 128 (omega arith),
              get_or-drop 128 l b 0,
            )
            (asked.keys.turns b (omega arith) u)
