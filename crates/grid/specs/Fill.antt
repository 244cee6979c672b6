-- How a row and the rows of a number are filled and read, over any meaning of their cells.
--
-- In this order: a row, from the column behind the last down, one store a column, and the row above while it is filled over; the
-- rows, from the row behind the last down, each in the part of the scratch that begins at it; reading a cell.
use Rattle.std.specs.Prelude.{◌≡◌, refl, List, ℕ, suc, ◌+◌, ◌-◌, ◌*◌, ◌^◌, ◌/◌, ◌≤◌, ◌<◌, max, length, get_or, drop, set}
use Rattle.std.proofs.Common.{sym, ap, ◌∙◌, subst, ⊎_elim, eq-or-lt_of_le, lt_of_not-le, arith, length-set, length-drop, get_or-set_same, get_or-set_other, drop-set-lt, get_or-drop, drop-drop}
use borrow.Rule.Slice.PartMut.{mid_of, put_mid, same_len_mid, mid_len, drop_put}
use Rattle.lent.specs.Lent.{scratch_size}
use Rattle.lent.specs.Parts.{part_lent, part_back, number_back, kept_behind}
use Rattle.grid.specs.Grid.{Meaning, Row, RowAsked, RowFilled, Ahead, row_place, rests_place, rests_of, live_rows, RowsFrom, RowsFilled, rest_at}
use Rattle.grid.specs.Rests.{row_above, row_dead, rest_dead, third_of_rest, length_rests, rests_at, live_dead, live_few}

-- ---- the row above

pub ahead_all : (up k : ℕ) (entry : List ℕ) → Ahead up k entry entry
ahead_all up k entry = record { unread = λ i h. refl }

-- Column j is filled next.
pub ahead_still : {up j k : ℕ} {entry part : List ℕ} (x : ℕ) → (0 < up → 64 ≤ up) → k ≡ suc j → k ≤ 64 → Ahead up k entry part
    → Ahead up j entry (set part j x)
ahead_still {up} {j} {k} {entry} {part} x apart e h a =
    record {
      unread = λ i l.
          get_or-set_other part j (up + i) x 0 (λ s. omega (arith, apart (omega arith))) ∙ a.unread i (omega arith);
    }

module _ (G : Meaning) where
  -- ---- a row

  -- Where nothing is left from column j on, nothing is to be filled there.
  pub dead_columns : (b m j : ℕ) (part : List ℕ) → m < 2 ^ j → RowFilled G b m j part part
  dead_columns b m j part h =
      record { row = record { cell = λ i l u s. absurd (omega (arith, rest_dead m j i h l)) }; same = refl; later = refl }

  -- One column more: j, where those from k = j + 1 on are filled.
  pub column : {b m j k : ℕ} {entry part : List ℕ} (x : ℕ) → k ≡ suc j → k ≤ 64 → 64 ≤ length entry
      → G j b (m / 2 ^ j) x → RowFilled G b m k entry part → RowFilled G b m j entry (set part j x)
  column {b} {m} {j} {k} {entry} {part} x e h g right f =
      record {
        row = record { cell = at };
        same = length-set part j x ∙ f.same;
        later = drop-set-lt 64 part j x (omega arith) ∙ f.later;
      }
    where
      at : (i : ℕ) → j ≤ i → i < 64 → 1 ≤ m / 2 ^ i → G i b (m / 2 ^ i) (get_or (set part j x) i 0)
      at i l u left =
          ⊎_elim
          (λ (s : j ≡ i). subst (λ (c : ℕ). G c b (m / 2 ^ c) (get_or (set part j x) c 0)) s
          (rw (get_or-set_same part j x 0 (omega (arith, f.same))) right))
          (λ (s : j < i). rw (get_or-set_other part j i x 0 (omega arith)) (f.row.cell i (omega arith) u left))
          (eq-or-lt_of_le l)

  -- A row filled from j on, and then further: what stood there between counts no more.
  pub filled_on : {b m j k : ℕ} {entry between part : List ℕ}
      → RowFilled G b m j entry between → RowFilled G b m k between part → RowFilled G b m k entry part
  filled_on f g = record { row = g.row; same = g.same ∙ f.same; later = g.later ∙ f.later }

  -- A number of the row above that is not filled over yet, where something is left.
  pub read_above : {b m q up k : ℕ} {entry part : List ℕ} (a : ℕ) → RowAsked G b m q up entry → Ahead up k entry part → a < k
      → a < 64 → 1 ≤ q / 2 ^ a → G a (suc b) (q / 2 ^ a) (get_or part (up + a) 0)
  read_above {up = up} {entry = entry} a r h l u left =
      rw (h.unread a l, ← get_or-drop up entry a 0) (r.above.cell a (omega arith) u left)

  -- The last live column may be filled over the row above: nothing is left there.
  pub asked_top : {b m q up top : ℕ} {part : List ℕ} (x : ℕ) → RowAsked G b m q up part → m / 2 ^ top ≡ 1 → top < 64
      → RowAsked G b m q up (set part top x)
  asked_top {b} {m} {q} {up} {top} {part} x r one h =
      record {
        third = r.third;
        room = omega (arith, r.room, length-set part top x);
        apart = r.apart;
        above = record {
          cell = λ i l u left.
              rw (get_or-drop up (set part top x) i 0, get_or-set_other part top (up + i) x 0 (λ e. other i u left e), ← get_or-drop up part i 0)
              (r.above.cell i l u left);
        };
      }
    where
      other : (i : ℕ) → i < 64 → 1 ≤ q / 2 ^ i → up + i ≡ top → ⊥
      other i u left e =
          let z : up ≡ 0 = omega (arith, lt_of_not-le (λ (p : 1 ≤ up). omega (arith, r.apart p))) in
          let s : i ≡ top = omega arith in
          let d : m / 2 ^ i / 3 ≡ 0 = rw (s, one) in
          omega (arith, rw (r.third, third_of_rest m i) at left)

-- ---- the rows

module _ (first keep : ℕ) (G : Meaning) (fit : first + 64 * keep ≤ 384) where
  abbrev place : ℕ → ℕ
  place b = row_place first keep b

  -- Where nothing is left in row k, nothing is to be filled there and above.
  none_from : {n k : ℕ} {l : List ℕ} → n / 3 ^ k ≡ 0 → scratch_size ≤ length l
      → ((j : ℕ) → j < 42 → get_or l (rests_place + j) 0 ≡ n / 3 ^ j) → RowsFrom first keep G n k l
  none_from {n} {k} dead size rests =
      record {
        size = size;
        rests = rests;
        row = λ j p q.
            record {
              cell = λ i u v left.
                  absurd (omega (arith, rest_dead 0 0 i (omega arith) (omega arith), rw (row_dead n k j dead p) at left));
            };
      }

  -- The rests are put into their block, which is lent on and comes back as ys.
  none_filled : {n k : ℕ} {l ys : List ℕ} → scratch_size ≤ length l → n / 3 ^ k ≡ 0
      → ys ≡ rests_of n (length (mid_of rests_place 42 l)) → RowsFilled first keep G n k l (put_mid rests_place 42 l ys)
  none_filled {n} {k} {l} {ys} size dead e =
      record {
        rows = none_from dead (omega (arith, same)) there;
        used = record { same = same; later = drop_later };
      }
    where
      part : length (mid_of rests_place 42 l) ≡ 42
      part = mid_len rests_place 490 l (omega arith)

      long : length ys ≡ 42
      long = rw (e, length_rests) part

      same : length (put_mid rests_place 42 l ys) ≡ length l
      same = same_len_mid rests_place 42 l ys (long ∙ sym part)

      later : drop 490 (put_mid rests_place 42 l ys) ≡ drop 490 l
      later = drop_put rests_place 490 l ys (omega arith) (omega arith) long

      drop_later : drop scratch_size (put_mid rests_place 42 l ys) ≡ drop scratch_size l
      drop_later = sym (drop-drop 22 490 (put_mid rests_place 42 l ys)) ∙ rw later (drop-drop 22 490 l)

      there : (j : ℕ) → j < 42 → get_or (put_mid rests_place 42 l ys) (rests_place + j) 0 ≡ n / 3 ^ j
      there j h =
          number_back rests_place l (omega arith) 42 j ys (omega (arith, long))
          ∙ rw (e, part) (rests_at n 42 j h)

  -- What `put_rests` tells and leaves there: the rows from r on have nothing to fill.
  module _ {n r : ℕ} (l : List ℕ) {ys : List ℕ} (size : scratch_size ≤ length l) (fits : n < 2 ^ 64)
      (told : r ≡ live_rows n (length (mid_of rests_place 42 l))) (put : ys ≡ rests_of n (length (mid_of rests_place 42 l))) where
    rows_told : r ≡ live_rows n 42
    rows_told = told ∙ ap (live_rows n) (mid_len rests_place 490 l (omega arith))

    pub rows_few : r ≤ 41
    rows_few = omega (arith, rows_told, live_few n 42 41 (omega arith))

    pub rows_none : n / 3 ^ r ≡ 0
    rows_none = rw rows_told (live_dead n 42 (omega arith))

    pub rows_begin : (k : ℕ) → r ≤ k → RowsFilled first keep G n k l (put_mid rests_place 42 l ys)
    rows_begin k h = none_filled size (row_dead n r k rows_none h) put

  -- Row k, where those from k + 1 on are filled. Its part of the scratch begins at `here`.
  module _ {n k here : ℕ} {l : List ℕ} (f : RowsFrom first keep G n (suc k) l) (h : k < 41) (e : here ≡ place k) where
    within : here ≤ length l
    within = omega (arith, f.size)

    own_rest : get_or l (rests_place + k) 0 ≡ n / 3 ^ k
    own_rest = f.rests k (omega arith)

    above_rest : get_or l (rests_place + 1 + k) 0 ≡ n / 3 ^ suc k
    above_rest =
        let i : rests_place + 1 + k ≡ rests_place + suc k = omega arith in
        rw i (f.rests (suc k) (omega arith))

    -- What the step is lent, where the row above stands `up` behind.
    pub row_lent : {up : ℕ} → up + here ≡ place (suc k)
        → RowAsked G k (get_or l (rests_place + k) 0) (get_or l (rests_place + 1 + k) 0) up (mid_of here (length l - here) l)
    row_lent {up} d =
        rw (own_rest, above_rest, part_lent here l within)
        (record {
          third = sym (row_above n k);
          room = omega (arith, f.size, length-drop here l);
          apart = λ s. omega arith;
          above =
              let at : here + up ≡ place (suc k) = omega arith in
              rw (drop-drop up here l, at) (f.row (suc k) (omega arith) (omega arith));
        })

    -- Row k, filled there, and those above it as they were.
    module _ {part : List ℕ} (g : RowFilled G k (get_or l (rests_place + k) 0) 0 (mid_of here (length l - here) l) part) where
      abbrev l' : List ℕ
      l' = put_mid here (length l - here) l part

      same : length l' ≡ length l
      same = same_len_mid here (length l - here) l part g.same

      pub row_behind : (i : ℕ) → here + 64 ≤ i → drop i l' ≡ drop i l
      row_behind i p = kept_behind here l within 64 i part g.later p

      pub row_more : RowsFilled first keep G n k l l'
      row_more =
          record {
            rows = record {
              size = omega (arith, f.size, same);
              rests = λ j p.
                  sym (get_or-drop rests_place l' j 0) ∙ rw (row_behind rests_place (omega arith)) (get_or-drop rests_place l j 0 ∙ f.rests j p);
              row = λ j p q. ⊎_elim (λ (s : k ≡ j). own j s) (λ (s : k < j). other j s q) (eq-or-lt_of_le p);
            };
            used = record { same = same; later = row_behind scratch_size (omega arith) };
          }
        where
          own : (j : ℕ) → k ≡ j → Row G j (n / 3 ^ j) (drop (place j) l')
          own j s = rw (← s, ← e, part_back here l within part, ← own_rest) g.row

          other : (j : ℕ) → k < j → j ≤ max k keep → Row G j (n / 3 ^ j) (drop (place j) l')
          other j s q = rw (row_behind (place j) (omega arith)) (f.row j (omega arith) (omega arith))

  -- Without row k.
  pub rows_but_one : {n k : ℕ} {l : List ℕ} → RowsFrom first keep G n k l → k < keep → RowsFrom first keep G n (suc k) l
  rows_but_one r h = record { size = r.size; rests = r.rests; row = λ j p q. r.row j (omega arith) (omega arith) }

  -- A number between the rows and the rests is stored.
  pub rows_set : {n k : ℕ} {l : List ℕ} (i x : ℕ) → RowsFrom first keep G n k l → first + 64 * keep + 64 ≤ i → i < rests_place
      → RowsFrom first keep G n k (set l i x)
  rows_set {l = l} i x r h u =
      record {
        size = omega (arith, r.size, length-set l i x);
        rests = λ j p. get_or-set_other l i (rests_place + j) x 0 (omega arith) ∙ r.rests j p;
        row = λ j p q.
            record {
              cell = λ a v w left.
                  rw (
                    get_or-drop (place j) (set l i x) a 0,
                    get_or-set_other l i (place j + a) x 0 (omega arith),
                    ← get_or-drop (place j) l a 0,
                  )
                  ((r.row j p q).cell a v w left);
            };
      }

  -- ---- reading

  pub read_cell : {n k : ℕ} {l : List ℕ} (a b : ℕ) → RowsFrom first keep G n k l → k ≤ b → b ≤ max k keep → a < 64
      → 1 ≤ rest_at n a b → G a b (rest_at n a b) (get_or l (place b + a) 0)
  read_cell {l = l} a b t hk hb ha left = rw (← get_or-drop (place b) l a 0) ((t.row b hk hb).cell a (omega arith) ha left)
