-- The parts of a chain from its rows: why `tell_row` and `tell_rows` are right. The definitions are in Telling.
-- In this order: the parts of a row; that those of a chain's rows are the chain; numbers put in places; those of a row; those of all rows.
use Rattle.std.specs.Prelude.{◌≡◌, refl, List, [], ◌∷◌, ◌++◌, map, ℕ, zero, suc, ◌≤◌, ◌<◌, ◌*◌, ◌+◌, ◌-◌, ◌^◌, ◌%◌, get_or, length, set, drop}
use Rattle.std.proofs.Common.{ap, sym, ◌∙◌, pow-suc, arith, length-append, length-set, take-append-drop, pow_pos, pow_mono, le-leb}
use Rattle.std.proofs.lemmas.List.{map-append, length-map}
use Rattle.std.proofs.Math.Decide.{dec_lt}
use Rattle.std.specs.Int.Count.{count_leading_zeros, ones}
use Rattle.std.proofs.lemmas.Nat.{leading_top, ones_cat}
use Rattle.std.proofs.lemmas.List.Edits.{sets, sets-eq}
use Rattle.std.proofs.Math.Seq.{length-sets}
use Rattle.std.proofs.lemmas.Bool.{lt-leb}
use Rattle.chains.proofs.Bounds.{chain_bounds, parts_bound}
use Rattle.chains.specs.Chains.{Part, Chained, total}
use Rattle.lent.specs.Lent.{filled}
use Rattle.lent.specs.LentLaws.{over_zeros}
use Rattle.moves.proofs.BitLaws.{shl_one}
use Rattle.moves.specs.Rows.{add_at, rows_of, Rows, Zeros, zeros as no_rows}
use Rattle.moves.proofs.Chaining.{chained_rest}
use Rattle.moves.proofs.Layouts.{laid_out_room, length_rows, room_within, Room}
use Rattle.moves.proofs.RowLaws.{zeros_zeros}
use Rattle.parts.specs.Parts.{part_number}
use Rattle.moves.proofs.RowsOf.{add_here, add_there, room_row}
use Rattle.bench.specs.Telling.{Tellable, ToldRows, row_parts, parts_below, row_numbers}

-- ---- the parts of a row

row_less : (k b x : ℕ) → x < 2 ^ k → row_parts (suc k) b x ≡ row_parts k b x
unfolding row_parts
row_less k b x h = rw (lt-leb (2 ^ k) x h)

row_more : (k b x : ℕ) → row_parts (suc k) b (x + 2 ^ k) ≡ record { a = k; b = b } ∷ row_parts k b x
unfolding row_parts
row_more k b x =
    let e : x + 2 ^ k - 2 ^ k ≡ x = omega arith in
    rw (le-leb (2 ^ k) (x + 2 ^ k) (omega arith), e)

-- The largest part of a row.
pub row_top : (k a b x : ℕ) → a < k → x < 2 ^ a → row_parts k b (x + 2 ^ a) ≡ record { a = a; b = b } ∷ row_parts k b x
row_top zero a b x l h = absurd (omega arith)
row_top (suc k) a b x l h = go (dec_lt a k) (λ g. row_top k a b x g h)
  where
    go : Dec (a < k) → (a < k → row_parts k b (x + 2 ^ a) ≡ record { a = a; b = b } ∷ row_parts k b x)
        → row_parts (suc k) b (x + 2 ^ a) ≡ record { a = a; b = b } ∷ row_parts (suc k) b x
    go (yes g) r =
        let m : 2 ^ suc a ≤ 2 ^ k = pow_mono g in
        row_less k b (x + 2 ^ a) (omega (arith, m, pow-suc 2 a))
        ∙ r g
        ∙ ap (λ (c : List Part). record { a = a; b = b } ∷ c) (sym (row_less k b x (omega (arith, m, pow-suc 2 a))))
    go (no g) r =
        let e : a ≡ k = omega arith in
        rw e
        (row_more k b x ∙ ap (λ (c : List Part). record { a = k; b = b } ∷ c) (sym (row_less k b x (rw e at h))))

pub row_none : (k b : ℕ) → row_parts k b 0 ≡ []
unfolding row_parts
row_none zero b = refl
row_none (suc k) b = rw (lt-leb (2 ^ k) 0 (pow_pos k)) (row_none k b)

-- They are as many as the row has one bits.
row_count : (k b x : ℕ) → x < 2 ^ k → length (row_parts k b x) ≡ ones x
unfolding row_parts ones
row_count zero b x h = let z : x ≡ 0 = omega arith in rw z refl
row_count (suc k) b x h = go (dec_lt x (2 ^ k)) (row_count k b)
  where
    go : Dec (x < 2 ^ k) → ((y : ℕ) → y < 2 ^ k → length (row_parts k b y) ≡ ones y) → length (row_parts (suc k) b x) ≡ ones x
    go (yes l) rest = rw (row_less k b x l) (rest x l)
    go (no l) rest =
        let r : x - 2 ^ k < 2 ^ k = omega (arith, pow-suc 2 k) in
        let q : x ≡ x - 2 ^ k + 2 ^ k = omega arith in
        let p : x ≡ 1 * 2 ^ k + (x - 2 ^ k) = omega arith in
        let e : ones x ≡ 1 + ones (x - 2 ^ k) = ap ones p ∙ ones_cat k 1 (x - 2 ^ k) r in
        ap (λ (y : ℕ). length (row_parts (suc k) b y)) q
        ∙ ap length (row_more k b (x - 2 ^ k))
        ∙ omega (arith, rest (x - 2 ^ k) r, e)

pub numbers_count : (b x : ℕ) → x < 2 ^ 64 → length (row_numbers b x) ≡ ones x
numbers_count b x h = length-map (row_parts 64 b x) part_number ∙ row_count 64 b x h

-- ---- those of a chain's rows are the chain

zeros_row : (j : ℕ) (l : Rows) → Zeros l → get_or l j 0 ≡ 0
zeros_row j [] z = refl
zeros_row zero (x ∷ l) z = z.0
zeros_row (suc j) (x ∷ l) z = zeros_row j l z.1

room_above : (a b j : ℕ) (l : Rows) → Room a b l → b < j → get_or l j 0 ≡ 0
unfolding Room
room_above a b j [] r h = absurd r
room_above a b zero (x ∷ l) r h = absurd (omega arith)
room_above a zero (suc j) (x ∷ l) r h = zeros_row j l r.1
room_above a (suc b) (suc j) (x ∷ l) r h = room_above a b j l r.1 (omega arith)

zeros_none : (k : ℕ) (l : Rows) → Zeros l → parts_below k l ≡ []
unfolding parts_below
zeros_none zero l z = refl
zeros_none (suc k) l z = rw (zeros_row k l z, row_none 64 k) (zeros_none k l z)

below_same : (k b v : ℕ) (l : Rows) → k ≤ b → parts_below k (add_at b v l) ≡ parts_below k l
unfolding parts_below
below_same zero b v l h = refl
below_same (suc k) b v l h =
    rw (add_there b k v l (λ e. omega arith), below_same k b v l (omega arith))

below_add : (k a b : ℕ) (l : Rows) → a < 64 → b < k → Room a b l
    → parts_below k (add_at b (2 ^ a) l) ≡ record { a = a; b = b } ∷ parts_below k l
unfolding parts_below
below_add zero a b l u h r = absurd (omega arith)
below_add (suc k) a b l u h r = go (dec_lt b k) (λ g. below_add k a b l u g r)
  where
    go : Dec (b < k) → (b < k → parts_below k (add_at b (2 ^ a) l) ≡ record { a = a; b = b } ∷ parts_below k l)
        → parts_below (suc k) (add_at b (2 ^ a) l) ≡ record { a = a; b = b } ∷ parts_below (suc k) l
    go (yes g) rest =
        let z : get_or l k 0 ≡ 0 = room_above a b k l r g in
        let y : get_or (add_at b (2 ^ a) l) k 0 ≡ 0 = add_there b k (2 ^ a) l (λ e. omega arith) ∙ z in
        rw (y, z, row_none 64 k) (rest g)
    go (no g) rest =
        let e : b ≡ k = omega arith in
        let y = add_here b (2 ^ a) l (room_within a b l r) in
        rw (← e, y, row_top 64 a b (get_or l b 0) u (room_row a b l r), below_same b b (2 ^ a) l (omega arith))

small_tail : (p : Part) (c : List Part) → total (p ∷ c) < 2 ^ 64 → total c < 2 ^ 64
unfolding total
small_tail p c h = omega arith

pub rows_parts : (c : List Part) → Chained c → total c < 2 ^ 64 → parts_below 41 (rows_of 41 c) ≡ c
unfolding rows_of
rows_parts [] h f = zeros_none 41 (no_rows 41) (zeros_zeros 41)
rows_parts (p ∷ c) h f =
    let b = chain_bounds (total (p ∷ c)) p c f (record { chained = h; sums = refl }) in
    let r = (laid_out_room 41 p c h (omega (arith, b.2))).1 in
    below_add 41 p.a p.b (rows_of 41 c) (omega (arith, b.1)) (omega (arith, b.2)) r
    ∙ ap (λ (d : List Part). p ∷ d) (rows_parts c (chained_rest p c h) (small_tail p c f))

-- ---- the places

-- Of the numbers `all`, which are stored from place `at` on, those in `left` are still to be stored, from place i on. The places were
-- `entry` and are l.
pub record Storing (all : List ℕ) (at : ℕ) (entry left : List ℕ) (i : ℕ) (l : List ℕ) : Type 0 where
  pub count : i + length left ≡ at + length all
  pub stored : sets l i left ≡ sets entry at all
  pub same : length l ≡ length entry
  pub room : at + length all ≤ length entry

pub storing_none : {all entry : List ℕ} {at : ℕ} → at + length all ≤ length entry → Storing all at entry all at entry
storing_none h = record { count = refl; stored = refl; same = refl; room = h }

sets_append : (l : List ℕ) (i : ℕ) (xs ys : List ℕ) → sets l i (xs ++ ys) ≡ sets (sets l i xs) (i + length xs) ys
sets_append l i [] ys = let e : i + 0 ≡ i = omega arith in rw e
sets_append l i (x ∷ xs) ys =
    let e : i + suc (length xs) ≡ suc i + length xs = omega arith in
    sets_append (set l i x) (suc i) xs ys ∙ sym (ap (λ (k : ℕ). sets (sets (set l i x) (suc i) xs) k ys) e)

module _ {all entry left l : List ℕ} {at i : ℕ} (s : Storing all at entry left i l) where
  pub storing_room : i + length left ≤ length l
  storing_room = omega (arith, s.count, s.same, s.room)

  pub store_one : (v : ℕ) (rest : List ℕ) → left ≡ v ∷ rest → Storing all at entry rest (i + 1) (set l i v)
  store_one v rest e =
      let k : i + 1 ≡ suc i = omega arith in
      rw k
      (record {
        count = omega (arith, s.count, ap length e);
        stored = ap (sets l i) (sym e) ∙ s.stored;
        same = length-set l i v ∙ s.same;
        room = s.room;
      })

  pub store_many : (xs rest : List ℕ) {k : ℕ} {m : List ℕ}
      → left ≡ xs ++ rest → k ≡ i + length xs → m ≡ sets l i xs → Storing all at entry rest k m
  store_many xs rest {k} {m} e ek em =
      rw (ek, em)
      (record {
        count = omega (arith, s.count, ap length e, length-append xs rest);
        stored = sym (sets_append l i xs rest) ∙ ap (sets l i) (sym e) ∙ s.stored;
        same = length-sets l i xs ∙ s.same;
        room = s.room;
      })

  pub all_stored : left ≡ [] → (i ≡ at + length all) × (l ≡ sets entry at all)
  all_stored e = (omega (arith, s.count, ap length e), ap (sets l i) (sym e) ∙ s.stored)

-- ---- a row

-- The highest one bit of a row, whose part is the largest.
pub record Highest (b x : ℕ) : Type 0 where
  pub few : count_leading_zeros 64 x ≤ 63
  pub least : 2 ^ (63 - count_leading_zeros 64 x) ≤ x
  pub bit : 1 * 2 ^ (63 - count_leading_zeros 64 x) % 2 ^ 64 ≡ 2 ^ (63 - count_leading_zeros 64 x)
  pub some : 0 < 2 ^ (63 - count_leading_zeros 64 x)
  pub first : row_numbers b x
      ≡ part_number (record { a = 63 - count_leading_zeros 64 x; b = b }) ∷ row_numbers b (x - 1 * 2 ^ (63 - count_leading_zeros 64 x) % 2 ^ 64)

pub highest : (b x : ℕ) → 0 < x → x < 2 ^ 64 → Highest b x
highest b x some fits =
    let (j, e, least, most) = leading_top 64 x some fits in
    let here : 63 - count_leading_zeros 64 x ≡ j = omega arith in
    let bit = shl_one j (omega arith) in
    let q : x ≡ x - 2 ^ j + 2 ^ j = omega arith in
    let top : row_parts 64 b x ≡ record { a = j; b = b } ∷ row_parts 64 b (x - 2 ^ j) =
    ap (row_parts 64 b) q ∙ row_top 64 j b (x - 2 ^ j) (omega arith) (omega (arith, pow-suc 2 j)) in
    record {
      few = omega arith;
      least = rw here least;
      bit = rw here bit;
      some = pow_pos (63 - count_leading_zeros 64 x);
      first = rw (here, bit) (ap (map part_number) top);
    }

pub row_stored : (b x : ℕ) → x ≡ 0 → row_numbers b x ≡ []
row_stored b x e = rw (e, row_none 64 b)

-- While places are left for the row, so are parts.
module _ (b : ℕ) {row at left i : ℕ} {entry l : List ℕ} (s : Storing (row_numbers b row) at entry (row_numbers b left) i l)
    (less : left ≤ row) (fits : row < 2 ^ 64) where
  pub row_turn : i < at + ones row → Highest b left
  row_turn h = go (dec_lt 0 left)
    where
      go : Dec (0 < left) → Highest b left
      go (yes p) = highest b left p (omega arith)
      go (no p) = absurd (omega (arith, s.count, ap length (row_stored b left (omega arith)), numbers_count b row fits))

  pub row_inside : i < at + ones row → i < length l
  row_inside h = omega (arith, storing_room s, ap length (row_turn h).first)

  pub row_end : at + ones row ≤ i → row_numbers b left ≡ []
  row_end h = none (row_numbers b left) (omega (arith, s.count, numbers_count b row fits))
    where
      none : (xs : List ℕ) → length xs ≡ 0 → xs ≡ []
      none [] e = refl
      none (x ∷ xs) e = absurd (omega arith)

-- ---- the rows

-- The numbers of the parts of the rows below k.
abbrev pub numbers_below : ℕ → Rows → List ℕ
numbers_below k l = map part_number (parts_below k l)

next_row : (k : ℕ) (l : Rows) → 0 < k → numbers_below k l ≡ row_numbers (k - 1) (get_or l (k - 1) 0) ++ numbers_below (k - 1) l
unfolding parts_below
next_row zero l h = absurd (omega arith)
next_row (suc k) l h =
    let e : suc k - 1 ≡ k = omega arith in
    rw e (map-append part_number (row_parts 64 k (get_or l k 0)) (parts_below k l))

-- The next row down has its places, and once its numbers are stored those of the rows below it are left.
module _ (k : ℕ) (rows : Rows) {all entry l : List ℕ} {at i : ℕ} (s : Storing all at entry (numbers_below k rows) i l) (h : 0 < k) where
  pub row_room : i + length (row_numbers (k - 1) (get_or rows (k - 1) 0)) ≤ length l
  row_room =
      let xs = row_numbers (k - 1) (get_or rows (k - 1) 0) in
      omega (arith, storing_room s, ap length (next_row k rows h), length-append xs (numbers_below (k - 1) rows))

  pub store_row : {j : ℕ} {m : List ℕ}
      → j ≡ i + length (row_numbers (k - 1) (get_or rows (k - 1) 0)) → m ≡ sets l i (row_numbers (k - 1) (get_or rows (k - 1) 0))
      → Storing all at entry (numbers_below (k - 1) rows) j m
  store_row ej em = store_many s (row_numbers (k - 1) (get_or rows (k - 1) 0)) (numbers_below (k - 1) rows) (next_row k rows h) ej em

pub no_row : (k : ℕ) (l : Rows) → k ≤ 0 → numbers_below k l ≡ []
unfolding parts_below
no_row k l h = let e : k ≡ 0 = omega arith in rw e

-- All numbers have a place.
pub tellable_room : {rows places : List ℕ} → Tellable rows places → (length rows ≡ 41) × (length (numbers_below 41 rows) ≤ 64)
tellable_room {rows} {places} t =
    let e : parts_below 41 rows ≡ t.chain = ap (parts_below 41) t.is ∙ rows_parts t.chain t.chained t.fits in
    let n = parts_bound (total t.chain) 64 t.chain (record { chained = t.chained; sums = refl }) t.fits in (
      ap length t.is ∙ length_rows 41 t.chain,
      omega (arith, length-map (parts_below 41 rows) part_number, ap length e, n),
    )

-- The numbers of all parts over zeros.
pub told_rows :
    {rows places : List ℕ} {exit : List ℕ} {told : ℕ}
    → Tellable rows places → told ≡ 0 + length (numbers_below 41 rows) → exit ≡ sets places 0 (numbers_below 41 rows)
    → (c : List Part) → Chained c → total c < 2 ^ 64 → rows ≡ rows_of 41 c → ToldRows c told places exit
unfolding filled
told_rows {rows} {places} {exit} {told} t n s c h f is =
    let e : numbers_below 41 rows ≡ map part_number c = ap (map part_number) (ap (parts_below 41) is ∙ rows_parts c h f) in
    let few = (tellable_room t).1 in
    let z : filled 64 [] places ≡ places = ap (λ (l : List ℕ). l ++ drop 64 places) (sym t.clear) ∙ take-append-drop 64 places in
    let xs = numbers_below 41 rows in
    let k : 0 + length xs ≡ length xs = omega arith in
    let put : sets places 0 xs ≡ xs ++ drop (length xs) places =
    sets-eq xs places 0 (omega (arith, t.room)) ∙ ap (λ (j : ℕ). xs ++ drop j places) k in
    record {
      count = omega (arith, n, ap length e, length-map c part_number);
      numbers =
          s ∙ put ∙ ap (λ (l : List ℕ). xs ++ drop (length xs) l) (sym z) ∙ over_zeros 64 xs places few
          ∙ ap (λ (l : List ℕ). filled 64 l places) e;
    }
