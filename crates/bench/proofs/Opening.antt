-- The rows of a record's chain, made part by part from the smallest on: what `lay_out` and `lay_bench` rest on.
-- In this order: one part more in the rows; the parts from a number of the record on; a turn of the loop; its start and its end; the
-- bench.
use Rattle.std.specs.Prelude.{◌≡◌, refl, ℕ, zero, suc, ◌≤◌, ◌<◌, ◌*◌, ◌+◌, ◌-◌, ◌^◌, ◌%◌, get_or, set, replicate}
use Rattle.std.proofs.Common.{ap, sym, ◌∙◌, arith, drop_of_length-le, length-drop, append-nil, drop-cons, take_at, drop_at}
use mathlib.Core.List.{List, [], ◌∷◌, ◌++◌, map, append_assoc}
use Rattle.std.proofs.Math.ListN.{length, drop, length-append}
use Rattle.std.proofs.lemmas.List.{replicate-append-replicate}
use borrow.Rule.Slice.PartMut.{mid_of, put_mid}
use Rattle.chains.proofs.Bounds.{part_bounds}
use Rattle.chains.specs.Chains.{Part, Chained, total}
use Rattle.lent.specs.Lent.{zeros, filled}
use Rattle.lent.specs.LentLaws.{length_zeros, cleared}
use Rattle.moves.proofs.BitLaws.{shl_one}
use Rattle.moves.specs.Rows.{add_at, rows_of, Rows, zeros as no_rows}
use Rattle.moves.proofs.Layouts.{add_least, laid_out, length_rows}
use Rattle.moves.proofs.Chaining.{chained_rest}
use Rattle.parts.proofs.Largest.{exponents_at_lem}
use Rattle.parts.proofs.Numbers.{part_value, part_below}
use Rattle.parts.specs.Parts.{part_at, exponents_at}
use Rattle.words.specs.Records.{Burned, InTable, record_parts}
use Rattle.bench.specs.Benches.{opened}

-- ---- one part more

add_set : (b v : ℕ) (R : Rows) → add_at b v R ≡ set R b (get_or R b 0 + v)
unfolding add_at
add_set b v [] = refl
add_set zero v (x ∷ R) = refl
add_set (suc b) v (x ∷ R) = ap (λ (l : Rows). x ∷ l) (add_set b v R)

-- ---- the parts from the i-th number on

rest_chained : (i : ℕ) (l : List ℕ) → Chained (record_parts l) → Chained (record_parts (drop i l))
unfolding record_parts
rest_chained zero l h = h
rest_chained (suc i) [] h = h
rest_chained (suc i) (x ∷ l) h = rest_chained i l (chained_rest (part_at x) (map part_at l) h)

rest_total : (i : ℕ) (l : List ℕ) → total (record_parts (drop i l)) ≤ total (record_parts l)
unfolding record_parts total
rest_total zero l = omega arith
rest_total (suc i) [] = omega arith
rest_total (suc i) (x ∷ l) = omega (arith, rest_total i l)

-- What adding the part with the i-th number asks, and what it makes.
record Added (l : List ℕ) (i : ℕ) (p : Part) (R : Rows) : Type 0 where
  across : p.a < 64
  row : p.b < 41
  fits : get_or R p.b 0 + 2 ^ p.a < 2 ^ 64
  makes : set R p.b (get_or R p.b 0 + 2 ^ p.a) ≡ rows_of 41 (record_parts (drop i l))

added :
    (l : List ℕ) (n i : ℕ)
    → Burned l n
    → i < length l
    → Added l i (part_at (get_or l i 0)) (rows_of 41 (record_parts (drop (suc i) l)))
unfolding record_parts rows_of InTable
added l n i h k =
    let x = get_or l i 0 in
    let p = part_at x in
    let c = record_parts (drop (suc i) l) in
    let e : record_parts (drop i l) ≡ p ∷ c = ap record_parts (drop-cons l i 0 k) in
    let b = part_bounds p (rw (part_value x (h.known i k)) (part_below x (h.known i k))) in
    let o = laid_out 41 p c (rw e at (rest_chained i l h.chain.chained)) b.1 in
    let least = add_least p.b (2 ^ p.a) (rows_of 41 c) (omega (arith, b.1, length_rows 41 c)) in
    record {
      across = omega (arith, b.0);
      row = b.1;
      fits = omega (arith, least, o.sums, ap total e, rest_total i l, h.chain.sums, h.fits);
      makes = sym (add_set p.b (2 ^ p.a) (rows_of 41 c)) ∙ ap (rows_of 41) (sym e);
    }

-- ---- a turn of the loop

-- The parts from the i-th number on stand in the rows R.
pub record LaidFrom (l : List ℕ) (n i : ℕ) (R : Rows) : Type 0 where
  pub burned : Burned l n
  pub within : i ≤ length l
  pub is : R ≡ rows_of 41 (record_parts (drop i l))

pub laid_rows : {l : List ℕ} {n i : ℕ} {R : Rows} → LaidFrom l n i R → length R ≡ 41
laid_rows {l} {n} {i} {R} h = ap length h.is ∙ length_rows 41 (record_parts (drop i l))

-- So adding the part 2^a × 3^b with the number before is possible, and then its number is the first of those laid.
pub record Stepped (l : List ℕ) (n i : ℕ) (R : Rows) (a b : ℕ) : Type 0 where
  pub across : a < 64
  pub row : b < 41
  pub rows : length R ≡ 41
  pub fits : get_or R b 0 + 1 * 2 ^ a % 2 ^ 64 < 2 ^ 64
  pub makes : LaidFrom l n (i - 1) (set R b (get_or R b 0 + 1 * 2 ^ a % 2 ^ 64))

pub stepped : {l : List ℕ} {n i a b : ℕ} {R : Rows}
    → LaidFrom l n i R → 0 < i → record { a = a; b = b } ≡ exponents_at (get_or l (i - 1) 0) → Stepped l n i R a b
unfolding InTable
stepped {l} {n} {i} {a} {b} {R} h some f =
    let q : suc (i - 1) ≡ i = omega arith in
    let k : i - 1 < length l = omega (arith, h.within) in
    let x = get_or l (i - 1) 0 in
    let g = f ∙ exponents_at_lem x (h.burned.known (i - 1) k) in
    let ga : a ≡ (part_at x).a = ap (λ (p : Part). p.a) g in
    let gb : b ≡ (part_at x).b = ap (λ (p : Part). p.b) g in
    let e : rows_of 41 (record_parts (drop (suc (i - 1)) l)) ≡ R =
    ap (λ (y : ℕ). rows_of 41 (record_parts (drop y l))) q ∙ sym h.is in
    let s : Added l (i - 1) (part_at x) R = rw e at (added l n (i - 1) h.burned k) in
    let o = shl_one (part_at x).a s.across in
    rw (ga, gb)
    (record {
      across = s.across;
      row = s.row;
      rows = laid_rows h;
      fits = rw o s.fits;
      makes = record { burned = h.burned; within = omega (arith, h.within); is = rw o s.makes };
    })

-- ---- its start and its end

same_zeros : (k : ℕ) → no_rows k ≡ zeros k
unfolding no_rows zeros
same_zeros k = refl

-- No part is laid yet.
pub none_laid : (l : List ℕ) (n : ℕ) (R : Rows) → Burned l n → R ≡ zeros 41 → LaidFrom l n (length l) R
unfolding rows_of record_parts
none_laid l n R h e =
    record {
      burned = h;
      within = omega arith;
      is = e ∙ sym (same_zeros 41) ∙ sym (ap (λ (k : List ℕ). rows_of 41 (record_parts k)) (drop_of_length-le l {i = length l} (omega arith)));
    }

-- All parts are.
pub all_laid : {l : List ℕ} {n i : ℕ} {R : Rows} → LaidFrom l n i R → i ≤ 0 → R ≡ rows_of 41 (record_parts l)
all_laid {l} {n} {i} {R} h e =
    let z : i ≡ 0 = omega arith in
    h.is ∙ ap (λ (k : ℕ). rows_of 41 (record_parts (drop k l))) z

-- ---- the bench

set_seam : (u : List ℕ) (x y : ℕ) (l : List ℕ) (k : ℕ) → length u ≡ k → set (u ++ (x ∷ l)) k y ≡ u ++ (y ∷ l)
set_seam [] x y l zero h = refl
set_seam [] x y l (suc k) h = absurd (omega arith)
set_seam (w ∷ u) x y l zero h = absurd (omega arith)
set_seam (w ∷ u) x y l (suc k) h = ap (λ (t : List ℕ). w ∷ t) (set_seam u x y l k (omega arith))

-- Zeros, cut in two.
zeros_cut : (i j : ℕ) (l : List ℕ) → zeros (i + j) ++ l ≡ zeros i ++ (zeros j ++ l)
unfolding zeros
zeros_cut i j l = ap (λ (t : List ℕ). t ++ l) (sym (replicate-append-replicate {A = ℕ} i j 0)) ∙ append_assoc (replicate i 0) (replicate j 0) l

zeros_more : (i : ℕ) (l : List ℕ) → zeros (suc i) ++ l ≡ 0 ∷ (zeros i ++ l)
unfolding zeros
zeros_more i l = refl

pub length_opened : (n : ℕ) (c : List Part) (entry : List ℕ) → 378 ≤ length entry → length (opened n c entry) ≡ length entry
unfolding opened
length_opened n c entry h =
    simp (length-append, length_rows, length_zeros, length-drop) (omega arith)

-- The bench, zeroed: the rows, the saved states, n, the names and what is after it.
zeroed : (entry : List ℕ) → filled 378 [] entry ≡ zeros 41 ++ (zeros 328 ++ (0 ∷ (zeros 8 ++ drop 378 entry)))
unfolding filled
zeroed entry =
    zeros_cut 41 337 (drop 378 entry)
    ∙ ap (λ (t : List ℕ). zeros 41 ++ t) (zeros_cut 328 9 (drop 378 entry) ∙ ap (λ (t : List ℕ). zeros 328 ++ t) (zeros_more 8 (drop 378 entry)))

module _ (entry ys : List ℕ) (room : 378 ≤ length entry) (z : ys ≡ zeros (length (mid_of 0 378 entry))) where
  fresh : put_mid 0 378 entry ys ≡ zeros 41 ++ (zeros 328 ++ (0 ∷ (zeros 8 ++ drop 378 entry)))
  fresh = cleared 378 entry entry ys room refl z ∙ zeroed entry

  -- The rows are zero.
  pub bench_rows : mid_of 0 41 (put_mid 0 378 entry ys) ≡ zeros 41
  bench_rows = rw fresh (take_at (zeros 41) (zeros 328 ++ (0 ∷ (zeros 8 ++ drop 378 entry))) 41 (length_zeros 41))

  -- With the chain laid out and n put in its place, it is a bench.
  pub bench_laid :
      (n : ℕ) (c : List Part) (R : List ℕ) → R ≡ rows_of 41 c
      → set (put_mid 0 41 (put_mid 0 378 entry ys) R) 369 n ≡ opened n c entry
  unfolding opened
  bench_laid n c R e =
      let t = zeros 8 ++ drop 378 entry in
      let d : drop 41 (put_mid 0 378 entry ys) ≡ zeros 328 ++ (0 ∷ t) =
      rw fresh (drop_at (zeros 41) (zeros 328 ++ (0 ∷ t)) 41 (length_zeros 41)) in
      let m : length (rows_of 41 c ++ zeros 328) ≡ 369 =
      omega (arith, length-append (rows_of 41 c) (zeros 328), length_rows 41 c, length_zeros 328) in
      rw (e, d, ← append_assoc (rows_of 41 c) (zeros 328) (0 ∷ t))
      (set_seam (rows_of 41 c ++ zeros 328) 0 n t 369 m ∙ append_assoc (rows_of 41 c) (zeros 328) (n ∷ t))

-- A bench that is zero has zero rows.
pub zero_rows : mid_of 0 41 (replicate 378 0) ≡ zeros 41
unfolding zeros
zero_rows = refl

-- With the chain laid out and n put in its place, it is a bench, and so it is with the numbers after it.
pub zero_laid : (n : ℕ) (c : List Part) (R : List ℕ) → R ≡ rows_of 41 c
    → set (put_mid 0 41 (replicate 378 0) R) 369 n ≡ opened n c []
unfolding opened zeros
zero_laid n c R e =
    let t = zeros 8 ++ [] in
    let r = rows_of 41 c in
    let m : length (r ++ zeros 328) ≡ 369 = omega (arith, length-append r (zeros 328), length_rows 41 c, length_zeros 328) in
    ap (λ (l : List ℕ). set (l ++ drop 41 (replicate 378 0)) 369 n) e
    ∙ ap (λ (l : List ℕ). set l 369 n) (sym (append_assoc r (zeros 328) (0 ∷ t)))
    ∙ set_seam (r ++ zeros 328) 0 n t 369 m ∙ append_assoc r (zeros 328) (n ∷ t)

pub opened_over : (n : ℕ) (c : List Part) (entry : List ℕ) → opened n c [] ++ drop 378 entry ≡ opened n c entry
unfolding opened
opened_over n c entry = simp (append_assoc, append-nil)
