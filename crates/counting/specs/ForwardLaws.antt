-- The laws by which the walk from a position to its word starts, goes on and ends (Forward).
--
-- In this order: the start; how many words begin with a rise of b; one letter more, by a rise of a or of b; the end; the rows that the
-- walk stands in.
use Rattle.std.specs.Prelude.{◌≡◌, ℕ, zero, suc, ◌+◌, ◌-◌, ◌*◌, ◌/◌, ◌%◌, ◌^◌, ◌<◌, ◌≤◌, Bool, true, false, List, [], ◌∷◌, length, get_or, take, drop, slice_index, slice_index_or}
use Rattle.std.proofs.Math.Path.{refl, sym}
use Rattle.std.proofs.Common.{ap, ◌∙◌, lt_of_not-le, div-le_self, mul_comm, mod-eq_of_lt, add-one, length-drop, pow_mono, get_or-drop, take_all}
use Rattle.std.proofs.Math.Nat.{pow-suc}
use native.Mathlib.Omega.{arith}
use Rattle.std.proofs.lemmas.Nat.{shr_le}
use Rattle.chains.specs.Words.{Word}
use Rattle.chains.specs.Listing.{words_in, at_rest, words_at, list_of, count, ways, one_if}
use Rattle.chains.proofs.Counts.{count_ways, ways_rem_0_free, ways_rem_0_after_a, ways_rem_1, ways_rem_2}
use Rattle.chains.proofs.Positions.{word_rise_a, word_rise_b}
use Rattle.words.specs.Packed.{bits, rise, mark}
use Rattle.grid.specs.Grid.{rest_at}
use Rattle.grid.specs.Rests.{rest_origin, rest_right, rest_up, point_bounds}
use Rattle.grid.specs.Fill.{rows_but_one}
use Rattle.counting.specs.Table.{count_cell, CountRows, CountsFilled}
use Rattle.counting.specs.CellLaws.{read_count}
use Rattle.counting.specs.PointLaws.{at_one, ways_few, drop_more, bits_more}
use Rattle.counting.specs.Forward.{word_at, Passed, RowsFor, RaisedAsked, RaisedTold, SameWalk, Found}

-- ---- the start

-- The only word of the list of 0 has no letters.
pub word_none : (n i : ℕ) → n ≡ 0 → Found n i 0 0
unfolding list_of words_at words_in at_rest bits
word_none n zero e = rw e (record { rising = refl; marking = refl })
word_none n (suc i) e = rw e (record { rising = refl; marking = refl })

pub word_start : {n k i : ℕ} → 1 ≤ n → k ≡ count n → i < count n → Passed n i 0 1 n k i 0 0
unfolding list_of one_if bits
word_start {n} h e l =
    record {
      walked = record {
        a = 0;
        b = 0;
        index = refl;
        here = sym (rest_origin n);
        some = h;
        reader = true;
        told = refl;
        number = e ∙ count_ways n;
        within = omega arith;
        follows = refl;
      };
      rising = refl;
      marking = refl;
      rises_low = omega arith;
      marks_low = omega arith;
    }

-- ---- the words with a rise of b

-- x stands above; its factor is 0 or 1.
module _ (m x free : ℕ) (two : 2 ≤ m) (above : 1 ≤ m / 3 → x ≡ ways true (m / 3)) where
  pub raised_told : RaisedTold free m (x * (m % 3 % 2 + (2 - m % 3) / 2 * free))
  unfolding one_if
  raised_told = record { both = by }
    where
      free_reader : (r : ℕ) → m % 3 ≡ r → ways true m ≡ ways false (m / 2) + x * (r % 2 + (2 - r) / 2 * 1)
      free_reader zero g = omega (arith, above (omega arith), ways_rem_0_free m (omega arith) g)
      free_reader (suc zero) g = omega (arith, above (omega arith), ways_rem_1 true m g)
      free_reader (suc (suc zero)) g = omega (arith, ways_rem_2 true m g)
      free_reader (suc (suc (suc r))) g = absurd (omega arith)

      after_a : (r : ℕ) → m % 3 ≡ r → ways false m ≡ ways false (m / 2) + x * (r % 2 + (2 - r) / 2 * 0)
      after_a zero g = omega (arith, ways_rem_0_after_a m (omega arith) g)
      after_a (suc zero) g = omega (arith, above (omega arith), ways_rem_1 false m g)
      after_a (suc (suc zero)) g = omega (arith, ways_rem_2 false m g)
      after_a (suc (suc (suc r))) g = absurd (omega arith)

      by : (g : Bool) → free ≡ one_if g → ways g m ≡ ways false (m / 2) + x * (m % 3 % 2 + (2 - m % 3) / 2 * free)
      by true e = rw e (free_reader (m % 3) refl)
      by false e = rw e (after_a (m % 3) refl)

pub factor_low : (r free : ℕ) → r < 3 → free ≤ 1 → ((2 - r) / 2 * free ≤ 1) × (r % 2 + (2 - r) / 2 * free ≤ 1)
factor_low r zero h k = (omega arith, omega arith)
factor_low r (suc zero) h k = (omega arith, omega arith)
factor_low r (suc (suc f)) h k = absurd (omega arith)

pub times_low : (x f : ℕ) → f ≤ 1 → x * f ≤ x
times_low x zero h = omega arith
times_low x (suc zero) h = omega arith
times_low x (suc (suc f)) h = absurd (omega arith)

-- The number above, in the rows of m.
module _ {m a b free rest : ℕ} {l : List ℕ} (r : RaisedAsked m a b free rest l) where
  pub raised_low : a < 64
  raised_low = omega (arith, (point_bounds m a b r.rows.small (omega (arith, r.rows.near, r.more))).0)

  pub raised_above : 1 ≤ rest / 3 → slice_index l (64 * b + 64 + a) ≡ ways true (rest / 3)
  raised_above h =
      let d : b + 1 ≡ suc b = omega arith in
      let up : rest_at m a (suc b) ≡ rest_at m a b / 3 = rw d at (rest_up m a b) in
      let e : rest_at m a (suc b) ≡ rest / 3 = up ∙ rw r.rows.near in
      ap (λ (i : ℕ). slice_index l i) (omega (arith, r.inside))
      ∙ read_count a (suc b) r.rows.rows (omega arith) (omega (arith, r.inside)) raised_low (rw e h)
      ∙ ap (ways true) e

-- ---- one letter more

-- The word at a rest of 1.
last_word : (f : Bool) (m i : ℕ) → m ≡ 1 → i < ways f m → slice_index_or (words_at f m) i [] ≡ 3 ∷ []
last_word f m i e h =
    let z : i ≡ 0 = omega (arith, ways_few f m (omega arith)) in
    rw (e, at_one, z)

-- The bit of a letter that was passed.
passed_bit : (f : ℕ → ℕ) (w v : Word) (k x : ℕ) → drop k w ≡ x ∷ v → bits f (take (k + 1) w) ≡ bits f (take k w) + 2 ^ k * f x
passed_bit f w v k x e =
    let h : k < length w = omega (arith, length-drop k w, ap length e) in
    let is : get_or w k 0 ≡ x = ap (λ (j : ℕ). slice_index w j) (omega arith) ∙ sym (get_or-drop k w 0 0) ∙ ap (λ (u : Word). slice_index u 0) e in
    rw (add-one, bits_more f w k h, is)

-- A bit more, which is 0 or 1.
pub one_bit : (x p y : ℕ) → x < p → y ≤ 1 → x + y * p < p * 2
one_bit x p zero h l = omega arith
one_bit x p (suc zero) h l = omega arith
one_bit x p (suc (suc y)) h l = absurd (omega arith)

-- As a number of 64 bits.
module _ {x at y : ℕ} (low : x < 2 ^ at) (bit : y ≤ 1) (last : at < 64) where
  whole : x + y * 2 ^ at < 2 ^ 64
  whole =
      let p : 2 ^ suc at ≤ 2 ^ 64 = pow_mono {j = 64} last in
      omega (arith, one_bit x (2 ^ at) y low bit, pow-suc 2 at)

  pub shifted : y * 2 ^ at % 2 ^ 64 ≡ y * 2 ^ at
  shifted = mod-eq_of_lt (omega (arith, whole))

  pub shifted_fits : x + y * 2 ^ at % 2 ^ 64 < 2 ^ 64
  shifted_fits = rw shifted whole

module _ {n i at free rest total left rises marks : ℕ} (p : Passed n i at free rest total left rises marks) where
  pub flag_low : free ≤ 1
  unfolding one_if
  flag_low = go p.walked.reader p.walked.told
    where
      go : (f : Bool) → free ≡ one_if f → free ≤ 1
      go true e = omega arith
      go false e = omega arith

  -- The points of a walk below 2^64 are at most 64.
  pub passed_low : n < 2 ^ 64 → at < 64
  passed_low f = omega (arith, (point_bounds n p.walked.a p.walked.b f (omega (arith, p.walked.here, p.walked.some))).0, p.walked.index)

  -- A letter after the next is left; x words begin with a rise of b.
  module _ {x : ℕ} (h : 2 ≤ rest) (told : RaisedTold free rest x) where
    pub passed_both : total ≡ ways false (rest / 2) + x
    passed_both = p.walked.number ∙ told.both p.walked.reader p.walked.told

    pub passed_a : left < total - x → Passed n i (at + 1) 0 (rest / 2) (total - x) left rises (marks + rest % 2 * 2 ^ at)
    unfolding ways one_if
    passed_a o =
        let l : left < ways false (rest / 2) = omega (arith, passed_both) in
        let e = p.walked.follows ∙ word_rise_a p.walked.reader rest left (omega arith) l in
        let flat : rise (rest % 2) ≡ 0 = omega arith in
        let marked : mark (rest % 2) ≡ rest % 2 = omega arith in
        record {
          walked = record {
            a = p.walked.a + 1;
            b = p.walked.b;
            index = omega (arith, p.walked.index);
            here = rw (rest_right, p.walked.here);
            some = omega arith;
            reader = false;
            told = refl;
            number = omega (arith, passed_both);
            within = o;
            follows = drop_more (word_at n i) _ at _ e;
          };
          rising = sym (passed_bit rise (word_at n i) _ at _ e ∙ rw (flat, ← p.rising) (omega arith));
          marking = sym (passed_bit mark (word_at n i) _ at _ e ∙ rw (marked, ← p.marking) (ap (λ (y : ℕ). marks + y) (mul_comm (2 ^ at) (rest % 2))));
          rises_low = rw (add-one, pow-suc 2 at) (omega (arith, p.rises_low));
          marks_low = rw (add-one, pow-suc 2 at) (one_bit marks (2 ^ at) (rest % 2) p.marks_low (omega arith));
        }

    -- There the remainder by three is not 2: x is not 0.
    pub rem_low : total - x ≤ left → rest % 3 ≤ 1
    rem_low o =
        let less : rest % 3 < 2 =
        lt_of_not-le
        (λ (g : 2 ≤ rest % 3).
        omega (arith, ways_rem_2 p.walked.reader rest (omega arith), p.walked.number, passed_both, p.walked.within))
        in
        omega arith

    pub passed_b : total - x ≤ left → Passed n i (at + 1) 1 (rest / 3) x (left - (total - x)) (rises + 1 * 2 ^ at) (marks + rest % 3 * 2 ^ at)
    unfolding ways one_if
    passed_b o =
        let l : ways false (rest / 2) ≤ left = omega (arith, passed_both) in
        let low : rest % 3 ≤ 1 = rem_low o in
        let q = word_rise_b p.walked.reader rest left (omega arith) l (omega (arith, p.walked.within, p.walked.number)) in
        let e = p.walked.follows ∙ q.1 in
        let less : ways false (rest / 2) ≡ total - x = omega (arith, passed_both) in
        let risen : rise (2 + rest % 3) ≡ 1 = omega arith in
        let marked : mark (2 + rest % 3) ≡ rest % 3 = omega arith in
        record {
          walked = record {
            a = p.walked.a;
            b = p.walked.b + 1;
            index = omega (arith, p.walked.index);
            here = rw (rest_up, p.walked.here);
            some = omega arith;
            reader = true;
            told = refl;
            number = third_count (omega (arith, p.walked.within));
            within = omega (arith, p.walked.within);
            follows = rw less at (drop_more (word_at n i) _ at _ e);
          };
          rising = sym (passed_bit rise (word_at n i) _ at _ e ∙ rw (risen, ← p.rising) (omega arith));
          marking = sym (passed_bit mark (word_at n i) _ at _ e ∙ rw (marked, ← p.marking) (ap (λ (y : ℕ). marks + y) (mul_comm (2 ^ at) (rest % 3))));
          rises_low = rw (add-one, pow-suc 2 at) (omega (arith, p.rises_low));
          marks_low = rw (add-one, pow-suc 2 at) (one_bit marks (2 ^ at) (rest % 3) p.marks_low low);
        }
      where
        third_count : 0 < x → x ≡ ways true (rest / 3)
        third_count some_b = go p.walked.reader (rest % 3) refl (told.both p.walked.reader p.walked.told)
          where
            go : (f : Bool) (r : ℕ) → rest % 3 ≡ r → ways f rest ≡ ways false (rest / 2) + x → x ≡ ways true (rest / 3)
            go true zero e q = omega (arith, ways_rem_0_free rest (omega arith) e)
            go false zero e q = absurd (omega (arith, ways_rem_0_after_a rest (omega arith) e))
            go f (suc zero) e q = omega (arith, ways_rem_1 f rest e)
            go f (suc (suc zero)) e q = absurd (omega (arith, ways_rem_2 f rest e))
            go f (suc (suc (suc r))) e q = absurd (omega arith)

  -- ---- the end

  -- Only the last letter is left.
  pub word_end : rest ≤ 1 → Found n i (rises + 1 * 2 ^ at) (marks + 1 * 2 ^ at)
  word_end h =
      record {
        rising = sym (whole rise ∙ rw (← p.rising) (omega arith));
        marking = sym (whole mark ∙ rw (← p.marking) (omega arith));
      }
    where
      last : drop at (word_at n i) ≡ 3 ∷ []
      last = p.walked.follows ∙ last_word p.walked.reader rest left (omega (arith, p.walked.some)) (omega (arith, p.walked.within, p.walked.number))

      whole : (f : ℕ → ℕ) → bits f (word_at n i) ≡ bits f (take at (word_at n i)) + 2 ^ at * f 3
      whole f =
          let e : length (word_at n i) ≤ at + 1 = omega (arith, length-drop at (word_at n i), ap length last) in
          sym (ap (bits f) (take_all (at + 1) (word_at n i) e)) ∙ passed_bit f (word_at n i) [] at 3 last

-- ---- the rows that the walk stands in

pub rows_start : {n : ℕ} {l : List ℕ} → CountRows n 0 l → n < 2 ^ 64 → RowsFor n 0 0 n l
rows_start {n} r f =
    record { rows = rows_but_one 0 6 count_cell (omega arith) r (omega arith); near = sym (rest_origin n); low = omega arith; small = f }

-- The rows of the rest, filled anew.
pub rows_again : {m a b rest : ℕ} {l l' : List ℕ} → RowsFor m a b rest l → CountsFilled rest 1 l l' → RowsFor rest 0 0 rest l'
rows_again {m} {a} {b} {rest} r f =
    record {
      rows = f.rows;
      near = sym (rest_origin rest);
      low = omega arith;
      small = omega (arith, r.near, r.small, shr_le (m / 3 ^ b) a, div-le_self m (3 ^ b));
    }

pub rows_a : {m a b rest : ℕ} {l : List ℕ} → RowsFor m a b rest l → RowsFor m (a + 1) b (rest / 2) l
rows_a {m} {a} {b} r = record { rows = r.rows; near = rw (rest_right m a b, r.near); low = r.low; small = r.small }

pub rows_b : {m a b rest : ℕ} {l : List ℕ} → RowsFor m a b rest l → b < 6 → RowsFor m a (b + 1) (rest / 3) l
rows_b {m} {a} {b} r h = record { rows = r.rows; near = rw (rest_up m a b, r.near); low = omega arith; small = r.small }

pub same_passed : {n i at free rest total left rises marks free' rest' total' left' rises' marks' : ℕ}
    → Passed n i at free rest total left rises marks
    → SameWalk free rest total left rises marks free' rest' total' left' rises' marks'
    → Passed n i at free' rest' total' left' rises' marks'
same_passed p e = rw (e.free_is, e.rest_is, e.total_is, e.left_is, e.rises_is, e.marks_is) p
