-- The laws by which the walk back from a word to its position starts, goes on and ends (Back).
--
-- In this order: the highest bit of a number; the walk forward along a word, a letter at a time; the path of a word and its highest
-- bit, where b rises last; the walk back; the numbers at a point where b can rise.
use Rattle.std.specs.Prelude.{◌≡◌, ℕ, zero, suc, ◌+◌, ◌-◌, ◌*◌, ◌/◌, ◌%◌, ◌^◌, ◌<◌, ◌≤◌, true, false, List, [], ◌∷◌, length, drop, count_ones, slice_index, slice_index_or}
use Rattle.std.proofs.Math.Path.{refl, ap}
use Rattle.std.proofs.Common.{sym, ◌∙◌, pow-suc, length-drop, pow_mono, drop-cons, take_all}
use mathlib.Core.List.{Memᴰ}
use Rattle.std.proofs.Math.Decide.{dec_lt}
use native.Mathlib.Omega.{arith}
use Rattle.std.proofs.lemmas.Nat.{ones_cat}
use Rattle.std.specs.Int.Count.{ones-ones, ones-le}
use Rattle.std.proofs.Math.Pow.{pow_pos}
use Rattle.chains.specs.Words.{Word}
use Rattle.chains.specs.Listing.{list_of, count_before, ways}
use Rattle.chains.proofs.Counts.{count_fits}
use Rattle.chains.proofs.Positions.{word_at_position, position_rise_a, position_rise_b}
use Rattle.words.specs.Packed.{bits, rise}
use Rattle.grid.specs.Grid.{rest_at, row_place}
use Rattle.grid.specs.Rests.{rest_origin, rest_right, rest_up, point_bounds}
use Rattle.counting.specs.Table.{CountRows}
use Rattle.counting.specs.CellLaws.{both_ways, read_count}
use Rattle.counting.specs.Back.{TopOf, path_to, turned, before_by, RankWalked, BackAt, RiseAt}
use Rattle.counting.specs.PointLaws.{two_left, one_there, none_before, can_rise, letters_low, ends_in_3, bits_more, bits_low}

-- ---- the highest bit

module _ {x bit below : ℕ} (t : TopOf x bit below) where
  below_low : below < 2 ^ bit
  below_low = omega (arith, t.low, t.high, t.less, pow-suc 2 bit)

  pub top_ones : count_ones x ≡ suc (count_ones below)
  top_ones =
      let split : x ≡ 1 * 2 ^ bit + below = omega (arith, t.low, t.less) in
      ap count_ones split ∙ ones_cat bit 1 below below_low ∙ omega (arith, ones-ones 1)

  pub top_place : count_ones below ≤ bit
  top_place = ones-le bit below below_low

  -- It is the only one.
  pub top_only : (i : ℕ) → 2 ^ i ≤ x → x < 2 ^ suc i → bit ≡ i
  top_only i low high = go (dec_lt bit i) (dec_lt i bit)
    where
      go : Dec (bit < i) → Dec (i < bit) → bit ≡ i
      go (yes h) q =
          let p : 2 ^ suc bit ≤ 2 ^ i = pow_mono h in
          absurd (omega (arith, t.high))
      go (no h) (yes k) =
          let p : 2 ^ suc i ≤ 2 ^ bit = pow_mono k in
          absurd (omega (arith, t.low))
      go (no h) (no k) = omega arith

-- ---- the walk forward

module _ (n : ℕ) (letters : Word) (a b before : ℕ) (w : RankWalked n letters a b before) (left : a + b + 1 < length letters) where
  more_left : 2 ≤ rest_at n a b
  more_left = two_left w.reader (rest_at n a b) (drop (a + b) letters) w.member (rw length-drop (omega arith))

  next : drop (a + b) letters ≡ slice_index letters (a + b) ∷ drop (suc (a + b)) letters
  next = drop-cons letters (a + b) 0 (omega arith)

  rank_can : 2 ≤ slice_index letters (a + b) → rest_at n a b % 3 ≤ 1
  rank_can l = can_rise w.reader (rest_at n a b) _ _ (rw next at w.member) l

  rank_a : slice_index_or letters (a + b) 0 ≤ 1 → RankWalked n letters (a + 1) b before
  rank_a l =
      let p = position_rise_a w.reader (rest_at n a b) _ _ (omega (arith, more_left)) (rw next at w.member) l in
      let d : a + 1 + b ≡ suc (a + b) = omega arith in
      record {
        reader = false;
        member = rw (d, rest_right) p.0;
        counted = rw (d, rest_right) (cc (p.1, w.counted, next));
        fits = w.fits;
      }

  rank_b : 2 ≤ slice_index letters (a + b) → RankWalked n letters a (b + 1) (before + ways false (rest_at n a b / 2))
  unfolding ways
  rank_b l =
      let p = position_rise_b w.reader (rest_at n a b) _ _ (omega (arith, more_left)) (rw next at w.member) l in
      let d : a + (b + 1) ≡ suc (a + b) = omega arith in
      record {
        reader = true;
        member = rw (d, rest_up) p.0;
        counted = rw (d, rest_up) (omega (arith, p.1, rw next at w.counted));
        fits = w.fits;
      }

-- ---- the path of a word

module _ {n : ℕ} {w : Word} (fits : n < 2 ^ 64) (m : Memᴰ w (list_of n)) where
  rise_low : (i : ℕ) → i < length w → rise (slice_index w i) ≤ 1
  rise_low i h = omega (arith, letters_low n w m i h)

  path_low : (i : ℕ) → i ≤ length w → path_to w i < 2 ^ i
  path_low i h = bits_low rise w rise_low i h

  -- One letter more: a bit is 0 or 1.
  module _ (i : ℕ) (h : i < length w) where
    flat : slice_index_or w i 0 ≤ 1 → path_to w (suc i) ≡ path_to w i
    flat l =
        let z : rise (slice_index w i) ≡ 0 = omega arith in
        bits_more rise w i h ∙ rw z (omega arith)

    module _ (l : 2 ≤ slice_index w i) where
      risen : rise (slice_index w i) ≡ 1
      risen = omega (arith, letters_low n w m i h)

      steep : path_to w (suc i) ≡ 2 ^ i + path_to w i
      steep = bits_more rise w i h ∙ rw risen (omega arith)

      pub risen_top : TopOf (path_to w (suc i)) i (path_to w i)
      risen_top =
          let low : path_to w i < 2 ^ i = path_low i (omega arith) in
          rw steep (record { low = omega arith; high = rw (pow-suc 2 i) (omega arith); less = omega arith })

-- The walk forward has passed the first i letters.
abbrev WalkedTo : ℕ → Word → ℕ → Type 0
WalkedTo n w i = (count_ones (path_to w i) ≤ i) × RankWalked n w (i - count_ones (path_to w i)) (count_ones (path_to w i)) (before_by n w i)

module _ {n : ℕ} {w : Word} (fits : n < 2 ^ 64) (m : Memᴰ w (list_of n)) where
  walked_none : WalkedTo n w 0
  unfolding bits before_by list_of
  walked_none =
      let z : count_ones 0 ≡ 0 = omega (arith, ones-le 0 0 (omega arith)) in
      rw z (
        omega arith,
        record {
          reader = true;
          member = rw rest_origin m;
          counted = rw rest_origin (omega arith);
          fits = omega (arith, (word_at_position n w m).0, count_fits n fits);
        },
      )

  walked_on : (i : ℕ) → suc i < length w → WalkedTo n w i → WalkedTo n w (suc i)
  unfolding before_by
  walked_on i h prior = go (dec_lt (slice_index w i) 2)
    where
      b : ℕ
      b = count_ones (path_to w i)

      at : i - b + b ≡ i
      at = omega (arith, prior.0)

      left : i - b + b + 1 < length w
      left = omega (arith, at)

      cast : (a c p : ℕ) → a + c ≡ suc i → count_ones (path_to w (suc i)) ≡ c → p ≡ before_by n w (suc i) → RankWalked n w a c p
          → WalkedTo n w (suc i)
      cast a c p ea ec ep r =
          let d : a ≡ suc i - c = omega arith in
          rw ec (omega arith, rw (d, ep) at r)

      go : Dec (slice_index w i < 2) → WalkedTo n w (suc i)
      go (yes l) =
          let z : rise (slice_index w i) ≡ 0 = omega arith in
          cast (i - b + 1) b (before_by n w i) (omega (arith, at)) (ap count_ones (flat fits m i (omega arith) (omega arith))) (rw z (omega arith))
          (rank_a n w (i - b) b (before_by n w i) prior.1 left (rw at (omega arith)))
      go (no l) =
          let two : 2 ≤ slice_index_or w i 0 = omega arith in
          let z : rise (slice_index w i) ≡ 1 = risen fits m i (omega arith) two in
          cast (i - b) (b + 1) (before_by n w i + turned n (path_to w i) i) (omega (arith, at))
          (top_ones (risen_top fits m i (omega arith) two) ∙ omega arith) (rw z (omega arith))
          (rank_b n w (i - b) b (before_by n w i) prior.1 left (rw at two))

  walked_to : (i : ℕ) → i < length w → WalkedTo n w i
  walked_to zero h = walked_none
  walked_to (suc i) h = walked_on i h (walked_to i (omega arith))

-- ---- the walk back

module _ {n : ℕ} {w : Word} (fits : n < 2 ^ 64) (m : Memᴰ w (list_of n)) where
  -- Where b has not risen, no word stands before.
  flat_none : (i : ℕ) → i ≤ length w → path_to w i ≡ 0 → before_by n w i ≡ 0
  unfolding before_by
  flat_none zero h e = refl
  flat_none (suc i) h e = go (dec_lt (slice_index w i) 2) (λ p. flat_none i (omega arith) p)
    where
      go : Dec (slice_index w i < 2) → (path_to w i ≡ 0 → before_by n w i ≡ 0)
          → before_by n w i + rise (slice_index w i) * turned n (path_to w i) i ≡ 0
      go (yes l) before =
          let z : rise (slice_index w i) ≡ 0 = omega arith in
          rw (z, before (sym (flat fits m i h (omega arith)) ∙ e)) (omega arith)
      go (no l) before = absurd (omega (arith, (risen_top fits m i h (omega arith)).low, pow_pos i))

  rise_at : (j : ℕ) → j ≤ length w → {bit below : ℕ} → TopOf (path_to w j) bit below → RiseAt n w j bit below
  unfolding before_by bits
  rise_at zero h {bit} t = absurd (omega (arith, t.low, pow_pos bit))
  rise_at (suc j) h {bit} {below} t = go (dec_lt (slice_index w j) 2) (λ t. rise_at j (omega arith) t)
    where
      go : Dec (slice_index w j < 2) → (TopOf (path_to w j) bit below → RiseAt n w j bit below) → RiseAt n w (suc j) bit below
      go (yes l) there =
          let z : rise (slice_index w j) ≡ 0 = omega arith in
          let r = there (rw (flat fits m j h (omega arith)) at t) in
          record { within = omega (arith, r.within); rises = r.rises; path = r.path; counted = rw z (omega (arith, r.counted)) }
      go (no l) there =
          let two : 2 ≤ slice_index_or w j 0 = omega arith in
          let z : rise (slice_index w j) ≡ 1 = risen fits m j h two in
          let top = risen_top fits m j h two in
          let e : bit ≡ j = top_only t j top.low top.high in
          let p : below ≡ path_to w j = omega (arith, t.less, top.less, ap (λ (i : ℕ). 2 ^ i) e) in
          record {
            within = omega arith;
            rises = rw e two;
            path = rw e p;
            counted = rw (e, z, p) (omega arith);
          }

  -- The last letter of a word, where b rises too.
  module _ (i : ℕ) (z : length w ≡ suc i) where
    last_top : TopOf (bits rise w) i (path_to w i)
    last_top =
        let three : slice_index_or w i 0 ≡ 3 = ends_in_3 n w m i z in
        rw (take_all (suc i) w (omega arith)) at (risen_top fits m i (omega arith) (omega arith))

  -- So a word in which b does not rise has no letters, and no word stands before it.
  pub none_risen : bits rise w ≡ 0 → count_before w (list_of n) ≡ 0
  unfolding list_of
  none_risen e = go (length w) refl
    where
      go : (k : ℕ) → length w ≡ k → count_before w (list_of n) ≡ 0
      go zero z = none_before true n w m (omega arith)
      go (suc i) z = absurd (omega (arith, (last_top i z).low, pow_pos i))

  -- The path of a word without its highest bit is that without its last letter.
  pub path_of : {bit below : ℕ} → TopOf (bits rise w) bit below → (0 < length w) × (below ≡ path_to w (length w - 1))
  unfolding bits
  path_of {bit} {below} t = go (length w) refl
    where
      nil : (v : Word) → length v ≡ 0 → bits rise v ≡ 0
      nil [] h = refl
      nil (x ∷ v) h = absurd (omega arith)

      go : (k : ℕ) → length w ≡ k → (0 < length w) × (below ≡ path_to w (length w - 1))
      go zero z = absurd (omega (arith, t.low, pow_pos bit, nil w z))
      go (suc i) z =
          let top = last_top i z in
          let same : bit ≡ i = top_only t i top.low top.high in
          let d : length w - 1 ≡ i = omega arith in
          (omega arith, rw d (omega (arith, t.less, top.less, ap (λ (j : ℕ). 2 ^ j) same)))

  pub back_start : 0 < length w → BackAt n w (path_to w (length w - 1)) 0
  back_start h =
      let (low, r) = walked_to fits m (length w - 1) (omega arith) in
      let at : length w - 1 - count_ones (path_to w (length w - 1)) + count_ones (path_to w (length w - 1)) ≡ length w - 1 = omega arith in
      let none = none_before r.reader _ _ r.member (rw (length-drop, at) (omega arith)) in
      record { index = length w - 1; low = omega arith; path = refl; counted = omega (arith, r.counted) }

  pub back_low : 0 < length w → count_ones (path_to w (length w - 1)) ≤ 40
  back_low h =
      let (low, r) = walked_to fits m (length w - 1) (omega arith) in
      let at : length w - 1 - count_ones (path_to w (length w - 1)) + count_ones (path_to w (length w - 1)) ≡ length w - 1 = omega arith in
      let left = one_there r.reader _ _ r.member (rw (length-drop, at) (omega arith)) in
      omega (arith, (point_bounds n _ _ fits left).1)

  pub back_end : {before : ℕ} → BackAt n w 0 before → before ≡ count_before w (list_of n)
  back_end k = omega (arith, k.counted, flat_none k.index (omega (arith, k.low)) (sym k.path))

  module _ {left before bit below : ℕ} (k : BackAt n w left before) (t : TopOf left bit below) where
    here : RiseAt n w k.index bit below
    here = rise_at k.index (omega (arith, k.low)) (rw k.path at t)

    to_here : (count_ones below ≤ bit) × RankWalked n w (bit - count_ones below) (count_ones below) (before_by n w bit)
    to_here = rw here.path (walked_to fits m bit (omega (arith, here.within, k.low)))

    left_here : bit - count_ones below + count_ones below + 1 < length w
    left_here = omega (arith, to_here.0, here.within, k.low)

    pub back_more : 2 ≤ rest_at n (bit - count_ones below) (count_ones below)
    back_more = more_left n w _ _ _ to_here.1 left_here

    pub back_can : rest_at n (bit - count_ones below) (count_ones below) % 3 ≤ 1
    back_can =
        let at : bit - count_ones below + count_ones below ≡ bit = omega (arith, to_here.0) in
        rank_can n w _ _ _ to_here.1 left_here (rw at here.rises)

    pub back_next : BackAt n w below (before + turned n below bit)
    back_next =
        record {
          index = bit;
          low = omega (arith, here.within, k.low);
          path = here.path;
          counted = omega (arith, k.counted, here.counted);
        }

    pub back_fits : before + turned n below bit < 2 ^ 64
    back_fits = omega (arith, back_next.counted, to_here.1.fits)

-- ---- the numbers at a point where b can rise

module _ {n a b : ℕ} (low : a < 64) (more : 2 ≤ rest_at n a b) (can : rest_at n a b % 3 ≤ 1) where
  above_is : {l : List ℕ} → CountRows n (suc b) l → slice_index l (row_place 0 6 (b + 1) + a) ≡ ways true (rest_at n a b / 3)
  above_is r =
      let e : b + 1 ≡ suc b = omega arith in
      let there : rest_at n a (suc b) ≡ rest_at n a b / 3 = rw e at (rest_up n a b) in
      rw e (read_count a (suc b) r (omega arith) (omega arith) low (rw there (omega arith))) ∙ ap (ways true) there

  -- The number there without the number above counts the words with a rise of a. l has the rows above, l' row b too.
  pub rising_is : {l l' : List ℕ} → CountRows n (suc b) l → CountRows n b l'
      → slice_index l' (row_place 0 6 b + a) ≡ ways false (rest_at n a b / 2) + slice_index l (row_place 0 6 (b + 1) + a)
  rising_is r s =
      read_count a b s (omega arith) (omega arith) low (omega arith)
      ∙ both_ways (rest_at n a b) (omega arith) can
      ∙ ap (λ (x : ℕ). ways false (rest_at n a b / 2) + x) (sym (above_is r))
