-- The walk along the table of least keys finds the cheapest word, letter by letter: by the letter that the smaller key follows, the first
-- where both keys are equal.
--
-- In this order: the bits of the letters; what a step reads in the table, and how large it is; the letter that it
-- takes; the start and the end of the walk.
use Rattle.std.specs.Prelude.{◌≡◌, ◌≢◌, Bool, false, cond, List, [], ◌∷◌, T, length}
use Rattle.std.proofs.Math.Path.{refl, sym}
use Rattle.std.proofs.Common.{ap, ◌∙◌, pow-suc, pow_mono}
use Rattle.std.proofs.Math.Bool.{true}
use Rattle.std.proofs.Math.Option.{none, some}
use Prim.Native.Nat.{ℕ, zero, suc, ◌+◌, ◌-◌, ◌*◌, ◌/◌, ◌%◌, ◌^◌, ◌≤◌, ◌<◌, min}
use Rattle.std.proofs.Math.Numerals.{add-one}
use native.Mathlib.Omega.{arith}
use Rattle.std.proofs.Math.ListN.{get_or}
use Rattle.chains.specs.Words.{Word}
use Rattle.chains.proofs.Members.{rises}
use Rattle.chains.proofs.Marks.{point}
use Rattle.chains.specs.Keys.{limited_by, best_on}
use Rattle.chains.proofs.Carried.{lead, lead_word, cond_word, rises_low, best_on_one, take_a_on, take_b_on, least_on_told}
use Rattle.chains.proofs.PartLimit.{limited_carried}
use Rattle.words.specs.Packed.{bits, rise, mark}
use Rattle.grid.specs.Grid.{rest_at}
use Rattle.grid.specs.Rests.{rest_origin, rest_right, rest_up, point_bounds}
use Rattle.best.specs.KeyTable.{no_key, letter_by, costs_by, third_key}
use Rattle.limited.specs.Table.{start, width}
use Rattle.limited.specs.TableLaws.{start_next, start_low, point_within, read_free, read_after}
use Rattle.limited.specs.Cells.{key_in}
use Rattle.limited.specs.KeyLaws.{state_right, state_up, key_at_most, key_none, key_step}
use Rattle.limited.specs.KeyCells.{letter_a}
use Rattle.limited.specs.Walk.{cheap_from, Keyed, FirstBits, Walked, StepAsked, Stepped, third_of, WalkStart, Spelled}
use Rattle.limited.specs.declared.walk.Walk.{Walk}

-- ---- the bits of the letters

-- A letter's bit, taken or not.
pub times_bit : (letter i : ℕ) → i ≤ 1 → letter * i ≤ letter
times_bit letter zero h = omega arith
times_bit letter (suc zero) h = omega arith
times_bit letter (suc (suc i)) h = absurd (omega arith)

-- A letter more: its bit is added.
bits_more : (f : ℕ → ℕ) (whole word v : Word) (l letter x : ℕ) → f l ≤ 1 → word ≡ l ∷ v → FirstBits f whole word letter x
    → FirstBits f whole v (2 * letter) (x + letter * f l)
unfolding bits
bits_more f whole word v l letter x low e t =
    let all : x + letter * (f l + 2 * bits f v) ≡ bits f whole = rw e at t.joined in
    record { joined = omega arith; few = omega (arith, t.few, times_bit letter (f l) low) }

-- The last letter is 3.
bits_last : (f : ℕ → ℕ) (whole word : Word) (letter x : ℕ) → f 3 ≡ 1 → word ≡ 3 ∷ [] → FirstBits f whole word letter x
    → x + letter ≡ bits f whole
unfolding bits
bits_last f whole word letter x one e t =
    let all : x + letter * (f 3 + 2 * 0) ≡ bits f whole = rw e at t.joined in
    let all' : x + letter * 1 ≡ bits f whole = rw one at all in
    omega arith

-- ---- a step

module _ {costs : List ℕ} {A B most n : ℕ} {scratch : List ℕ} {w : Walk} (keys : Keyed costs A B most n scratch)
    (s : StepAsked costs A B most n w) where
  fits : n < 2 ^ 64
  fits = keys.small

  abbrev a : ℕ
  a = w.a

  abbrev b : ℕ
  b = w.b

  abbrev k : ℕ
  k = w.left

  abbrev rest : ℕ
  rest = w.rest

  -- A part is allowed, since there is a word.
  some_allowed : 1 ≤ k
  some_allowed = pos k refl
    where
      pos : (x : ℕ) → k ≡ x → 1 ≤ x
      pos zero e =
          absurd
          (omega (
            arith,
            s.walked.low,
            ap (key_in costs A B b a rest w.free) e,
            key_none costs A B a b rest w.free (omega (arith, s.more)),
          ))
      pos (suc x) e = omega arith

  right_left : 1 ≤ rest_at n (a + 1) b
  right_left = rw (rest_right, ← s.walked.here) (omega (arith, s.more))

  low_point : (a + 1 + b < 64) × (b < 41)
  low_point = point_bounds n (a + 1) b fits right_left

  row_is : (a + 1 < width b) × (start b + width b ≤ 1344)
  row_is = (
    point_within n (a + 1) b fits low_point.1 right_left,
    omega (arith, start_next b, start_low (suc b) (omega (arith, low_point))),
  )

  -- What the code needs of the numbers of a walk.
  pub bounds : (b < 41) × (a < 64) × (w.at + 130 * width b ≤ 200000) × (w.at + 260 ≤ 174720) × (1 ≤ k) × (k < 65)
      × (w.letter ≤ 2 ^ 62) × (w.rises < w.letter) × (w.marks < w.letter)
  bounds =
      let p : 2 ^ (a + b) ≤ 2 ^ 62 = pow_mono {j = 62} (omega (arith, low_point)) in
      let l : w.letter ≤ 2 ^ 62 = rw s.walked.bit p in (
        low_point.1,
        omega (arith, low_point),
        omega (arith, row_is, low_point, s.walked.block),
        omega (arith, row_is, s.walked.block),
        some_allowed,
        omega (arith, s.walked.few, keys.few),
        l,
        s.walked.rising.few,
        s.walked.marking.few,
      )

  -- The key by a rise of a.
  abbrev half_here : ℕ
  half_here = letter_by costs (rest % 2) + key_in costs A B b (suc a) (rest / 2) false (k - rest % 2)

  pub right_in_lem : w.at + 195 + k - rest % 2 < length scratch
  right_in_lem = omega (arith, row_is, s.walked.block, keys.size, bounds)

  beside_is : get_or scratch (w.at + 195 + k - rest % 2) 0 ≡ key_in costs A B b (suc a) (rest / 2) false (k - rest % 2)
  beside_is =
      let i : w.at + 195 + k - rest % 2 ≡ 130 * (start b + (a + 1)) + 65 + (k - rest % 2) =
      omega (arith, some_allowed, s.walked.block) in
      rw i
      (read_after keys.table (a + 1) b (k - rest % 2) (omega arith) low_point.1 right_left (omega (arith, s.walked.few))
      ∙ rw (rest_right, add-one, ← s.walked.here))

  pub half_is : get_or scratch (w.at + 195 + k - rest % 2) 0 + get_or costs (rest % 2) 0 ≡ half_here
  half_is = omega (arith, beside_is, letter_a costs (rest % 2) (omega arith))

  pub half_fits : get_or scratch (w.at + 195 + k - rest % 2) 0 + get_or costs (rest % 2) 0 ≤ 2 * no_key
  half_fits =
      omega (arith, beside_is, key_at_most costs A B (suc a) b (rest / 2) false (k - rest % 2), keys.low.each (rest % 2))

  -- Where b may rise, something is left in the row above.
  module _ (may : rest % 3 ≤ 1) where
    above_left : 1 ≤ rest_at n a (b + 1)
    above_left = rw (rest_up, ← s.walked.here) (omega (arith, s.more))

    above_row : b + 1 < 41
    above_row = (point_bounds n a (b + 1) fits above_left).1

    up_is : (start (b + 1) ≡ start b + width b) × (a < width (b + 1)) × (start (b + 1) + width (b + 1) ≤ 1344)
    up_is = (
      rw add-one (start_next b),
      point_within n a (b + 1) fits above_row above_left,
      omega (arith, start_next (b + 1), start_low (suc (b + 1)) (omega (arith, above_row))),
    )

    pub above_in : w.at + 130 * width b + k < length scratch
    above_in = omega (arith, up_is, s.walked.block, keys.size, bounds)

    above_is : (r : ℕ) → rest % 3 ≡ r
        → get_or scratch (w.at + 130 * width b + k - r) 0 ≡ key_in costs A B (suc b) a (rest / 3) true (k - r)
    above_is r e =
        let i : w.at + 130 * width b + k - r ≡ 130 * (start (b + 1) + a) + (k - r) =
        omega (arith, some_allowed, s.walked.block, up_is) in
        rw i
        (read_free keys.table a (b + 1) (k - r) (omega arith) above_row above_left (omega (arith, s.walked.few))
        ∙ rw (rest_up, add-one, ← s.walked.here))

    pub above_fits : (r : ℕ) → rest % 3 ≡ r → get_or scratch (w.at + 130 * width b + k - r) 0 ≤ no_key
    above_fits r e = omega (arith, above_is r e, key_at_most costs A B a (suc b) (rest / 3) true (k - r))

  -- The key by a rise of b, in each case.
  pub third_1 : rest % 3 ≡ 1 → get_or scratch (w.at + 130 * width b + k - 1) 0 + get_or costs 3 0 ≡ third_of costs A B w
  unfolding rises letter_by
  third_1 e = rw e (omega (arith, above_is (omega arith) 1 e))

  pub third_0 : rest % 3 ≡ 0 → w.free ≡ true → get_or scratch (w.at + 130 * width b + k) 0 + get_or costs 2 0 ≡ third_of costs A B w
  unfolding rises letter_by
  third_0 e f =
      let z : w.at + 130 * width b + k - 0 ≡ w.at + 130 * width b + k = omega arith in
      let x : get_or scratch (w.at + 130 * width b + k) 0 ≡ key_in costs A B (suc b) a (rest / 3) true (k - 0) =
      rw z at (above_is (omega arith) 0 e) in
      rw (e, f) (omega arith)

  pub third_0_fits : rest % 3 ≡ 0 → get_or scratch (w.at + 130 * width b + k) 0 ≤ no_key
  third_0_fits e =
      let z : w.at + 130 * width b + k - 0 ≡ w.at + 130 * width b + k = omega arith in
      rw z at (above_fits (omega arith) 0 e)

  pub third_shut : rest % 3 ≡ 0 → w.free ≡ false → no_key ≡ third_of costs A B w
  unfolding rises
  third_shut e f = rw (e, f)

  pub third_2 : rest % 3 ≢ 0 → rest % 3 ≢ 1 → no_key ≡ third_of costs A B w
  unfolding rises
  third_2 n0 n1 = go (rest % 3) refl
    where
      go : (r : ℕ) → rest % 3 ≡ r → no_key ≡ third_key costs w.free r (key_in costs A B (suc b) a (rest / 3) true (k - r))
      go zero e = absurd (n0 e)
      go (suc zero) e = absurd (n1 e)
      go (suc (suc r)) e = refl

  -- ---- the letter that it takes

  least_is : key_in costs A B b a rest w.free k ≡ min half_here (third_of costs A B w)
  least_is = omega (arith, key_step costs A B a b rest w.free k s.more, s.walked.low)

  -- The letter l leads to w'.
  risen : (l : ℕ) (w' : Walk)
      → lead l (cheap_from costs A B w'.free w'.a w'.b w'.left w'.rest) ≡ some s.walked.word
      → w'.a + w'.b ≡ a + b + 1
      → w'.rest ≡ rest_at n w'.a w'.b
      → 1 ≤ w'.rest
      → w'.at ≡ 130 * (start w'.b + w'.a)
      → w'.left ≤ most
      → key_in costs A B w'.b w'.a w'.rest w'.free w'.left < no_key
      → w'.letter ≡ 2 * w.letter
      → l ≤ 3
      → w'.rises ≡ w.rises + w.letter * (l / 2)
      → w'.marks ≡ w.marks + w.letter * (l % 2)
      → Walked costs A B most n w'
  risen l w' e passed here left block few low bit small rising marking =
      let v = lead_word l (cheap_from costs A B w'.free w'.a w'.b w'.left w'.rest) s.walked.word e in
      record {
        here = here;
        some_left = left;
        block = block;
        few = few;
        low = low;
        bit = bit ∙ rw (passed, add-one, pow-suc 2 (a + b), s.walked.bit) (omega arith);
        whole = s.walked.whole;
        found = s.walked.found;
        word = v.0;
        follows = v.1;
        rising =
            rw (bit, rising)
            (bits_more rise s.walked.whole s.walked.word v.0 l w.letter w.rises (omega arith) v.2 s.walked.rising);
        marking =
            rw (bit, marking)
            (bits_more mark s.walked.whole s.walked.word v.0 l w.letter w.marks (omega arith) v.2 s.walked.marking);
      }

  taken_a : half_here ≤ third_of costs A B w
      → lead (rest % 2) (cheap_from costs A B false (suc a) b (k - rest % 2) (rest / 2)) ≡ some s.walked.word
  taken_a h =
      let r = state_right A B a b k rest in
      sym (rw r at
      (take_a_on (limited_carried A B) no_key (costs_by costs) (point a b, k) w.free rest s.more s.walked.low
      (rw r (omega (arith, least_is)))))
      ∙ s.walked.follows

  module _ (h : third_of costs A B w < half_here) where
    raised : T (rises w.free (rest % 3))
        × (lead (2 + rest % 3) (best_on (limited_by A B) (costs_by costs) ((limited_by A B).after (2 + rest % 3) (point a b, k)) true (rest / 3))
        ≡ some s.walked.word)
    raised =
        cond_word (rises w.free (rest % 3)) _ s.walked.word
        (sym (take_b_on (limited_carried A B) no_key (costs_by costs) (point a b, k) w.free rest s.more s.walked.low
        (rw (state_right A B a b k rest) (λ e. omega (arith, least_is))))
        ∙ s.walked.follows)

    pub may_rise : rest % 3 ≤ 1
    may_rise = rises_low w.free (rest % 3) raised.0

    taken_b : lead (2 + rest % 3) (cheap_from costs A B true a (suc b) (k - rest % 3) (rest / 3)) ≡ some s.walked.word
    taken_b = rw (state_up A B a b k rest may_rise) at raised.1

    above_low : key_in costs A B (suc b) a (rest / 3) true (k - rest % 3) < no_key
    above_low = go (rises w.free (rest % 3)) raised.0 (omega (arith, least_is, s.walked.low))
      where
        x : ℕ
        x = key_in costs A B (suc b) a (rest / 3) true (k - rest % 3)

        go : (i : Bool) → T i → cond i (letter_by costs (2 + rest % 3) + x) no_key < no_key → x < no_key
        go true t q = omega arith
        go false t q = absurd t

  -- a rises,
  pub step_a : half_here ≤ third_of costs A B w
      → Stepped costs A B most n w (record {
        a = a + 1;
        b = b;
        at = w.at + 130;
        left = k - rest % 2;
        free = false;
        rest = rest / 2;
        letter = 2 * w.letter;
        rises = w.rises;
        marks = w.marks + w.letter * (rest % 2);
      })
  step_a h =
      record {
        walked =
            risen (rest % 2) _ (rw add-one (taken_a h)) (omega arith) (rw (rest_right, s.walked.here)) (omega (arith, s.more))
            (omega (arith, s.walked.block)) (omega (arith, s.walked.few)) (rw add-one (omega (arith, least_is, s.walked.low)))
            refl (omega arith) (no_rise (rest % 2 / 2) (omega arith)) (same_mark (rest % 2 % 2) (rest % 2) (omega arith));
        less = omega (arith, s.more);
      }
    where
      no_rise : (i : ℕ) → i ≡ 0 → w.rises ≡ w.rises + w.letter * i
      no_rise i e = rw e (omega arith)

      same_mark : (i j : ℕ) → i ≡ j → w.marks + w.letter * j ≡ w.marks + w.letter * i
      same_mark i j e = rw e

  -- or b does.
  pub step_b : third_of costs A B w < half_here
      → Stepped costs A B most n w (record {
        a = a;
        b = b + 1;
        at = w.at + 130 * width b;
        left = k - rest % 3;
        free = true;
        rest = rest / 3;
        letter = 2 * w.letter;
        rises = w.rises + w.letter;
        marks = w.marks + w.letter * (rest % 3);
      })
  step_b h =
      let may = may_rise h in
      record {
        walked =
            risen (2 + rest % 3) _ (rw add-one (taken_b h)) (omega arith) (rw (rest_up, s.walked.here)) (omega (arith, s.more))
            (omega (arith, s.walked.block, up_is may)) (omega (arith, s.walked.few)) (rw add-one (above_low h)) refl (omega arith)
            (one_rise ((2 + rest % 3) / 2) (omega arith)) (same_mark ((2 + rest % 3) % 2) (rest % 3) (omega arith));
        less = omega (arith, s.more);
      }
    where
      one_rise : (i : ℕ) → i ≡ 1 → w.rises + w.letter ≡ w.rises + w.letter * i
      one_rise i e = rw e (omega arith)

      same_mark : (i j : ℕ) → i ≡ j → w.marks + w.letter * j ≡ w.marks + w.letter * i
      same_mark i j e = rw e

-- ---- the start and the end

-- The key of the cheapest word of n stands in the first block.
pub first_key : {costs : List ℕ} {A B most n : ℕ} {scratch : List ℕ} → Keyed costs A B most n scratch → 1 ≤ n
    → get_or scratch most 0 ≡ key_in costs A B 0 0 n true most
unfolding start
first_key {costs} {A} {B} {most} {n} {scratch} t h =
    ap (λ (i : ℕ). get_or scratch i 0) {x = most} {y = 0 + most} (omega arith)
    ∙ read_free t.table 0 0 most (omega arith) (omega arith) (rw rest_origin h) (omega arith)
    ∙ ap (λ (x : ℕ). key_in costs A B 0 0 x true most) (rest_origin n)

module _ {costs : List ℕ} {A B most n : ℕ} (s : WalkStart costs A B most n) where
  pub walk_start : Walked costs A B most n (record {
    a = 0;
    b = 0;
    at = 0;
    left = most;
    free = true;
    rest = n;
    letter = 1;
    rises = 0;
    marks = 0;
  })
  unfolding start
  walk_start =
      let t = least_on_told (limited_carried A B) no_key (costs_by costs) (point 0 0, most) true n s.found in
      record {
        here = sym (rest_origin n);
        some_left = s.some_left;
        block = refl;
        few = omega arith;
        low = s.found;
        bit = refl;
        whole = t.0;
        found = t.1;
        word = t.0;
        follows = t.1;
        rising = record { joined = omega arith; few = omega arith };
        marking = record { joined = omega arith; few = omega arith };
      }

module _ {costs : List ℕ} {A B most n : ℕ} {w : Walk} (fits : n < 2 ^ 64) (t : Walked costs A B most n w) where
  -- The last bits fit.
  pub ends_fit : (w.letter ≤ 2 ^ 63) × (w.rises < w.letter) × (w.marks < w.letter)
  ends_fit =
      let l = point_bounds n w.a w.b fits (rw t.here at t.some_left) in
      let p : 2 ^ (w.a + w.b) ≤ 2 ^ 63 = pow_mono {j = 63} (omega arith) in
      (rw t.bit p, t.rising.few, t.marking.few)

  pub walk_end : w.rest ≤ 1 → Spelled costs A B most n (w.rises + w.letter) (w.marks + w.letter)
  walk_end h =
      record {
        word = t.whole;
        found = t.found;
        rising = bits_last rise t.whole t.word w.letter w.rises refl last t.rising;
        marking = bits_last mark t.whole t.word w.letter w.marks refl last t.marking;
      }
    where
      end : (i : Bool) (v : Word) → cond i (some (3 ∷ [])) none ≡ some v → v ≡ 3 ∷ []
      end i v e = let c = cond_word i (some (3 ∷ [])) v e in cc

      last : t.word ≡ 3 ∷ []
      last =
          let one : w.rest ≡ 1 = omega (arith, t.some_left) in
          end ((limited_by A B).passes (point w.a w.b, w.left) (3 ∷ [])) t.word
          (sym (best_on_one (limited_carried A B) (costs_by costs) (point w.a w.b, w.left) w.free) ∙ rw one at t.follows)
