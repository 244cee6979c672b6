-- The two numbers hold the letters from the part p on, and the parts below p give the rest of the word; the numbers passed are in the
-- table, their parts are a chain if those that are left are one below p, and the sum so far and that of the parts that are left make
-- the whole: this is the invariant. One turn follows the definition's own line.
use Rattle.std.proofs.Common.{Ok}
use mathlib.Core.Path.{◌≡◌, refl, sym, ap, subst, ◌∙◌}
use mathlib.Core.Logic.Iff
use mathlib.Core.Logic.{◌↔◌}
use mathlib.Core.Bool.{Bool, true, false, false≢true}
use mathlib.Core.List.{List, [], ◌∷◌, ◌++◌}
use Prim.Native.Nat.{ℕ, ◌+◌, ◌-◌, ◌^◌, ◌≤◌, ◌<◌}
use native.Mathlib.Nat.{pow-le-pow_right, mul-le-mul_right, lt_of_not-le}
use native.Mathlib.Numerals.{add-one}
use native.Mathlib.Omega.{arith}
use lib.Dec.{ltb}
use lib.ListN.{length, drop, get_or, drop_of_length-le, length-append}
use lib.Pow.{pow_pos}
use lib.Seq.{drop-cons}
use borrow.Author.Tests.{ltb-true, ltb-false, lt-leb}
use Rattle.chains.specs.Chains.{Part, value, ProperMultiple, Chained, total}
use Rattle.chains.specs.Divides.{Above}
use Rattle.chains.proofs.Divides.{value_pos, same_part_lem, multiple_above}
use Rattle.chains.specs.Words.{origin, path, marked, walk, word_of}
use Rattle.parts.specs.Parts.{part_at}
use Rattle.parts.proofs.Numbers.{parts_ascend, part_value, part_below}
use Rattle.parts.proofs.CodeLaws.{part_bounded}
use Rattle.words.specs.Records.{record_parts, beyond, Burned}
use Rattle.words.specs.RecordLaws.{in_table, number_known, judged_sum}
use Rattle.words.specs.Walks.{place, NoSum, Begun, steps, rises_from, marks_from, Joins}
use Rattle.words.specs.Packed.{bits, packed_word, packed_by, packed_of}
use Rattle.words.specs.PackedLaws.{length_path, before_path, before_marked, length_marked, joined_below}
use Rattle.words.proofs.Judging.{refused}
use Rattle.words.proofs.packing.pack_back.Invariants.{Packing}
use Rattle.words.proofs.packing.pack_back.Goals as goal

-- One number more is in the table.
passed : (l : List ℕ) (i : ℕ) → i < length l → get_or l i 0 < 1344 → beyond (drop i l) ≡ beyond (drop (i + 1) l)
unfolding beyond
passed l i h k = rw (add-one, drop-cons l i 0 h, lt-leb 1344 (get_or l i 0) k)

-- A part of the table is below 2^64, and parts ascend with their numbers.
known_low : (p : Part) (i : ℕ) → i < 1344 → p ≡ part_at i → value p < 2 ^ 64
known_low p i h e = omega (arith, ap value e, part_value i h, part_below i h)

ascend : (p q : Part) (i j : ℕ) → p ≡ part_at i → q ≡ part_at j → j < i → i < 1344 → value q < value p
ascend p q i j ep eq h k =
    omega (arith, ap value ep, ap value eq, part_value i k, part_value j (omega arith), parts_ascend j i h k)

-- A proper multiple is larger.
larger : (p q : Part) → ProperMultiple (value p) (value q) → value q < value p
unfolding ProperMultiple
larger p q (k, two, e) = omega (arith, mul-le-mul_right (value q) two, value_pos q)

-- Before the first number after the largest part.
module _ (t s l : List ℕ) (p : Part) (g : Begun t s l p) (n : ℕ) (e : n ≡ value p) where
  parted : record_parts l ≡ p ∷ record_parts (drop 1 l)
  unfolding record_parts
  parted = ap (λ k. record_parts k) (drop-cons l 0 0 g.some) ∙ rw g.largest refl

  start : Packing l p 1 (get_or l 0 0) p n 1 1
  unfolding bits word_of total
  start =
      record {
        w = 3 ∷ [];
        word = ap word_of parted;
        held = record { rising = refl; marking = refl };
        low_rises = omega arith;
        low_marks = omega arith;
        some = omega arith;
        few = omega arith;
        long = omega arith;
        room = rw g.largest (part_bounded (get_or l 0 0) g.known).0;
        inside = g.known;
        part = g.largest;
        known = passed l 0 g.some g.known;
        chained = (subst Chained parted, subst Chained (sym parted));
        low = rw e (known_low p (get_or l 0 0) g.known g.largest);
        sum = omega (arith, ap total parted);
      }

-- The bits from q up to p before those of w: how large they are, and that they fit.
module _ (q p : Part) (part rises marks k : ℕ) (across : q.a ≤ p.a) (upward : q.b ≤ p.b) (small : part < 2 ^ steps q p)
    (low_rises : rises < 2 ^ k) (low_marks : marks < 2 ^ k) where
  rises_low : rises_from q p rises < 2 ^ (steps q p + k)
  rises_low =
      let ones : 2 ^ (p.b - q.b) ≤ 2 ^ steps q p = pow-le-pow_right {n = 2} (omega arith) (omega arith) in
      joined_below (2 ^ (p.b - q.b) - 1) rises (steps q p) k (omega (arith, pow_pos (p.b - q.b))) low_rises

  marks_low : marks_from q p part marks < 2 ^ (steps q p + k)
  marks_low = joined_below part marks (steps q p) k small low_marks

  joins : 0 < k → steps q p + k ≤ 64 → Joins q p part rises marks
  joins some room =
      let most : 2 ^ (steps q p + k) ≤ 2 ^ 64 = pow-le-pow_right {n = 2} (omega arith) room in
      record {
        across = across;
        upward = upward;
        few = omega arith;
        rises_fit = omega (arith, rises_low);
        marks_fit = omega (arith, marks_low);
      }

-- One number more, whose part is q.
module _ (l : List ℕ) (p₀ : Part) (i last : ℕ) (p : Part) (n rises marks : ℕ) (so : Packing l p₀ i last p n rises marks)
    (h : i < length l) (q : Part) (e : q ≡ part_at (get_or l i 0)) where
  below : record_parts (drop i l) ≡ q ∷ record_parts (drop (i + 1) l)
  unfolding record_parts
  below = rw (add-one, drop-cons l i 0 h, e)

  -- In a chain q is below p.
  multiple : (m : ℕ) → Burned l m → ProperMultiple (value p) (value q)
  multiple m b = (subst (λ k. Chained (p ∷ k)) below (so.chained.0 b.chain.chained)).0

  -- p does not stand above q: the parts are no chain.
  unchained : (r : Bool) → (r ≡ true) ↔ ((q.a ≤ p.a) × (q.b ≤ p.b)) → r ≡ false → NoSum l
  unchained r told f m j =
      let a = (multiple_above p q).0 (multiple m ((judged_sum l m).0 j)) in
      false≢true (sym f ∙ told.1 (a.across, a.upward))

  -- The number does not descend: it is past the table, or the parts are no chain.
  unordered : last ≤ get_or l i 0 → NoSum l
  unordered k m j = go (ltb last (get_or l i 0)) refl
    where
      b : Burned l m
      b = (judged_sum l m).0 j

      go : (t : Bool) → ltb last (get_or l i 0) ≡ t → ⊥
      go true d =
          let more = ltb-true last (get_or l i 0) d in
          let known = number_known l i ((in_table l).1 b.known) h in
          omega (arith, larger p q (multiple m b), ascend q p (get_or l i 0) last e so.part more known)
      go false d =
          let same : last ≡ get_or l i 0 = omega (arith, ltb-false last (get_or l i 0) d) in
          omega (arith, larger p q (multiple m b), ap value so.part, ap value e, ap (λ x. value (part_at x)) same)

  -- The part v is added.
  module _ (v : ℕ) (ev : v ≡ value q) where
    added : n + v + total (record_parts (drop (i + 1) l)) ≡ total (record_parts l)
    unfolding total
    added = omega (arith, so.sum, ap total below)

    too_large : (n + v < 2 ^ 64 → ⊥) → NoSum l
    too_large k m j = let b = (judged_sum l m).0 j in omega (arith, k, added, b.chain.sums, b.fits)

    module _ (within : (q.a ≤ p.a) × (q.b ≤ p.b)) (less : get_or l i 0 < last) where
      above : Above p q
      above =
          record {
            across = within.0;
            upward = within.1;
            apart = lt_of_not-le (λ (k : p.a + p.b ≤ q.a + q.b).
                omega (
                  arith,
                  ascend p q last (get_or l i 0) so.part e less so.inside,
                  ap value (same_part_lem p q (omega arith) (omega arith)),
                ));
          }

      apart : 0 < steps q p
      apart = omega (arith, above.across, above.upward, above.apart)

      part_low : 1 < 2 ^ steps q p
      part_low = let two : 2 ^ 1 ≤ 2 ^ steps q p = pow-le-pow_right {n = 2} (omega arith) apart in omega (arith, two)

      able : Joins q p 1 rises marks
      able =
          joins q p 1 rises marks (length so.w) above.across above.upward part_low so.low_rises so.low_marks so.some
          (omega (arith, so.long, so.room, above.across, above.upward))

      linked : Chained (p ∷ record_parts (drop i l)) ↔ Chained (q ∷ record_parts (drop (i + 1) l))
      linked = (
        λ c. (subst (λ k. Chained (p ∷ k)) below c).1,
        λ c. subst (λ k. Chained (p ∷ k)) (sym below) ((multiple_above p q).1 above, c),
      )

      more : n + v < 2 ^ 64 → (s r m : ℕ) → s ≡ n + v → r ≡ rises_from q p rises → m ≡ marks_from q p 1 marks
          → Packing l p₀ (i + 1) (get_or l i 0) q s r m
      unfolding walk
      more fits s r m es er em =
          let j = length so.w in
          let held = before_marked q p so.w apart in
          let long = length_marked q p so.w apart in
          record {
            w = marked (path q p) ++ so.w;
            word = so.word ∙ ap (λ c. walk p c so.w) below;
            held = record {
              rising = er ∙ ap (rises_from q p) so.held.rising ∙ held.rising;
              marking = em ∙ ap (marks_from q p 1) so.held.marking ∙ held.marking;
            };
            low_rises = rw (er, long)
                (rises_low q p 1 rises marks j above.across above.upward part_low so.low_rises so.low_marks);
            low_marks = rw (em, long)
                (marks_low q p 1 rises marks j above.across above.upward part_low so.low_rises so.low_marks);
            some = omega (arith, long, so.some);
            few = omega (arith, long, so.few, apart);
            long = omega (arith, long, so.long, above.across, above.upward);
            room = so.room;
            inside = omega (arith, so.inside);
            part = e;
            known = so.known ∙ passed l i h (omega (arith, so.inside));
            chained = Iff.trans so.chained linked;
            low = omega (arith, es, fits);
            sum = rw es added;
          }

-- No part is left: from the last one to (0, 0).
module _ (l : List ℕ) (p₀ : Part) (i last : ℕ) (p : Part) (n rises marks : ℕ) (so : Packing l p₀ i last p n rises marks) where
  to_origin : Joins origin p 0 rises marks
  to_origin =
      joins origin p 0 rises marks (length so.w) (omega arith) (omega arith) (pow_pos (steps origin p)) so.low_rises
      so.low_marks so.some (omega (arith, so.long, so.room))

  module _ (h : length l ≤ i) where
    gone : drop i l ≡ []
    gone = drop_of_length-le l h

    burned : Burned l n
    unfolding beyond record_parts total
    burned =
        record {
          few = omega (arith, so.few, so.long, so.room);
          known = (in_table l).0 (so.known ∙ ap beyond gone);
          chain = record {
            chained = so.chained.1 (subst (λ k. Chained (p ∷ record_parts k)) (sym gone) tt);
            sums = omega (arith, so.sum, ap (λ k. total (record_parts k)) gone);
          };
          fits = so.low;
        }

    packs : packed_of l ≡ Ok (packed_word n (word_of (record_parts l)))
    unfolding packed_of packed_by
    packs = rw ((judged_sum l n).1 burned)

    word : word_of (record_parts l) ≡ path origin p ++ so.w
    unfolding walk record_parts
    word = so.word ∙ ap (λ c. walk p (record_parts c) so.w) gone

    letters : place p₀ + 1 ≡ length (path origin p ++ so.w)
    letters = sym (length-append (path origin p) so.w ∙ omega (arith, length_path origin p, so.long))

    whole : (r m : ℕ) → r ≡ rises_from origin p rises → m ≡ marks_from origin p 0 marks → Ok (record { n = n; rises = r; marks = m; letters = place p₀ + 1 }) ≡ packed_of l
    unfolding packed_word
    whole r m er em =
        let held = before_path origin p so.w in
        let er' = er ∙ ap (rises_from origin p) so.held.rising ∙ held.rising in
        let em' = em ∙ ap (marks_from origin p 0) so.held.marking ∙ held.marking in
        rw (packs, word, er', em', letters)

pub value_at-n-requires : goal.value_at-n-requires
value_at-n-requires c =
    known_low _ _ c.requires.known c.requires.largest

pub bounds-numbers-0 : goal.bounds-numbers-0
bounds-numbers-0 c =
    omega (arith, c.requires.some)

pub loop-i-init : goal.loop-i-init
loop-i-init c =
    start _ _ _ _ c.requires _ c.value_at-n.ensures

pub refusal-requires : goal.refusal-requires
refusal-requires c =
    unordered _ _ _ _ _ _ _ _ c.loop-i.invariant c.loop-i-test.true _ refl c.if-last-number.true

pub returns-then-last-number : goal.returns-then-last-number
returns-then-last-number c =
    refused _ _ c.refusal.ensures

pub part_of-q-requires : goal.part_of-q-requires
part_of-q-requires c =
    omega (arith, c.loop-i.invariant.inside, c.if-last-number.false)

pub refusal-requires-then-not-is_within : goal.refusal-requires-then-not-is_within
refusal-requires-then-not-is_within c =
    unchained _ _ _ _ _ _ _ _ c.loop-i.invariant c.loop-i-test.true _ c.part_of-q.ensures _ c.is_within.ensures c.if-not-is_within.true

pub returns-then-not-is_within : goal.returns-then-not-is_within
returns-then-not-is_within c =
    refused _ _ c.refusal-then-not-is_within.ensures

pub value_at-requires : goal.value_at-requires
value_at-requires c =
    known_low _ _ (omega (arith, c.loop-i.invariant.inside, c.if-last-number.false)) c.part_of-q.ensures

pub refusal-requires-in_default : goal.refusal-requires-in_default
refusal-requires-in_default c =
    too_large _ _ _ _ _ _ _ _ c.loop-i.invariant c.loop-i-test.true _ c.part_of-q.ensures _ c.value_at.ensures c.in_default.ensures

pub returns-in_default : goal.returns-in_default
returns-in_default c =
    refused _ _ c.refusal-in_default.ensures

pub with_path-found-requires : goal.with_path-found-requires
with_path-found-requires c =
    able _ _ _ _ _ _ _ _ c.loop-i.invariant c.loop-i-test.true _ c.part_of-q.ensures _ c.value_at.ensures
    (c.is_within.ensures.0 c.if-not-is_within.false) c.if-last-number.false

pub loop-i-preserved : goal.loop-i-preserved
loop-i-preserved c =
    more _ _ _ _ _ _ _ _ c.loop-i.invariant c.loop-i-test.true _ c.part_of-q.ensures _ c.value_at.ensures
    (c.is_within.ensures.0 c.if-not-is_within.false) c.if-last-number.false c.in-Some.ensures.0 _ _ _ c.in-Some.ensures.1 c.with_path-found.ensures.0
    c.with_path-found.ensures.1

pub with_path-whole-requires : goal.with_path-whole-requires
with_path-whole-requires c =
    to_origin _ _ _ _ _ _ _ _ c.loop-i.invariant

pub overflow_add-result : goal.overflow_add-result
overflow_add-result c =
    let v = c.loop-i.invariant in omega (arith, v.room)

pub overflow_add-result-2 : goal.overflow_add-result-2
overflow_add-result-2 c =
    let v = c.loop-i.invariant in omega (arith, v.room)

pub returns : goal.returns
returns c =
    whole _ _ _ _ _ _ _ _ c.loop-i.invariant c.loop-i-test.false _ _ c.with_path-whole.ensures.0 c.with_path-whole.ensures.1
