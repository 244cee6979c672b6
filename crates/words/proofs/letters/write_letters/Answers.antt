-- The largest part's letter and the zeros behind it are the end of the places; the walk back puts the rest of the word before them.
use mathlib.Core.Path.{◌≡◌, refl, sym, ap, ap₂, ◌∙◌}
use mathlib.Core.List.{List, [], ◌∷◌, ◌++◌, append_assoc}
use Prim.Native.Nat.{ℕ, ◌+◌, ◌-◌, ◌≤◌, ◌<◌}
use native.Mathlib.Omega.{arith}
use lib.ListN.{length, drop, get_or, set, replicate, length-set}
use Rattle.chains.specs.Chains.{Part}
use Rattle.chains.specs.Words.{Word, origin, path, marked, walk, word_of}
use Rattle.parts.specs.Parts.{part_at}
use Rattle.lent.specs.Lent.{zeros, filled}
use Rattle.words.specs.Records.{record_parts}
use Rattle.words.specs.Walks.{between, place, WayBack, Writable}
use Rattle.words.proofs.Back.{no_word, known, parted, letters, last, way}
use Rattle.words.proofs.Between.{run, filled_run, length_between, between_none, between_more, between_join, drop_between}
use borrow.Rule.Slice.PartMut.{mid_of, put_mid}
use Rattle.std.proofs.lemmas.List.{length-replicate}
use Rattle.words.proofs.letters.write_letters.Goals as goal

-- What stands behind the letters of a walk stays there.
walk_append : (p : Part) (c : List Part) (w t : Word) → walk p c (w ++ t) ≡ walk p c w ++ t
unfolding walk
walk_append p [] w t = sym (append_assoc (path origin p) w t)
walk_append p (q ∷ c) w t =
    ap (λ v. walk q c v) (sym (append_assoc (marked (path q p)) w t)) ∙ walk_append q c (marked (path q p) ++ w) t

-- The record of the empty chain.
only_zeros : (l : List ℕ) → length l ≡ 0 → (s r : List ℕ) → r ≡ run 0 64 0 s → r ≡ filled 64 (word_of (record_parts l)) s
unfolding filled zeros word_of between
only_zeros l none s r e = rw (no_word l none) e

-- A record with a largest part p: the way back from it, in as many places.
way_in : (t l : List ℕ) (n : ℕ) (able : Writable t l n) (some : length l ≡ 0 → ⊥) (p : Part) (e : p ≡ part_at (get_or l 0 0))
    (m : ℕ) → m ≡ n → WayBack t l 1 p m
way_in t l n able some p e m same = way t l n able some p e m (omega (arith, last t l n able some p e, able.room))

-- s at entry, r with the last letter and the zeros.
module _ (t l : List ℕ) (n : ℕ) (able : Writable t l n) (some : length l ≡ 0 → ⊥) (p : Part) (e : p ≡ part_at (get_or l 0 0))
    (s r : List ℕ) (same : length s ≡ n) (er : r ≡ run (place p + 1) 64 0 (set s (place p) 3)) where
  last_place : place p < 64
  last_place = last t l n able some p e

  end : drop (place p) r ≡ (3 ∷ []) ++ (zeros (64 - (place p + 1)) ++ drop 64 s)
  unfolding zeros
  end =
      let room = able.room in
      let here = place p in
      let one : set s here 3 ≡ between here (here + 1) (3 ∷ []) s =
      ap (λ z. set z here 3) (between_none s here)
      ∙ between_more s here here [] (omega arith) (omega (arith, last_place)) (omega arith) 3 (omega (arith, last_place)) in
      ap (λ z. drop here z) (er ∙ ap (λ z. run (here + 1) 64 0 z) one
      ∙ between_join s here (here + 1) (3 ∷ []) (omega arith) (omega (arith, last_place)) (omega arith) 64
      (replicate (64 - (here + 1)) 0) (omega (arith, last_place)) (omega (arith, room)))
      ∙ drop_between s here 64 ((3 ∷ []) ++ replicate (64 - (here + 1)) 0) (omega (arith, last_place))

  whole : (x : List ℕ) → x ≡ walk p (record_parts (drop 1 l)) (drop (place p) r) → x ≡ filled 64 (word_of (record_parts l)) s
  unfolding filled word_of
  whole x ex =
      ex
      ∙ ap (λ w. walk p (record_parts (drop 1 l)) w) end
      ∙ walk_append p (record_parts (drop 1 l)) (3 ∷ []) (zeros (64 - (place p + 1)) ++ drop 64 s)
      ∙ ap₂ (λ c k. word_of c ++ (zeros (64 - k) ++ drop 64 s)) (sym (parted t l n able some p e)) (sym (letters t l n able some p e))

pub returns-then-numbers-eq0 : goal.returns-then-numbers-eq0
unfolding word_of
returns-then-numbers-eq0 c =
    let l = c.if-numbers-eq0.true in
    let zeroed = filled_run c.args.places.now 0 64 0 (omega arith) c.requires.room _ (c.fill.ensures.after (λ y e. e)) in
    record { value = rw (no_word _ l); places_after = only_zeros _ l _ _ zeroed }

pub part_of-largest-requires : goal.part_of-largest-requires
part_of-largest-requires c =
    known _ _ _ c.requires c.if-numbers-eq0.false

-- The places after the last letter, zeroed.
zeroed : (s : List ℕ) (j : ℕ) → j < 64 → 64 ≤ length s → (ys : List ℕ) → ys ≡ replicate (length (mid_of (j + 1) (64 - (j + 1)) (set s j 3))) 0
    → (put_mid (j + 1) (64 - (j + 1)) (set s j 3) ys ≡ run (j + 1) 64 0 (set s j 3))
    × (length (put_mid (j + 1) (64 - (j + 1)) (set s j 3) ys) ≡ length s)
zeroed s j h k ys e =
    let room : 64 ≤ length (set s j 3) = simp length-set k in
    let all = filled_run (set s j 3) (j + 1) 64 0 (omega arith) room ys e in
    (all, ap length all ∙ length_between (set s j 3) (j + 1) 64 _ (omega arith) room (length-replicate (64 - (j + 1)) 0) ∙ simp length-set)

pub overflow_add-last : goal.overflow_add-last
overflow_add-last c = omega (arith, last _ _ _ c.requires c.if-numbers-eq0.false _ c.part_of-largest.ensures)

pub bounds-places-last : goal.bounds-places-last
bounds-places-last c = omega (arith, last _ _ _ c.requires c.if-numbers-eq0.false _ c.part_of-largest.ensures, c.requires.room)

pub overflow_add-last-2 : goal.overflow_add-last-2
overflow_add-last-2 c = omega (arith, last _ _ _ c.requires c.if-numbers-eq0.false _ c.part_of-largest.ensures)

pub slice_bounds-fill-count-2 : goal.slice_bounds-fill-count-2
slice_bounds-fill-count-2 c = omega (arith, last _ _ _ c.requires c.if-numbers-eq0.false _ c.part_of-largest.ensures)

pub slice_bounds-fill-start-2 : goal.slice_bounds-fill-start-2
slice_bounds-fill-start-2 c = omega (arith, last _ _ _ c.requires c.if-numbers-eq0.false _ c.part_of-largest.ensures)

pub write_back-requires : goal.write_back-requires
write_back-requires c =
    way_in _ _ _ c.requires c.if-numbers-eq0.false _ c.part_of-largest.ensures _
    (zeroed _ _ (last _ _ _ c.requires c.if-numbers-eq0.false _ c.part_of-largest.ensures) c.requires.room _ (c.fill-2.ensures.after (λ y e. e))).1

pub overflow_add-result : goal.overflow_add-result
overflow_add-result c = omega (arith, last _ _ _ c.requires c.if-numbers-eq0.false _ c.part_of-largest.ensures)

pub returns : goal.returns
returns c =
    let placed = last _ _ _ c.requires c.if-numbers-eq0.false _ c.part_of-largest.ensures in
    let behind = zeroed _ _ placed c.requires.room _ (c.fill-2.ensures.after (λ y e. e)) in
    record {
      value = sym (letters _ _ _ c.requires c.if-numbers-eq0.false _ c.part_of-largest.ensures);
      places_after = whole _ _ _ c.requires c.if-numbers-eq0.false _ c.part_of-largest.ensures _ _ refl behind.0 _ c.write_back.ensures;
    }
