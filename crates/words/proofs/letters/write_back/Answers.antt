-- What is written from the part p on is the end of the word, and the parts below p give the rest of it: the walk from p goes on
-- from those letters to the whole word. This is the invariant; it is the definition's own line that one turn follows.
use mathlib.Core.Path.{◌≡◌, refl, sym, ap, ◌∙◌}
use mathlib.Core.List.{List}
use Prim.Native.Nat.{ℕ, ◌+◌, ◌≤◌, ◌<◌}
use native.Mathlib.Omega.{arith}
use lib.ListN.{length, drop, get_or, drop_of_length-le}
use Rattle.chains.specs.Chains.{Part}
use Rattle.chains.specs.Words.{origin, path, marked, walk}
use Rattle.parts.specs.Parts.{part_at}
use Rattle.words.specs.Records.{record_parts}
use Rattle.words.specs.RecordLaws.{number_known}
use Rattle.words.specs.Walks.{between, place, OnTheWay, WayBack}
use Rattle.words.proofs.Back.{below, above, next}
use Rattle.words.proofs.Between.{drop_between}
use Rattle.words.proofs.letters.write_back.Goals as goal

-- From the part p to the next part q.
module _ (t l : List ℕ) (i : ℕ) (p : Part) (n : ℕ) (way : WayBack t l i p n) (h : i < length l)
    (q : Part) (e : q ≡ part_at (get_or l i 0)) where
  on_the_way : (m : ℕ) → m ≡ n → OnTheWay q p m × (place q < place p)
  on_the_way m same =
      let a = above t l i p n way h q e in
      (record { across = a.across; upward = a.upward; room = omega (arith, way.room) }, a.apart)

  -- The places before and after the letters between them.
  step : (s r : List ℕ) → length s ≡ n → r ≡ between (place q) (place p) (marked (path q p)) s
      → walk p (record_parts (drop i l)) (drop (place p) s) ≡ walk q (record_parts (drop (i + 1) l)) (drop (place q) r)
  unfolding walk
  step s r m d =
      ap (λ c. walk p c (drop (place p) s)) (below t l i p n way h q e)
      ∙ ap (λ w. walk q (record_parts (drop (i + 1) l)) w)
      (sym (ap (λ x. drop (place q) x) d
      ∙ drop_between s (place q) (place p) (marked (path q p))
      (omega (arith, (above t l i p n way h q e).apart, way.room))))

-- No part is left: from the last one to (0, 0).
to_origin : (t l : List ℕ) (i : ℕ) (p : Part) (n m : ℕ) → WayBack t l i p n → m ≡ n → OnTheWay origin p m
to_origin t l i p n m way e = record { across = omega arith; upward = omega arith; room = omega (arith, way.room) }

last : (l : List ℕ) (i : ℕ) (p : Part) (s : List ℕ) → length l ≤ i
    → between 0 (place p) (path origin p) s ≡ walk p (record_parts (drop i l)) (drop (place p) s)
unfolding walk record_parts between
last l i p s h = rw (drop_of_length-le l h)

pub loop-i-init : goal.loop-i-init
loop-i-init c =
    (c.requires, refl, refl)

pub part_of-q-requires : goal.part_of-q-requires
part_of-q-requires c =
    number_known _ _ c.loop-i.invariant.0.known c.loop-i-test.true

pub write_marked-requires : goal.write_marked-requires
write_marked-requires c =
    on_the_way _ _ _ _ _ c.loop-i.invariant.0 c.loop-i-test.true _ c.part_of-q.ensures _ c.loop-i.invariant.1

pub loop-i-preserved : goal.loop-i-preserved
loop-i-preserved c =
    let way = c.loop-i.invariant.0 in
    let same = c.loop-i.invariant.1 in (
      next _ _ _ _ _ way c.loop-i-test.true _ c.part_of-q.ensures,
      c.write_marked.auto.places ∙ same,
      c.loop-i.invariant.2 ∙ step _ _ _ _ _ way c.loop-i-test.true _ c.part_of-q.ensures _ _ same
          c.write_marked.ensures,
    )

pub write_path-requires : goal.write_path-requires
write_path-requires c =
    to_origin _ _ _ _ _ _ c.loop-i.invariant.0 c.loop-i.invariant.1

pub returns : goal.returns
returns c =
    c.write_path.ensures ∙ last _ _ _ _ c.loop-i-test.false ∙ sym c.loop-i.invariant.2
