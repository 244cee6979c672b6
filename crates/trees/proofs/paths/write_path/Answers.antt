-- The letters stored up to j and the path word of what is left, with what is owed, are the whole path word: this is the invariant.
-- What is left is produced from some number, and what is owed there is one of the cases of `Owed`.
use mathlib.Core.Path.{◌≡◌, refl, ◌∙◌}
use mathlib.Core.List.{List, [], ◌∷◌, ◌++◌}
use Prim.Native.Nat.{ℕ, suc, ◌+◌, ◌-◌, ◌*◌, ◌/◌, ◌%◌, ◌≤◌, ◌<◌}
use native.Mathlib.Nat.{le_refl, div-le_self}
use native.Mathlib.Numerals.{add-one}
use native.Mathlib.Omega.{arith}
use lib.Dec.{T}
use lib.ListN.{length, take, drop, get_or, set, length-set, drop_of_length-le}
use lib.Seq.{drop-cons, take-set-le, take-suc-set, append_snoc}
use Rattle.chains.specs.Words.{Word, some_left}
use Rattle.trees.specs.Trees.{produced}
use Rattle.trees.specs.TreeOf.{number_after, path_from}
use Rattle.trees.proofs.Letters.{rising, first_letter, rising_low, letter_range}
use Rattle.trees.proofs.Owed.{Owed, none, Onward, one, two, three, onward, owed_few}
use Rattle.trees.proofs.WalkedPaths.{path_some, falls_at}
use Rattle.trees.specs.Walk.{Readable}
use Rattle.trees.proofs.paths.write_path.Invariants.{Walk}
use Rattle.trees.proofs.paths.write_path.Goals as goal

begin : (w : Word) (path : List ℕ) → Readable w (length path) → Walk w w path (length path) 0 0
begin w path r =
    record {
      number = r.number;
      made = r.made;
      spare = 0;
      owing = none refl (omega arith);
      same = refl;
      count = omega arith;
      room = r.room;
      whole = refl;
    }

path_long : (p : ℕ) (t : Word) → 1 ≤ length (path_from p t)
unfolding some_left
path_long p t = go (path_from p t) (path_some p t)
  where
    go : (v : Word) → T (some_left v) → 1 ≤ length v
    go [] s = absurd s
    go (l ∷ v) s = omega arith

-- A letter l before t, where p letters 1 are owed: x is what is stored at j, and q is owed on.
record Passed (t : Word) (path : List ℕ) (p j x q l n : ℕ) : Type 0 where
  spare : ℕ
  owing : Owed q (number_after l n) (rising t) spare
  count : j + l / 2 + length (path_from q t) ≡ j + length (path_from p (l ∷ t))
  whole : take (j + l / 2) (set path j x) ++ path_from q t ≡ take j path ++ path_from p (l ∷ t)

passed : (t : Word) (path : List ℕ) (p j x q l n s : ℕ) → j < length path → T (produced t (number_after l n))
    → Onward p n (rising (l ∷ t)) s l → x ≡ 2 * (l / 3) + p % 2 → q ≡ p / (1 + l / 2) + (1 - l / 2) → Passed t path p j x q l n
unfolding path_from rising number_after
passed t path p j x q l n s room h (one e z o) ex eq =
    let f : q ≡ suc p = (rw e at eq) ∙ omega arith in
    let k : j + 0 ≡ j = omega arith in
    rw e
    (record {
      spare = s + 2;
      owing = rw f (rw e at o);
      count = rw (f, k) refl;
      whole = rw (f, k, take-set-le j path j x (le_refl j)) refl;
    })
passed t path p j x q l n s room h (two e z m d b o) ex eq =
    let f : q ≡ p / 2 = (rw e at eq) ∙ omega arith in
    let y : x ≡ p % 2 = (rw e at ex) ∙ omega arith in
    rw e
    (record {
      spare = s - 3;
      owing = rw f (o (rising t) (falls_at t (n / 2) (rw e at h)));
      count = rw f (omega arith);
      whole = rw (f, y, add-one, take-suc-set path j (p % 2) room, append_snoc) refl;
    })
passed t path p j x q l n s room h (three e z m b d) ex eq =
    let f : q ≡ 0 = (rw e at eq) ∙ omega arith in
    let y : x ≡ suc (suc p) = (rw e at ex) ∙ omega arith in
    rw e
    (record {
      spare = 5;
      owing = none f (omega arith);
      count = rw f (omega arith);
      whole = rw (f, y, add-one, take-suc-set path j (suc (suc p)) room, append_snoc) refl;
    })

record Bounds (size l owed j : ℕ) : Type 0 where
  low : 1 ≤ l
  high : l ≤ 3
  room : j < size
  few : owed ≤ 3
  kept : owed / (1 + l / 2) ≤ owed

module _ {w : Word} {path : List ℕ} {size owed j : ℕ} (i : ℕ) (c : Walk w (drop i w) path size owed j) where
  module _ (h : i < length w) where
    here : Walk w (get_or w i 0 ∷ drop (suc i) w) path size owed j
    here = rw (drop-cons w i 0 h) at c

    bounds : Bounds size (get_or w i 0) owed j
    bounds =
        let t = drop (suc i) w in
        let k = first_letter here.number (get_or w i 0) t here.made in
        let (low, high) = letter_range (here.number % 6) (rising (get_or w i 0 ∷ t)) (rising_low (get_or w i 0 ∷ t)) in
        record {
          low = omega (arith, k.is);
          high = omega (arith, k.is);
          room = omega (arith, path_long owed (drop i w), c.count, c.room);
          few = owed_few owed c.number (rising (drop i w)) c.spare c.owing;
          kept = div-le_self owed (1 + get_or w i 0 / 2);
        }

    next : Walk w (drop (i + 1) w) (set path j (2 * (get_or w i 0 / 3) + owed % 2)) size
        (owed / (1 + get_or w i 0 / 2) + (1 - get_or w i 0 / 2)) (j + get_or w i 0 / 2)
    next =
        let l = get_or w i 0 in
        let t = drop (suc i) w in
        let n = here.number in
        let k = first_letter n l t here.made in
        let o = passed t path owed j _ _ l n here.spare (omega (arith, bounds.room, c.same)) k.rest
        (onward n (rising (l ∷ t)) l k.more (rising_low (l ∷ t)) k.falls owed here.spare k.is here.owing) refl refl in
        rw add-one (record {
          number = number_after l n;
          made = k.rest;
          spare = o.spare;
          owing = o.owing;
          same = length-set path j _ ∙ c.same;
          count = o.count ∙ here.count;
          room = c.room;
          whole = o.whole ∙ here.whole;
        })

  -- No letter is left.
  module _ (h : length w ≤ i) where
    last : Walk w [] path size owed j
    last = rw (drop_of_length-le w h) at c

    at_end : (j < size) × (j + 1 ≡ length (path_from 0 w)) × (take (j + 1) (set path j 3) ≡ path_from 0 w)
    unfolding path_from
    at_end =
        let r : j < size = omega (arith, last.count, last.room) in
        (r, last.count, rw (add-one, take-suc-set path j 3 (omega (arith, c.same))) last.whole)

pub loop-letter-init : goal.loop-letter-init
loop-letter-init c = begin _ _ c.requires

pub bounds-path-j : goal.bounds-path-j
bounds-path-j c =
    let t = c.loop-letter in omega (arith, (bounds t.letter-index t.invariant c.loop-letter-test.true).room, t.invariant.same)

pub overflow_sub-owed : goal.overflow_sub-owed
overflow_sub-owed c =
    let t = c.loop-letter in omega (arith, (bounds t.letter-index t.invariant c.loop-letter-test.true).high)

pub loop-letter-preserved : goal.loop-letter-preserved
loop-letter-preserved c =
    let t = c.loop-letter in rw c.from-point.ensures (next t.letter-index t.invariant c.loop-letter-test.true)

pub bounds-path-j-2 : goal.bounds-path-j-2
bounds-path-j-2 c =
    let t = c.loop-letter in omega (arith, (at_end t.letter-index t.invariant c.loop-letter-test.false).0, t.invariant.same)

pub overflow_add-result : goal.overflow_add-result
overflow_add-result c =
    let t = c.loop-letter in omega (arith, (at_end t.letter-index t.invariant c.loop-letter-test.false).0)

pub shape_of-path : goal.shape_of-path
shape_of-path c =
    length-set c.loop-letter.path _ _ ∙ c.loop-letter.invariant.same

pub returns : goal.returns
returns c =
    let t = c.loop-letter in let e = at_end t.letter-index t.invariant c.loop-letter-test.false in record { value = e.1; path_after = e.2 }
