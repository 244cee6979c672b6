-- The letters written so far and what is left to write are the whole tree word: this is the invariant.
use mathlib.Core.Path.{◌≡◌, refl, sym, ap, ◌∙◌}
use mathlib.Core.List.{List, [], ◌∷◌, ◌++◌, append-nil}
use Prim.Native.Nat.{ℕ, zero, suc, ◌+◌, ◌-◌, ◌/◌, ◌%◌, ◌^◌, ◌≤◌, ◌<◌}
use native.Mathlib.Nat.{le_refl}
use native.Mathlib.Numerals.{add-one}
use native.Mathlib.Omega.{arith}
use lib.ListN.{length, drop, get_or, set, length-append, length-drop}
use lib.Seq.{drop-cons, set_at, append_snoc}
use borrow.Author.Tests.{le-ltb}
use Rattle.chains.specs.Words.{Word}
use Rattle.trees.specs.TreeOf.{letter_at, number_after}
use Rattle.trees.specs.Walk.{letters_by, letters_for}
use Rattle.trees.proofs.writing.write_lines.Invariants.{first, Wrote}
use Rattle.trees.proofs.writing.write_lines.Goals as goal

ended : (k n x : ℕ) → n ≤ 1 → letters_by k n x ≡ []
unfolding letters_by
ended zero n x h = refl
ended (suc k) n x h = rw (le-ltb 1 n h)

begin : (n x : ℕ) (s : List ℕ) → length (letters_for n x) ≤ length s → Wrote (letters_for n x) s s n x 0
unfolding letters_for
begin n x s h = record { most = n; enough = le_refl n; front = []; long = refl; whole = refl; stored = refl; room = h }

module _ {w : Word} {s places : List ℕ} {n x j : ℕ} (c : Wrote w s places n x j) where
  count : j + length (letters_by c.most n x) ≡ length w
  count = omega (arith, c.long, ap length c.whole, length-append c.front (letters_by c.most n x))

  same : length places ≡ length s
  same = ap length c.stored ∙ length-append c.front (drop j s) ∙ omega (arith, c.long, c.room, length-drop j s, count)

  module _ (more : 1 < n) (l : ℕ) (e : l ≡ letter_at (n % 6) (x % 2)) where
    here : letters_by c.most n x ≡ l ∷ letters_by (c.most - 1) (number_after l n) (x / 2 ^ (l / 2))
    here = first c.most n x l more c.enough e

    space : j < length places
    space = omega (arith, ap length here, count, same, c.room)

    next : (m : ℕ) → m ≡ number_after l n → m < n → Wrote w s (set places j l) m (x / 2 ^ (l / 2)) (j + 1)
    next m f less =
        record {
          most = c.most - 1;
          enough = omega (arith, c.enough);
          front = c.front ++ (l ∷ []);
          long = length-append c.front (l ∷ []) ∙ omega (arith, c.long);
          whole =
              rw f
              (append_snoc c.front l (letters_by (c.most - 1) (number_after l n) (x / 2 ^ (l / 2)))
              ∙ ap (λ (y : List ℕ). c.front ++ y) (sym here)
              ∙ c.whole);
          stored =
              ap (λ (y : List ℕ). set y j l)
              (c.stored ∙ ap (λ (y : List ℕ). c.front ++ y) (drop-cons s j 0 (omega (arith, space, same))))
              ∙ set_at c.front (get_or s j 0) (drop (suc j) s) l j c.long
              ∙ rw add-one (sym (append_snoc c.front l (drop (suc j) s)));
          room = c.room;
        }

  done : n ≤ 1 → (j ≡ length w) × (places ≡ w ++ drop j s)
  done h =
      let all : c.front ≡ w = sym (ap (λ (y : List ℕ). c.front ++ y) (ended c.most n x h) ∙ append-nil c.front) ∙ c.whole in
      (sym c.long ∙ ap length all, c.stored ∙ ap (λ (y : List ℕ). y ++ drop j s) all)

pub loop-n-init : goal.loop-n-init
loop-n-init c = begin _ _ _ c.requires

pub bounds-places-j : goal.bounds-places-j
bounds-places-j c = space c.loop-n.invariant c.loop-n-test.true c.letter_at-letter.result c.letter_at-letter.ensures.0

pub loop-n-preserved : goal.loop-n-preserved
loop-n-preserved c =
    next c.loop-n.invariant c.loop-n-test.true _ c.letter_at-letter.ensures.0 _ c.number_after-n.ensures.0
    c.number_after-n.ensures.1

pub shape_of-places : goal.shape_of-places
shape_of-places c =
    same c.loop-n.invariant

pub returns : goal.returns
returns c =
    let told = (done c.loop-n.invariant c.loop-n-test.false) in
    record { value = told.0; places_after = told.1 }
