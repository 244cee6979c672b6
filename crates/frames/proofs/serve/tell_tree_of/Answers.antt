-- `tell_tree_of` tells the letters that stand first in the places, or the refusal; 16 where the line tells another part than the
-- largest.
use Rattle.std.proofs.Common.{Result, Ok, Err}
use mathlib.Core.Path.{◌≡◌, refl}
use mathlib.Core.Bool.{Bool}
use mathlib.Core.List.{List}
use Prim.Native.Nat.{ℕ, ◌-◌, ◌≤◌}
use native.Mathlib.Nat.{sub-zero}
use native.Mathlib.Omega.{arith}
use borrow.Author.Tests.{le-ltb}
use lib.ListN.{length, take, length-append, length-take}
use Rattle.chains.specs.Chains.{Part}
use Rattle.refusals.specs.declared.Refusal.{Refusal}
use Rattle.parts.specs.Parts.{largest_of, same_part}
use Rattle.lent.specs.Lent.{filled}
use Rattle.lent.specs.LentLaws.{filled_first}
use Rattle.trees.specs.Answers.{TreeWord, no_tree, tree_word, record_tree, lent_tree, tree_told, tree_left}
use Rattle.lines.specs.Kinds.{row_of}
use Rattle.lines.specs.declared.Kind.TheVariants.{ToTree as to_tree_line}
use Rattle.frames.specs.ReplyDigits.{letters_digits}
use Rattle.frames.specs.Replies.{Reply, refused_as, served_with, letters_reply, exponents_from, exponents_in, or_sixteen}
use Rattle.frames.specs.ServedLaws.{sixteen_right, sixteen_wrong}
use Rattle.frames.proofs.serve.tell_tree_of.Goals as goal

-- 160 places p were lent for the tree word t, and x answered.
module _ (t : TreeWord) (x : Result ℕ Refusal) (p : List ℕ) (room : length p ≡ 160) (e : x ≡ tree_told (lent_tree p t)) where
  own : lent_tree p t ≡ t
  unfolding lent_tree
  own = rw (le-ltb (length p) 160 (omega arith))

  told : x ≡ tree_told t
  told = rw own at e

  -- p' was left in the places.
  told_letters : (k : ℕ) (p' : List ℕ) → x ≡ Ok k → p' ≡ tree_left (lent_tree p t) p → length p' ≡ 160
      → (k ≤ 160) × (letters_reply t ≡ served_with (letters_digits (take (k - 0) p')))
  unfolding tree_told tree_left letters_reply filled
  told_letters k p' f left h = go t refl
    where
      go : (u : TreeWord) → t ≡ u → (k ≤ 160) × (letters_reply t ≡ served_with (letters_digits (take (k - 0) p')))
      go (no_tree r) g =
          let z : ◌≡◌ {A = ℕ} 0 1 = cc (rw g at told) in
          absurd (omega arith)
      go (tree_word w) g =
          let size : length w ≡ k = cc (rw g at told) in
          let stand : p' ≡ filled 160 w p = rw (own, g) at left in (
            omega (arith, simp (stand, length-append) at h),
            rw (g, stand, ← size, sub-zero, filled_first 160 w p),
          )

  told_refused : (r : Refusal) → x ≡ Err r → letters_reply t ≡ refused_as r
  unfolding tree_told letters_reply
  told_refused r f = go t refl
    where
      go : (u : TreeWord) → t ≡ u → letters_reply t ≡ refused_as r
      go (no_tree q) g =
          let same : q ≡ r = cc (rw g at told) in
          rw (g, same)
      go (tree_word w) g =
          let z : ◌≡◌ {A = ℕ} 0 1 = cc (rw g at told) in
          absurd (omega arith)

-- The line tells the largest part of the numbers l, as `right` says; y is the reply to its tree word.
by_answer : (line l : List ℕ) (told : Part) (right : Bool) (y : Reply) → told ≡ exponents_from line 2 → right ≡ same_part told (largest_of l)
    → letters_reply (record_tree l) ≡ y
    → or_sixteen (same_part (exponents_in to_tree_line line) (largest_of l)) (letters_reply (record_tree l)) ≡ or_sixteen right y
unfolding row_of
by_answer line l told right y there same e = rw (e, ← there, ← same)

pub returns-then-not-right : goal.returns-then-not-right
returns-then-not-right c =
    let reply = (told_letters _ _ _ refl c.write_tree.ensures.answer _ _ c.in-Ok.is c.write_tree.ensures.places (omega arith)).1 in
    rw (
      by_answer _ _ _ _ _ c.exponents_in.ensures c.is_largest-right.ensures reply,
      sixteen_wrong _ _ c.if-not-right.true,
    )
    c.tell_refusal.ensures

pub slice_bounds-tell_letters-end : goal.slice_bounds-tell_letters-end
slice_bounds-tell_letters-end c =
    omega (arith, (told_letters _ _ _ refl c.write_tree.ensures.answer _ _ c.in-Ok.is c.write_tree.ensures.places (omega arith)).0)

pub tell_letters-requires : goal.tell_letters-requires
tell_letters-requires c =
    let k = (told_letters _ _ _ refl c.write_tree.ensures.answer _ _ c.in-Ok.is c.write_tree.ensures.places (omega arith)).0 in
    rw length-take (omega arith)

pub returns-else-not-right : goal.returns-else-not-right
returns-else-not-right c =
    let reply = (told_letters _ _ _ refl c.write_tree.ensures.answer _ _ c.in-Ok.is c.write_tree.ensures.places (omega arith)).1 in
    rw (
      by_answer _ _ _ _ _ c.exponents_in.ensures c.is_largest-right.ensures reply,
      sixteen_right _ _ c.if-not-right.false,
    )
    c.tell_letters.ensures

pub returns-in-Err : goal.returns-in-Err
returns-in-Err c =
    let reply = told_refused _ _ _ refl c.write_tree.ensures.answer _ c.in-Err.is in
    rw (
      by_answer _ _ _ _ _ c.exponents_in.ensures c.is_largest-right.ensures reply,
      ← c.refusal_by.ensures,
    )
    c.tell_refusal-in-Err.ensures
