-- `write_tree` meets its contract: the letters along the bits of the record's word are the tree word of its chain.
use Rattle.std.proofs.Common.{Result, Ok, Err}
use mathlib.Core.Path.{◌≡◌, refl, sym, ◌∙◌}
use mathlib.Core.List.{List}
use Prim.Native.Nat.{ℕ, zero, suc, ◌≤◌, ◌<◌}
use native.Mathlib.Omega.{arith}
use lib.ListN.{length}
use borrow.Author.Tests.{lt-ltb, le-ltb}
use Rattle.std.proofs.lemmas.Result.{err_from_is_err_and}
use Rattle.lent.specs.Lent.{filled}
use Rattle.refusals.specs.declared.Refusal.{Refusal}
use Rattle.refusals.specs.declared.Refusal.TheVariants.{LittleLent, NoTreeWord}
use Rattle.words.specs.Records.{record_parts}
use Rattle.words.specs.RecordLaws.{judged_sum}
use Rattle.words.specs.Packed.{packed_of}
use Rattle.words.specs.PackedLaws.{packed_word_lem, packed_refused}
use Rattle.words.specs.declared.Packed.{Packed}
use Rattle.ranking.specs.Services.{gives, judged_as, of_record}
use Rattle.trees.specs.TreeOf.{tree_of}
use Rattle.trees.specs.Answers.{TreeWord, no_tree, tree_word, tree_by, record_tree, lent_tree, tree_told, tree_left}
use Rattle.trees.specs.Walk.{letters_for}
use Rattle.trees.proofs.PathLaws.{record_letters, record_short}
use Rattle.trees.proofs.write_tree.Goals as goal

module _ (l entry : List ℕ) where
  -- The answer r, and the places at exit.
  abbrev Told : Result ℕ Refusal → List ℕ → Type 0
  Told r exit = (r ≡ tree_told (lent_tree entry (record_tree l))) × (exit ≡ tree_left (lent_tree entry (record_tree l)) entry)

  few : length entry < 160 → Told (Err LittleLent) entry
  unfolding lent_tree tree_told tree_left
  few h = rw (lt-ltb (length entry) 160 h) (refl, refl)

  module _ (room : 160 ≤ length entry) where
    told : (t : TreeWord) (r : Result ℕ Refusal) (exit : List ℕ) → record_tree l ≡ t → r ≡ tree_told t → exit ≡ tree_left t entry → Told r exit
    unfolding lent_tree
    told t r exit e f g = rw (le-ltb (length entry) 160 room, e) (f, g)

    not_written : (r : Refusal) → record_tree l ≡ no_tree r → Told (Err r) entry
    unfolding tree_told tree_left
    not_written r e = told (no_tree r) (Err r) entry e refl refl

    refused_record : (r : Refusal) → packed_of l ≡ Err r → Told (Err r) entry
    unfolding record_tree tree_by of_record judged_as
    refused_record r e = not_written r (rw (packed_refused l r e))

    -- The record's chain sums to n.
    module _ (p : Packed) (e : packed_of l ≡ Ok p) where
      named : of_record l ≡ gives p.n (record_parts l)
      unfolding of_record judged_as
      named = rw ((judged_sum l p.n).1 (packed_word_lem l p e).burned)

      empty : p.n ≡ 0 → Told (Err NoTreeWord) entry
      unfolding record_tree tree_by
      empty z = not_written NoTreeWord (rw (named, z))

      module _ (some : p.n ≡ 0 → ⊥) where
        short : length (letters_for p.n p.rises) ≤ 160
        short = omega (arith, record_short (packed_word_lem l p e) (omega arith))

        by_number : (m : ℕ) → of_record l ≡ gives m (record_parts l) → (m ≡ 0 → ⊥) → record_tree l ≡ tree_word (tree_of (record_parts l))
        unfolding record_tree tree_by
        by_number zero d k = absurd (k refl)
        by_number (suc m) d k = rw d

        lettered : (k : ℕ) (exit : List ℕ) → k ≡ length (letters_for p.n p.rises) → exit ≡ filled 160 (letters_for p.n p.rises) entry
            → Told (Ok k) exit
        unfolding tree_told tree_left
        lettered k exit f g =
            let same = record_letters (packed_word_lem l p e) in
            told (tree_word (tree_of (record_parts l))) (Ok k) exit (by_number p.n named some) (rw (f, same)) (rw same at g)

pub returns-then-places-lt160 : goal.returns-then-places-lt160
returns-then-places-lt160 c =
    let told = few _ _ c.if-places-lt160.true in
    record { answer = told.0; places = told.1 }

pub returns-then-word-eq0 : goal.returns-then-word-eq0
returns-then-word-eq0 c =
    let told = empty _ _ c.if-places-lt160.false _ (sym c.pack_word.ensures ∙ c.in_ok-word.was) c.if-word-eq0.true in
    record { answer = told.0; places = told.1 }

pub write_letters-requires : goal.write_letters-requires
write_letters-requires c =
    let a = c.args in
    (short _ a.places.now c.if-places-lt160.false _ (sym c.pack_word.ensures ∙ c.in_ok-word.was) c.if-word-eq0.false, c.if-places-lt160.false)

pub returns : goal.returns
returns c =
    let told = lettered _ _ c.if-places-lt160.false _ (sym c.pack_word.ensures ∙ c.in_ok-word.was) c.if-word-eq0.false _ _
    c.write_letters.ensures.value c.write_letters.ensures.places_after in
    record { answer = told.0; places = told.1 }

pub returns-in_err-word : goal.returns-in_err-word
returns-in_err-word c =
    let p = err_from_is_err_and c.from_residual.result c.from_residual.ensures.1 in
    let told = refused_record _ _ c.if-places-lt160.false _ (sym c.pack_word.ensures ∙ c.in_err-word.was) in
    rw (p.1, p.2) (record { answer = told.0; places = told.1 })
