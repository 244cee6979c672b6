-- `read_tree` meets its contract: a word that is not refused is read as its path word.
use Rattle.std.proofs.Common.{Result, Ok, Err}
use mathlib.Core.Path.{◌≡◌, refl, sym, ap, ◌∙◌}
use mathlib.Core.List.{List}
use Prim.Native.Nat.{ℕ, ◌≤◌}
use native.Mathlib.Nat.{sub-zero}
use native.Mathlib.Omega.{arith}
use lib.ListN.{length}
use Rattle.chains.specs.Words.{Word}
use Rattle.lent.specs.Lent.{scratch_size, little_scratch, too_little, scratch_left, memory_left}
use Rattle.lent.specs.LentLaws.{little_scratch_lem, little_places, enough, served_zeroed}
use Rattle.refusals.specs.declared.Refusal.{Refusal}
use Rattle.ranking.specs.Services.{Outcome, lent, lent_of, answer_of, places_left, of_word}
use Rattle.ranking.specs.declared.Found.{Found}
use Rattle.ranking.proofs.Answers.{little}
use Rattle.trees.specs.TreeOf.{path_from}
use Rattle.trees.specs.Answers.{tree_judged, tree_as, of_tree}
use Rattle.trees.proofs.AnswerLaws.{judged_tree}
use Rattle.trees.specs.Walk.{Readable}
use Rattle.trees.proofs.PathLaws.{readable, outcome_path}
use Rattle.trees.proofs.read_tree.Goals as goal

-- The word w was judged, and the sum n told.
module _ (w : Word) (n : ℕ) (e : tree_judged w ≡ Ok n) where
  asked : Readable w 64
  asked = let (made, fits) = (judged_tree w n).0 e in readable w n made fits

  -- Its path word v is read.
  read : (s p s' p' : List ℕ) (r : Result Found Refusal) (v : Word) → v ≡ path_from 0 w → r ≡ answer_of (lent s p (of_word v))
      → p' ≡ places_left (lent s p (of_word v)) p → s' ≡ scratch_left (too_little 64 s p) s
      → (r ≡ answer_of (lent s p (of_tree w))) × ((p' ≡ places_left (lent s p (of_tree w)) p) × (s' ≡ scratch_left (too_little 64 s p) s))
  read s p s' p' r v d a b g =
      let (made, fits) = (judged_tree w n).0 e in
      let o : of_word v ≡ of_tree w = ap of_word d ∙ outcome_path w n made fits in
      (a ∙ ap (λ (x : Outcome). answer_of (lent s p x)) o, (b ∙ ap (λ (x : Outcome). places_left (lent s p x) p) o, g))

-- The word was refused.
not_read : (w : Word) (r : Refusal) (s p s' : List ℕ) → tree_judged w ≡ Err r → scratch_size ≤ length s → 64 ≤ length p
    → s' ≡ scratch_left (little_scratch s) s
    → (Err r ≡ answer_of (lent s p (of_tree w)))
    × ((p ≡ places_left (lent s p (of_tree w)) p) × (s' ≡ scratch_left (too_little 64 s p) s))
unfolding of_tree tree_as answer_of lent_of places_left memory_left
not_read w r s p s' e h k f = rw (enough 64 s p (record { numbers = h; room = k }), e) (refl, (refl, f ∙ served_zeroed s h))

pub returns-then-scratch-lt-SCRATCH : goal.returns-then-scratch-lt-SCRATCH
returns-then-scratch-lt-SCRATCH c =
    let told = little _ (little_scratch_lem 64 _ _ c.if-scratch-lt-SCRATCH.true) refl in
    record { answer = told.0; places = told.1.0; scratch = told.1.1 }

pub returns-then-places-lt64 : goal.returns-then-places-lt64
returns-then-places-lt64 c =
    let told = little _ (little_places scratch_size 64 _ _ c.if-places-lt64.true) refl in
    record { answer = told.0; places = told.1.0; scratch = told.1.1 }

pub write_path-k-requires : goal.write_path-k-requires
write_path-k-requires c =
    asked _ _ (sym c.judge.ensures ∙ c.in-Ok.is)

pub slice_bounds-read_word-end : goal.slice_bounds-read_word-end
slice_bounds-read_word-end c =
    omega (arith, (asked _ _ (sym c.judge.ensures ∙ c.in-Ok.is)).room, c.write_path-k.ensures.value)

pub returns-in-Ok : goal.returns-in-Ok
returns-in-Ok c =
    let a = c.before.args in
    let told = read _ _ (sym c.judge.ensures ∙ c.in-Ok.is) a.scratch.now a.places.now _ _ _ _
    c.write_path-k.ensures.path_after (rw sub-zero at c.read_word.ensures.answer) (rw sub-zero at c.read_word.ensures.places)
    c.read_word.ensures.scratch in
    record { answer = told.0; places = told.1.0; scratch = told.1.1 }

pub returns-in-Err : goal.returns-in-Err
returns-in-Err c =
    let a = c.args in
    let told = not_read _ _ a.scratch.now a.places.now _ (sym c.judge.ensures ∙ c.in-Err.is) c.if-scratch-lt-SCRATCH.false
    c.if-places-lt64.false c.clear_scratch.ensures in
    record { answer = told.0; places = told.1.0; scratch = told.1.1 }
