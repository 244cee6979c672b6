-- The tests stand in the order of the definition, and the word that is packed of the record is its chain's.
use Rattle.std.proofs.Common.{Ok, Err}
use Rattle.std.proofs.Common.{◌≡◌, ℕ, ◌^◌, ◌<◌, ◌≤◌, List, sym, ◌∙◌, le-ltb, lt-ltb, eq-eqb, ne_eqb, le-leb}
use borrow.Author.Tests.{lt-leb}
use Rattle.refusals.specs.declared.Refusal.{Refusal}
use Rattle.refusals.specs.declared.Refusal.TheVariants.{BadModulus, BadResidue}
use Rattle.words.specs.Records.{judged_of}
use Rattle.words.specs.RecordLaws.{judged_sum}
use Rattle.words.specs.Packed.{unpacked, packed_of}
use Rattle.words.specs.PackedLaws.{packed_word_lem, packed_refused}
use Rattle.words.specs.declared.Packed.{Packed}
use Rattle.running.specs.Run.{run, chain_run}
use Rattle.running.specs.Ran.{bad_modulus, run_judged, ran_of}
use Rattle.std.proofs.lemmas.Result.{err_from_is_err_and}
use Rattle.running.proofs.run_chain.Goals as goal

module _ (l : List ℕ) (m x : ℕ) where
  none : m ≡ 0 → Err BadModulus ≡ ran_of l m x
  unfolding ran_of bad_modulus
  none e = rw (eq-eqb m 0 e)

  above : (m ≡ 0 → ⊥) → 2 ^ 63 < m → Err BadModulus ≡ ran_of l m x
  unfolding ran_of bad_modulus
  above h g = rw (ne_eqb m 0 h, lt-ltb (2 ^ 63) m g)

  module _ (some : m ≡ 0 → ⊥) (most : m ≤ 2 ^ 63) where
    too_large : m ≤ x → Err BadResidue ≡ ran_of l m x
    unfolding ran_of bad_modulus
    too_large g = rw (ne_eqb m 0 some, le-ltb (2 ^ 63) m most, le-leb m x g)

    -- Both tests are passed, and the record decides.
    module _ (below : x < m) where
      asked : ran_of l m x ≡ run_judged l m x (judged_of l)
      unfolding ran_of bad_modulus
      asked = rw (ne_eqb m 0 some, le-ltb (2 ^ 63) m most, lt-leb m x below)

      refused : (r : Refusal) → packed_of l ≡ Err r → Err r ≡ ran_of l m x
      unfolding run_judged
      refused r e = sym (asked ∙ rw (packed_refused l r e))

      residue : (p : Packed) (r : ℕ) → packed_of l ≡ Ok p → r ≡ run m x (unpacked p.letters p.rises p.marks)
          → Ok r ≡ ran_of l m x
      unfolding run_judged chain_run
      residue p r e f =
          let w = packed_word_lem l p e in
          rw (f, w.word) (sym (asked ∙ rw ((judged_sum l p.n).1 w.burned)))

pub returns-then-m-eq0 : goal.returns-then-m-eq0
returns-then-m-eq0 c =
    none _ _ _ c.if-m-eq0.true

pub returns-then-m-gt-LARGEST : goal.returns-then-m-gt-LARGEST
returns-then-m-gt-LARGEST c =
    above _ _ _ c.if-m-eq0.false c.if-m-gt-LARGEST.true

pub returns-then-m-x : goal.returns-then-m-x
returns-then-m-x c =
    too_large _ _ _ c.if-m-eq0.false c.if-m-gt-LARGEST.false c.if-m-x.true

pub returns-in_err-word : goal.returns-in_err-word
returns-in_err-word c =
    let p = err_from_is_err_and c.from_residual.result c.from_residual.ensures.1 in
    rw (p.1, p.2)
    (refused _ _ _ c.if-m-eq0.false c.if-m-gt-LARGEST.false c.if-m-x.false _ (sym c.pack_word.ensures ∙ c.in_err-word.was))

pub along-requires : goal.along-requires
along-requires c = (packed_word_lem _ _ (sym c.pack_word.ensures ∙ c.in_ok-word.was)).few

pub returns : goal.returns
returns c =
    residue _ _ _ c.if-m-eq0.false c.if-m-gt-LARGEST.false c.if-m-x.false _ _ (sym c.pack_word.ensures ∙ c.in_ok-word.was)
    c.along.ensures
