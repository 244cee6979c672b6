-- What running a record's chain answers, in the terms of document 02 and 003.
-- In order: the tests of m and x; the answer by the tests; the residue (`ran_residue`): it is n × x modulo m, and told exactly if m
-- and x are what they must be and the record names a chain of n; which refusal comes when (`run_refusals`). The answer is defined
-- in Ran.
use Rattle.std.proofs.Common.{ap, Result, Ok, Err}
use Rattle.std.specs.Prelude.{◌≡◌, ℕ, ◌*◌, ◌%◌, ◌^◌, ◌<◌, ◌≤◌, false, cond, ◌⊎◌, ◌↔◌, List, ◌==◌, nat_le, nat_lt, refl}
use Rattle.std.proofs.Common.{sym, ◌∙◌, arith, leb→le}
use Rattle.std.proofs.Math.Logic.{inl, inr, ⊎_elim}
use Rattle.std.proofs.Math.Logic.Iff
use Rattle.std.proofs.Math.Dec.{le→leb}
use borrow.Author.Tests.{ne_eqb, eqb-false, ltb-false, leb-false, le-ltb, lt-leb}
use Rattle.lent.specs.LentLaws.{neither}
use Rattle.chains.specs.Chains.{Chained, total}
use Rattle.refusals.specs.declared.Refusal.{Refusal}
use Rattle.refusals.specs.declared.Refusal.TheVariants.{UnknownPart, NotChained, TooLarge, BadModulus, BadResidue}
use Rattle.refusals.specs.Refusals.{number_of}
use Rattle.words.specs.Records.{record_parts, judged_of, Burned}
use Rattle.words.specs.RecordLaws.{judged_sum}
use Rattle.words.specs.Refusals.{Outside, judged_refusals}
use Rattle.words.specs.TestLaws.{is_first, in_second, one_of_both, test_true, test_false}
use Rattle.running.specs.Run.{chain_run}
use Rattle.running.specs.Ran.{bad_modulus, run_judged, ran_of}
use Rattle.running.proofs.RunLaws.{run_is_product}

-- ---- the tests of m and x

-- A modulus is from 1 to 2^63.
abbrev pub Modulus : ℕ → Type 0
Modulus m = (1 ≤ m) × (m ≤ 2 ^ 63)

-- m is a modulus, and x is below it.
abbrev pub ResidueBy : ℕ → ℕ → Type 0
ResidueBy m x = Modulus m × (x < m)

module _ (m : ℕ) where
  modulus_passes : Modulus m → bad_modulus m ≡ false
  unfolding bad_modulus
  modulus_passes h = rw (ne_eqb m 0 (λ e. omega arith), le-ltb (2 ^ 63) m h.1)

  passes_modulus : bad_modulus m ≡ false → Modulus m
  unfolding bad_modulus
  passes_modulus e =
      let (some, most) = neither (m == 0) (nat_lt (2 ^ 63) m) e in
      (omega (arith, eqb-false m 0 some), ltb-false (2 ^ 63) m most)

-- ---- the answer by the tests

module _ (l : List ℕ) (m x : ℕ) where
  -- Where an answer is neither 13 nor 14, both tests are passed and the record decides.
  by_record : (z : Result ℕ Refusal) → ¬ (Err BadModulus ≡ z) → ¬ (Err BadResidue ≡ z)
      → (ran_of l m x ≡ z) ↔ (ResidueBy m x × (run_judged l m x (judged_of l) ≡ z))
  unfolding ran_of
  by_record z h g =
      Iff.trans
      (Iff.trans (in_second (bad_modulus m) (Err BadModulus) _ z h)
      (Iff.and (test_false (bad_modulus m) (modulus_passes m) (passes_modulus m))
      (Iff.trans (in_second (nat_le m x) (Err BadResidue) _ z g)
      (Iff.and (test_false (nat_le m x) (λ (k : x < m). lt-leb m x k) (leb-false m x))
      ((λ e. e), λ e. e)))))
      (λ t. ((t.0, t.1.0), t.1.1), λ t. (t.0.0, (t.0.1, t.1)))

  -- Then a refusal is the record's own, and a residue is the run of its chain.
  as_refused : (r : Refusal) (j : Result ℕ Refusal) → (run_judged l m x j ≡ Err r) ↔ (j ≡ Err r)
  unfolding run_judged
  as_refused r (Ok n) = (
    λ e. let z : ◌≡◌ {A = ℕ} 0 1 = cc in absurd (omega arith),
    λ e. let z : ◌≡◌ {A = ℕ} 0 1 = cc in absurd (omega arith),
  )
  as_refused r (Err s) = (λ e. cc, λ e. cc)

  as_run : (r : ℕ) (j : Result ℕ Refusal) → judged_of l ≡ j
      → (run_judged l m x j ≡ Ok r) ↔ ((n : ℕ) × Burned l n × (r ≡ n * x % m))
  unfolding run_judged
  as_run r (Ok n) g = (there, back)
    where
      named : Burned l n
      named = (judged_sum l n).0 g

      there : ◌≡◌ {A = Result ℕ Refusal} (Ok (chain_run m x (record_parts l))) (Ok r) → (k : ℕ) × Burned l k × (r ≡ k * x % m)
      there e = let same : chain_run m x (record_parts l) ≡ r = cc in
          (n, named, sym same ∙ run_is_product n (record_parts l) named.chain m x)

      back : ((k : ℕ) × Burned l k × (r ≡ k * x % m)) → ◌≡◌ {A = Result ℕ Refusal} (Ok (chain_run m x (record_parts l))) (Ok r)
      back (k, b, e) = rw (run_is_product k (record_parts l) b.chain m x, e)
  as_run r (Err s) g = (
    λ e. let z : ◌≡◌ {A = ℕ} 0 1 = cc in absurd (omega arith),
    λ b. let f : ◌≡◌ {A = Result ℕ Refusal} (Err s) (Ok b.0) = sym g ∙ (judged_sum l b.0).1 b.1 in
        let z : ◌≡◌ {A = ℕ} 0 1 = cc in absurd (omega arith),
  )

  -- A residue is told exactly if m is a modulus, x a residue and the record names a chain, of n say; and it is n × x modulo m.
  pub ran_residue : (r : ℕ) → (ran_of l m x ≡ Ok r) ↔ (ResidueBy m x × ((n : ℕ) × Burned l n × (r ≡ n * x % m)))
  ran_residue r =
      Iff.trans
      (by_record (Ok r) (λ e. let z : ◌≡◌ {A = ℕ} 0 1 = cc in omega arith) (λ e. let z : ◌≡◌ {A = ℕ} 0 1 = cc in omega arith))
      (Iff.and ((λ h. h), λ h. h) (as_run r (judged_of l) refl))

-- The refusals, where `refused r` says that the call is refused with r: each number exactly if what document 02 says holds and
-- nothing before it does, and no other number. In the order of the tests.
pub record RunRefusals (l : List ℕ) (m x : ℕ) (refused : Refusal → Type 0) : Type 0 where
  pub refusal_13 : refused BadModulus ↔ (¬ Modulus m)
  pub refusal_14 : refused BadResidue ↔ (Modulus m × (m ≤ x))
  pub refusal_8 : refused UnknownPart ↔ (ResidueBy m x × Outside l)
  pub refusal_9 : refused NotChained ↔ (ResidueBy m x × ((¬ Outside l) × (¬ Chained (record_parts l))))
  pub refusal_10 : refused TooLarge ↔ (ResidueBy m x × ((¬ Outside l) × Chained (record_parts l) × (2 ^ 64 ≤ total (record_parts l))))
  pub no_other : (r : Refusal) → refused r → (r ≡ BadModulus) ⊎ ((r ≡ BadResidue) ⊎ ((r ≡ UnknownPart) ⊎ ((r ≡ NotChained) ⊎ (r ≡ TooLarge))))

-- The same of an answer that is refused exactly when another one is.
pub run_lifted : {l : List ℕ} {m x : ℕ} {p q : Refusal → Type 0} → ((r : Refusal) → q r ↔ p r) → RunRefusals l m x p → RunRefusals l m x q
run_lifted f h = record {
  refusal_13 = Iff.trans (f BadModulus) h.refusal_13;
  refusal_14 = Iff.trans (f BadResidue) h.refusal_14;
  refusal_8 = Iff.trans (f UnknownPart) h.refusal_8;
  refusal_9 = Iff.trans (f NotChained) h.refusal_9;
  refusal_10 = Iff.trans (f TooLarge) h.refusal_10;
  no_other = λ r e. h.no_other r ((f r).0 e);
}

module _ (l : List ℕ) (m x : ℕ) where
  same : (r s : Refusal) → ◌≡◌ {A = Result ℕ Refusal} (Err r) (Err s) → r ≡ s
  same r s e = cc

  -- What the record gets, and that after the test of x.
  abbrev last : Result ℕ Refusal
  last = run_judged l m x (judged_of l)

  abbrev later : Result ℕ Refusal
  later = cond (nat_le m x) (Err BadResidue) last

  last_only : (r : Refusal) → last ≡ Err r → (r ≡ UnknownPart) ⊎ ((r ≡ NotChained) ⊎ (r ≡ TooLarge))
  last_only r e = (judged_refusals l).no_other r ((as_refused l m x r (judged_of l)).0 e)

  later_only : (r : Refusal) → later ≡ Err r → (r ≡ BadResidue) ⊎ ((r ≡ UnknownPart) ⊎ ((r ≡ NotChained) ⊎ (r ≡ TooLarge)))
  later_only r e =
      ⊎_elim (λ (f : Err BadResidue ≡ Err r). inl (sym (same BadResidue r f))) (λ (f : last ≡ Err r). inr (last_only r f))
      (one_of_both (nat_le m x) (Err BadResidue) last (Err r) e)

  not_last : (r : Refusal) → 10 < number_of r → ¬ (last ≡ Err r)
  not_last r h e =
      ⊎_elim (λ (f : r ≡ UnknownPart). omega (arith, ap number_of f)) (⊎_elim (λ (f : r ≡ NotChained). omega (arith, ap number_of f)) (λ (f : r ≡ TooLarge). omega (arith, ap number_of f))) (last_only r e)

  -- A refusal that is the record's own.
  of_record_lem : (r : Refusal) → number_of r < 13 → {P : Type 0} → (judged_of l ≡ Err r) ↔ P → (ran_of l m x ≡ Err r) ↔ (ResidueBy m x × P)
  of_record_lem r h f =
      Iff.trans (by_record l m x (Err r) (λ e. omega (arith, ap number_of (same BadModulus r e))) (λ e. omega (arith, ap number_of (same BadResidue r e))))
      (Iff.and ((λ t. t), λ t. t) (Iff.trans (as_refused l m x r (judged_of l)) f))

  pub run_refusals : RunRefusals l m x (λ r. ran_of l m x ≡ Err r)
  unfolding ran_of
  run_refusals =
      record {
        refusal_13 =
            Iff.trans
            (is_first (bad_modulus m) (Err BadModulus) later
            (λ e. ⊎_elim (λ (f : BadModulus ≡ BadResidue). omega (arith, ap number_of f)) (λ (f : (BadModulus ≡ UnknownPart) ⊎ ((BadModulus ≡ NotChained) ⊎ (BadModulus ≡ TooLarge))).
            ⊎_elim (λ (g : BadModulus ≡ UnknownPart). omega (arith, ap number_of g)) (⊎_elim (λ (g : BadModulus ≡ NotChained). omega (arith, ap number_of g)) (λ (g : BadModulus ≡ TooLarge). omega (arith, ap number_of g))) f)
            (later_only BadModulus e)))
            (test_true (bad_modulus m) (modulus_passes m) (passes_modulus m));
        refusal_14 =
            Iff.trans (in_second (bad_modulus m) (Err BadModulus) later (Err BadResidue) (λ e. omega (arith, ap number_of (same BadModulus BadResidue e))))
            (Iff.and (test_false (bad_modulus m) (modulus_passes m) (passes_modulus m))
            (Iff.trans (is_first (nat_le m x) (Err BadResidue) last (not_last BadResidue (omega arith))) (leb→le m x, le→leb m x)));
        refusal_8 = of_record_lem UnknownPart (omega arith) (judged_refusals l).refusal_8;
        refusal_9 = of_record_lem NotChained (omega arith) (judged_refusals l).refusal_9;
        refusal_10 = of_record_lem TooLarge (omega arith) (judged_refusals l).refusal_10;
        no_other =
            λ r e.
            ⊎_elim (λ (f : Err BadModulus ≡ Err r). inl (sym (same BadModulus r f))) (λ (f : later ≡ Err r). inr (later_only r f))
            (one_of_both (bad_modulus m) (Err BadModulus) later (Err r) e);
      }
