-- What a record gets, in the terms of 003: the sum exactly if its numbers name a chain of a number below 2^64.
-- In order: the test of a pair and of the whole record says what 003's chain condition says; the numbers of a record are all in the
-- part table; the theorem of record. The definitions are in Records.
use Rattle.std.specs.Prelude.{Ok, Err}
use Rattle.std.specs.Prelude.{◌≡◌, refl, ◌↔◌, Bool, true, false, cond, ◌&&◌, ◌||◌, not, List, [], ◌∷◌, ℕ, zero, suc, ◌*◌, ◌/◌, ◌%◌, ◌≤◌, ◌<◌, T, ltb, leb, eqb, length, get_or}
use Rattle.std.proofs.Common.{ap, ◌∙◌, div-add-mod', mul-le-mul_right, lt_of_not-le, arith, ltb→lt, lt→ltb, eqb→eq, ltb-false, leb-false, le-ltb}
use Rattle.std.proofs.Math.Logic.Iff
use Rattle.std.proofs.Math.Nat.{mul-mod_left}
use Rattle.std.specs.Float.Ieee.Bits.{is_true}
use Rattle.std.specs.Float.Ieee.Fits.{and_i, and_l, and_r, eq→eqb}
use Rattle.std.proofs.lemmas.Bool.{lt-leb}
use Rattle.lent.specs.LentLaws.{neither}
use Rattle.chains.specs.Chains.{Part, value, ProperMultiple, Chained, total}
use Rattle.chains.proofs.Divides.{value_pos}
use Rattle.refusals.specs.declared.Refusal.TheVariants.{UnknownPart, NotChained, TooLarge}
use Rattle.parts.specs.Parts.{limit}
use Rattle.words.specs.Records.{record_parts, beyond, chained_test, Burned, judged_of}
unfoldable pub use Rattle.words.specs.Records.{InTable}
use Rattle.words.specs.TestLaws.{both_tests}

-- ---- the chain condition

-- x is a proper multiple of y exactly if it is larger and leaves no remainder.
pub test_multiple : (x y : ℕ) → 0 < y → T (ltb y x && eqb (x % y) 0) ↔ ProperMultiple x y
unfolding ProperMultiple
test_multiple x y h = (there, back)
  where
    there : T (ltb y x && eqb (x % y) 0) → ProperMultiple x y
    there t =
        let more = ltb→lt y x (and_l (ltb y x) (eqb (x % y) 0) t) in
        let none = eqb→eq (x % y) 0 (and_r (ltb y x) (eqb (x % y) 0) t) in
        let e : x ≡ x / y * y = omega (arith, div-add-mod' x y) in
        (x / y, lt_of_not-le (λ (l : x / y ≤ 1). omega (arith, mul-le-mul_right y l)), e)

    back : ProperMultiple x y → T (ltb y x && eqb (x % y) 0)
    back (k, more, e) =
        and_i (ltb y x) (eqb (x % y) 0)
        (lt→ltb y x (omega (arith, mul-le-mul_right y more)))
        (eq→eqb (ap (λ z. z % y) e ∙ mul-mod_left k y))

pub chained_test_lem : (c : List Part) → T (chained_test c) ↔ Chained c
unfolding chained_test
chained_test_lem [] = (λ _. tt, λ _. tt)
chained_test_lem (p ∷ []) = (λ _. tt, λ _. tt)
chained_test_lem (p ∷ q ∷ c) =
    Iff.trans (both_tests (ltb (value q) (value p) && eqb (value p % value q) 0) (chained_test (q ∷ c)))
    (Iff.and (test_multiple (value p) (value q) (value_pos q)) (chained_test_lem (q ∷ c)))

-- ---- the numbers

-- A record that names nothing past the table, by its first number.
pub known_cons : (i : ℕ) (l : List ℕ) → beyond (i ∷ l) ≡ false → (i < 1344) × (beyond l ≡ false)
unfolding beyond
known_cons i l e = let (first, rest) = neither (leb 1344 i) (beyond l) e in (leb-false 1344 i first, rest)

pub in_table : (l : List ℕ) → beyond l ≡ false ↔ InTable l
unfolding InTable beyond
in_table l = (there l, back l)
  where
    there : (k : List ℕ) → beyond k ≡ false → InTable k
    there [] e i h = absurd (omega arith)
    there (x ∷ k) e zero h = (known_cons x k e).0
    there (x ∷ k) e (suc i) h = there k (known_cons x k e).1 i (omega arith)

    back : (k : List ℕ) → InTable k → beyond k ≡ false
    back [] t = refl
    back (x ∷ k) t = rw (lt-leb 1344 x (t 0 (omega arith)), back k (λ i h. t (suc i) (omega arith)))

-- Each number of such a record.
pub number_known : (l : List ℕ) (i : ℕ) → beyond l ≡ false → i < length l → get_or l i 0 < 1344
unfolding InTable
number_known l i e h = (in_table l).0 e i h

-- ---- the record

-- How the three tests stand where the answer is a sum.
tests_passed :
    (a b c : Bool) (t n : ℕ)
    → cond a (Err UnknownPart) (cond (not b) (Err NotChained) (cond c (Err TooLarge) (Ok t))) ≡ Ok n
    → (a ≡ false) × (b ≡ true) × (c ≡ false) × (t ≡ n)
tests_passed true b c t n e = let z : ◌≡◌ {A = ℕ} 0 1 = cc in absurd (omega arith)
tests_passed false false c t n e = let z : ◌≡◌ {A = ℕ} 0 1 = cc in absurd (omega arith)
tests_passed false true true t n e = let z : ◌≡◌ {A = ℕ} 0 1 = cc in absurd (omega arith)
tests_passed false true false t n e = (refl, refl, refl, cc)

-- A record gets its sum exactly if it names a chain of that number.
pub judged_sum : (l : List ℕ) (n : ℕ) → (judged_of l ≡ Ok n) ↔ Burned l n
unfolding judged_of
judged_sum l n = (there, back)
  where
    c : List Part
    c = record_parts l

    there : judged_of l ≡ Ok n → Burned l n
    there e =
        let (inside, chained, below, sums) =
        tests_passed (ltb 64 (length l) || beyond l) (chained_test c) (leb limit (total c)) (total c) n e in
        let (few, known) = neither (ltb 64 (length l)) (beyond l) inside in
        record {
          few = ltb-false 64 (length l) few;
          known = (in_table l).0 known;
          chain = record { chained = (chained_test_lem c).0 (rw chained tt); sums = sums };
          fits = omega (arith, leb-false limit (total c) below);
        }

    back : Burned l n → judged_of l ≡ Ok n
    back b = rw (
      le-ltb 64 (length l) b.few,
      (in_table l).1 b.known,
      is_true (chained_test c) ((chained_test_lem c).1 b.chain.chained),
      b.chain.sums,
      lt-leb limit n b.fits,
    )
