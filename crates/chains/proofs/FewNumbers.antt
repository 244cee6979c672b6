-- How many numbers below 2^64 have one chain, and how many have two: 65 and 126.
--
-- In this order: a test that antt computes on the two lists of Few, and what it shows; that the lists are as long as that, with no number
-- twice (`with_one_65`, `with_two_126`); that they hold exactly the numbers below 2^64 with one chain and with two (`with_one_holds`,
-- `with_two_holds`).
use Rattle.std.specs.Prelude.{◌≡◌, refl, ◌↔◌, ◌≢◌, ◌⊎◌, Bool, true, not, ◌&&◌, ℕ, zero, suc, ◌*◌, ◌-◌, ◌^◌, ◌≤◌, ◌<◌, T, eqb, ltb, length}
use Rattle.std.proofs.Common.{ap, ◌∙◌, inl, inr, ⊎_elim, T_not, ltb→lt}
use mathlib.Core.HLevel.{⊥_prop}
use Rattle.std.proofs.Math.Logic.{∥∥₁_elim}
use Rattle.std.proofs.Math.Logic.Iff
use mathlib.Core.List.Memᴰ
use mathlib.Core.List.{List, [], ◌∷◌, ◌++◌, Memᴰ}
use mathlib.Core.List.{Nodup, Nodup-nil, Nodup-cons}
use Rattle.std.proofs.Math.Decide.{ℕ_discrete}
use Rattle.std.proofs.Math.Nat.{pow-le-pow_right, mul-le-mul_left}
use native.Mathlib.Omega.{arith}
use Rattle.std.specs.Float.Ieee.Fits.{eq→eqb, and_l, and_r}
use Rattle.chains.specs.Listing.{count}
use Rattle.chains.specs.Few.{OneBelow, NamedForOne, NamedForTwo, family, with_one, with_two}
use Rattle.chains.proofs.FewLaws.{one_chain, two_chains}

-- ---- how many numbers the lists have

-- No number of a list is n.
unfoldable none : ℕ → List ℕ → Bool
none n [] = true
none n (m ∷ l) = not (eqb n m) && none n l

-- Each number of a list is below 2^64, and none stands there twice.
unfoldable passes : List ℕ → Bool
passes [] = true
passes (n ∷ l) = ltb n (2 ^ 64) && (none n l && passes l)

none_is : (n : ℕ) (l : List ℕ) → T (none n l) → ¬ Memᴰ n l
unfolding none
none_is n [] t i = Memᴰ.not-nil i
none_is n (m ∷ l) t (Memᴰ.head e) = T_not (eqb n m) (and_l (not (eqb n m)) (none n l) t) (eq→eqb e)
none_is n (m ∷ l) t (Memᴰ.tail i) = none_is n l (and_r (not (eqb n m)) (none n l) t) i

passed : (l : List ℕ) → T (passes l) → Nodup l × ((n : ℕ) → Memᴰ n l → n < 2 ^ 64)
unfolding passes
passed [] t = (Nodup-nil, λ n i. absurd (Memᴰ.not-nil i))
passed (m ∷ l) t =
    let u = and_r (ltb m (2 ^ 64)) (none m l && passes l) t in
    let r = passed l (and_r (none m l) (passes l) u) in (
      Nodup-cons.1 (λ i. ∥∥₁_elim i ⊥_prop (none_is m l (and_l (none m l) (passes l) u)), r.0),
      λ n i.
          ⊎_elim (λ (e : n ≡ m). omega (arith, ltb→lt m (2 ^ 64) (and_l (ltb m (2 ^ 64)) (none m l && passes l) t)))
          (λ (j : Memᴰ n l). r.1 n j) (Memᴰ.cases_cons i),
    )

one_passed : Nodup with_one × ((n : ℕ) → Memᴰ n with_one → n < 2 ^ 64)
unfolding with_one family none passes
one_passed = passed with_one tt

two_passed : Nodup with_two × ((n : ℕ) → Memᴰ n with_two → n < 2 ^ 64)
unfolding with_two family none passes
two_passed = passed with_two tt

pub with_one_65 : (length with_one ≡ 65) × Nodup with_one
unfolding with_one family
with_one_65 = (refl, one_passed.0)

pub with_two_126 : (length with_two ≡ 126) × Nodup with_two
unfolding with_two family
with_two_126 = (refl, two_passed.0)

-- ---- what the lists hold

-- The numbers of a family, one by one.
in_family : (c k n : ℕ) → Memᴰ n (family c k) → OneBelow c n
unfolding family OneBelow
in_family c zero n m = absurd (Memᴰ.not-nil m)
in_family c (suc k) n (Memᴰ.head e) = (k, e)
in_family c (suc k) n (Memᴰ.tail m) = in_family c k n m

of_family : (c k n a : ℕ) → a < k → n ≡ c * 2 ^ a - 1 → Memᴰ n (family c k)
unfolding family
of_family c zero n a l e = absurd (omega arith)
of_family c (suc k) n a l e = at (ℕ_discrete a k) (λ z. of_family c k n a (omega arith) e)
  where
    at : Dec (a ≡ k) → (a ≢ k → Memᴰ n (family c k)) → Memᴰ n (family c (suc k))
    at (yes z) below = Memᴰ.head (e ∙ ap (λ (b : ℕ). c * 2 ^ b - 1) z)
    at (no z) below = Memᴰ.tail (below z)

module _ (n : ℕ) (fits : n < 2 ^ 64) where
  -- Where c × 2^k is above 2^64, the exponents below k are all that make a number below 2^64.
  family_holds : (c k : ℕ) → 2 ^ 64 < c * 2 ^ k → Memᴰ n (family c k) ↔ OneBelow c n
  unfolding OneBelow
  family_holds c k high = (in_family c k n, λ b. of_family c k n b.0 (short b.0 b.1) b.1)
    where
      short : (a : ℕ) → n ≡ c * 2 ^ a - 1 → a < k
      short a e =
          let low : ¬ (k ≤ a) = λ l. omega (arith, mul-le-mul_left c (pow-le-pow_right {n = 2} (omega arith) l)) in
          omega arith

  -- A number more in front, and two lists one after the other.
  in_front : {l : List ℕ} {P : Type 0} (m : ℕ) → Memᴰ n l ↔ P → Memᴰ n (m ∷ l) ↔ ((n ≡ m) ⊎ P)
  in_front {l} {P} m h = (
    λ i. ⊎_elim (λ (e : n ≡ m). inl e) (λ (j : Memᴰ n l). inr (h.0 j)) (Memᴰ.cases_cons i),
    ⊎_elim (λ (e : n ≡ m). Memᴰ.head e) (λ (p : P). Memᴰ.tail (h.1 p)),
  )

  in_either : {P Q : Type 0} (l m : List ℕ) → Memᴰ n l ↔ P → Memᴰ n m ↔ Q → Memᴰ n (l ++ m) ↔ (P ⊎ Q)
  in_either {P} {Q} l m h g = (
    λ i.
        ⊎_elim (λ (j : Memᴰ n l). inl (h.0 j)) (λ (j : Memᴰ n m). inr (g.0 j)) (Memᴰ.append_cases l i),
    ⊎_elim (λ (p : P). Memᴰ.append_left m (h.1 p)) (λ (q : Q). Memᴰ.append_right l (g.1 q)),
  )

  one_holds : Memᴰ n with_one ↔ (count n ≡ 1)
  unfolding with_one NamedForOne
  one_holds = Iff.trans (in_front 0 (in_front 1 (family_holds 3 63 (omega arith)))) (Iff.symm (one_chain n))

  two_holds : Memᴰ n with_two ↔ (count n ≡ 2)
  unfolding with_two NamedForTwo
  two_holds =
      Iff.trans
      (in_front 3
      (in_front 4
      (in_front 6
      (in_front 7 (in_either (family 9 61) (family 15 61) (family_holds 9 61 (omega arith)) (family_holds 15 61 (omega arith)))))))
      (Iff.symm (two_chains n))

-- The theorems of record.
pub with_one_holds : (n : ℕ) → Memᴰ n with_one ↔ ((n < 2 ^ 64) × (count n ≡ 1))
with_one_holds n = (λ i. let l = one_passed.1 n i in (l, (one_holds n l).0 i), λ h. (one_holds n h.0).1 h.1)

pub with_two_holds : (n : ℕ) → Memᴰ n with_two ↔ ((n < 2 ^ 64) × (count n ≡ 2))
with_two_holds n = (λ i. let l = two_passed.1 n i in (l, (two_holds n l).0 i), λ h. (two_holds n h.0).1 h.1)
