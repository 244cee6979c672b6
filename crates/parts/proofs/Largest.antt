-- The exponents of a part number, and those of a record's largest part. The definitions are in Parts.
--
-- In this order: the exponents of a number; the largest part of a chain (`none_larger`); that of a record, by its numbers; whether
-- two parts are the same, which for a part of the table is told by its number.
use Rattle.std.specs.Prelude.{◌≡◌, refl, ◌↔◌, Bool, true, false, List, [], ◌∷◌, map, ℕ, ◌≤◌, ◌<◌, ltb, eqb, length, get_or}
use Rattle.std.proofs.Common.{sym, ap, ◌∙◌, mul-le-mul_right, arith, lt-ltb, le-ltb, ltb-true, eq-eqb, eqb-true}
use Rattle.std.proofs.Math.Bool.{and-eq-true_iff}
use Rattle.std.proofs.Math.Decide.{dec_lt}
use Rattle.chains.specs.Chains.{Part, value, ProperMultiple, Chained, total}
use Rattle.chains.proofs.Divides as divides
use Rattle.parts.specs.Parts.{limit, part_at, exponents_at, largest_part, largest_of, same_part, part_number}
use Rattle.parts.proofs.Numbers.{parts_complete, number_over, number_of_part, part_of_number}
use Rattle.parts.proofs.CodeLaws.{part_bounded}

-- ---- the exponents of a number

pub exponents_at_lem : (i : ℕ) → i < 1344 → exponents_at i ≡ part_at i
unfolding exponents_at
exponents_at_lem i h = rw (lt-ltb i 1344 h)

pub exponents_none : (i : ℕ) → 1344 ≤ i → exponents_at i ≡ record { a = 0; b = 0 }
unfolding exponents_at
exponents_none i h = rw (le-ltb i 1344 h)

exponents_small : (i : ℕ) → ((exponents_at i).a < 64) × ((exponents_at i).b < 64)
unfolding exponents_at
exponents_small i = go (ltb i 1344) refl
  where
    go : (t : Bool) → ltb i 1344 ≡ t → ((exponents_at i).a < 64) × ((exponents_at i).b < 64)
    go true e = let bounds = part_bounded i (ltb-true i 1344 e) in rw e (omega arith, omega arith)
    go false e = rw e (omega arith, omega arith)

-- ---- the largest part of a chain

-- No part of a list is larger than v.
abbrev pub AtMost : ℕ → List Part → Type 0
AtMost v [] = Unit {0}
AtMost v (p ∷ c) = (value p ≤ v) × AtMost v c

at_most_more : (v w : ℕ) (c : List Part) → v ≤ w → AtMost v c → AtMost w c
at_most_more v w [] h m = tt
at_most_more v w (p ∷ c) h m = (omega (arith, m.0), at_most_more v w c h m.1)

multiple_larger : (x y : ℕ) → ProperMultiple x y → y ≤ x
unfolding ProperMultiple
multiple_larger x y (k, two, e) = omega (arith, mul-le-mul_right y two, e)

pub none_larger : (c : List Part) → Chained c → AtMost (value (largest_part c)) c
unfolding largest_part
none_larger [] h = tt
none_larger (p ∷ []) h = (omega arith, tt)
none_larger (p ∷ q ∷ c) h =
    (omega arith, at_most_more (value q) (value p) (q ∷ c) (multiple_larger (value p) (value q) h.0) (none_larger (q ∷ c) h.1))

-- ---- the largest part of a record

pub largest_none : (l : List ℕ) → length l ≡ 0 → largest_of l ≡ record { a = 0; b = 0 }
unfolding largest_of largest_part
largest_none [] e = refl
largest_none (i ∷ l) e = absurd (omega arith)

pub largest_some : (l : List ℕ) → 0 < length l → largest_of l ≡ exponents_at (get_or l 0 0)
unfolding largest_of largest_part
largest_some [] h = absurd (omega arith)
largest_some (i ∷ l) h = refl

-- Each exponent fits into a byte.
pub largest_small : (l : List ℕ) → ((largest_of l).a < 64) × ((largest_of l).b < 64)
unfolding largest_of largest_part
largest_small [] = (omega arith, omega arith)
largest_small (i ∷ l) = exponents_small i

-- By the numbers of a chain's parts it is the chain's.
pub largest_of_chain : (c : List Part) → total c < limit → largest_of (map part_number c) ≡ largest_part c
unfolding largest_of largest_part total
largest_of_chain [] h = refl
largest_of_chain (p ∷ c) h =
    let low : value p < limit = omega arith in
    exponents_at_lem (part_number p) (parts_complete p low).0 ∙ part_of_number p low

-- And where a part of the table has the first number, it is that of the parts that the numbers name.
pub largest_of_parts : (l : List ℕ) → (0 < length l → get_or l 0 0 < 1344) → largest_of l ≡ largest_part (map part_at l)
unfolding largest_of largest_part
largest_of_parts [] h = refl
largest_of_parts (i ∷ l) h = exponents_at_lem i (h (omega arith))

-- ---- the same part

pub same_part_lem : (p q : Part) → (same_part p q ≡ true) ↔ (p ≡ q)
unfolding same_part
same_part_lem p q = (
  λ e. let (a, b) = (and-eq-true_iff (eqb p.a q.a) (eqb p.b q.b)).0 e in
      divides.same_part_lem p q (eqb-true p.a q.a a) (eqb-true p.b q.b b),
  λ e. rw (e, eq-eqb q.a q.a refl, eq-eqb q.b q.b refl),
)

alike : (a b : Bool) → (a ≡ true → b ≡ true) → (b ≡ true → a ≡ true) → a ≡ b
alike true b f g = sym (f refl)
alike false true f g = g refl
alike false false f g = refl

-- A part is that of a number exactly if the number is its own.
module _ (p : Part) (i : ℕ) (h : i < 1344) where
  same_number : part_number p ≡ i → p ≡ exponents_at i
  same_number e = go (dec_lt (value p) limit)
    where
      go : Dec (value p < limit) → p ≡ exponents_at i
      go (yes l) = sym (exponents_at_lem i h ∙ ap part_at (sym e) ∙ part_of_number p l)
      go (no n) = absurd (omega (arith, number_over p (omega arith)))

  own_number : p ≡ exponents_at i → part_number p ≡ i
  own_number e = ap part_number (e ∙ exponents_at_lem i h) ∙ number_of_part i h

  pub by_number : eqb (part_number p) i ≡ same_part p (exponents_at i)
  by_number =
      let same = same_part_lem p (exponents_at i) in
      alike (eqb (part_number p) i) (same_part p (exponents_at i))
      (λ e. same.1 (same_number (eqb-true (part_number p) i e))) (λ e. eq-eqb (part_number p) i (own_number (same.0 e)))
