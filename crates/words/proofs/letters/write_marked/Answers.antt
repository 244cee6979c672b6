-- There is a letter between the two parts, and the first of them is marked.
use mathlib.Core.Path.{◌≡◌, refl, sym, ap, ap₂, ◌∙◌}
use mathlib.Core.List.{List, ◌∷◌, ◌++◌}
use Prim.Native.Nat.{ℕ, zero, suc, ◌+◌, ◌-◌, ◌≤◌, ◌<◌}
use native.Mathlib.Numerals.{add-one}
use native.Mathlib.Omega.{arith}
use lib.ListN.{length, take, drop, get_or, set, replicate}
use lib.Seq.{length-take-le, get_or_at}
use Rattle.chains.specs.Chains.{Part}
use Rattle.chains.specs.Words.{path, marked}
use Rattle.words.specs.Walks.{between, place, OnTheWay}
use Rattle.words.proofs.Between.{between_first}
use Rattle.words.proofs.letters.write_marked.Goals as goal

-- The first of some letters: 0 or 2.
record Begins (w : List ℕ) : Type 0 where
  letter : ℕ
  rest : List ℕ
  is : w ≡ letter ∷ rest
  small : letter ≤ 2

begins : (m n : ℕ) → 0 < m + n → Begins (replicate m 2 ++ replicate n 0)
begins zero zero h = absurd (omega arith)
begins zero (suc n) h = record { letter = 0; rest = replicate n 0; is = refl; small = omega arith }
begins (suc m) n h = record { letter = 2; rest = replicate m 2 ++ replicate n 0; is = refl; small = omega arith }

module _ (q p : Part) (l k : List ℕ) (way : OnTheWay q p (length l)) (h : place q < place p)
    (e : k ≡ between (place q) (place p) (path q p) l) where
  first : Begins (path q p)
  unfolding path
  first = begins (p.b - q.b) (p.a - q.a) (omega arith)

  there : k ≡ between (place q) (place p) (first.letter ∷ first.rest) l
  there = e ∙ ap (λ w. between (place q) (place p) w l) first.is

  found : get_or k (place q) 0 ≡ first.letter
  unfolding between
  found =
      ap (λ s. get_or s (place q) 0) there
      ∙ get_or_at (take (place q) l) first.letter (first.rest ++ drop (place p) l) 0 (place q)
      (length-take-le (place q) l (omega arith))

  written : set k (place q) (get_or k (place q) 0 + 1) ≡ between (place q) (place p) (marked (path q p)) l
  unfolding marked
  written =
      ap₂ (λ s x. set s (place q) x) there (ap (λ x. x + 1) found ∙ add-one first.letter)
      ∙ between_first l (place q) (place p) first.letter (suc first.letter) first.rest (omega arith)
      ∙ ap (λ w. between (place q) (place p) (marked w) l) (sym first.is)

pub overflow_add-places : goal.overflow_add-places
overflow_add-places c =
    let at = found _ _ _ _ c.requires.0 c.requires.1 c.write_path.ensures in
    omega (arith, at, (first _ _ _ _ c.requires.0 c.requires.1 c.write_path.ensures).small)

pub returns : goal.returns
returns c =
    written _ _ _ _ c.requires.0 c.requires.1 c.write_path.ensures
