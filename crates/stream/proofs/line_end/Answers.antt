-- `line_end` tells the first byte 10: the characters before it are none.
use mathlib.Core.Path.{◌≡◌, refl}
use mathlib.Core.Bool.{true}
use mathlib.Core.List.{List, [], ◌∷◌}
use Prim.Native.Nat.{ℕ, zero, suc, ◌+◌, ◌-◌, ◌≤◌, ◌<◌}
use native.Mathlib.Omega.{arith}
use borrow.Author.Rules.{rules}
use borrow.Author.Tests.{ne_eqb, tests}
use lib.ListN.{length, take, drop, length-drop}
use lib.Seq.{get_or-drop, take_all}
use Rattle.std.specs.List.{AllWithin, HoldsAt}
use Rattle.std.proofs.lemmas.Iterator.{YieldsList-from_slice, IsFirst-from_position}
use Rattle.digits.specs.Digits.{every}
use Rattle.lines.specs.Stream.{unbroken}
use Rattle.stream.specs.Pieces.{LineEnd}
use Rattle.stream.proofs.line_end.Goals as goal

abbrev IsEnd : ℕ → Type 0
IsEnd c = c ≡ 10

abbrev IsNoEnd : ℕ → Type 0
IsNoEnd c = c ≡ 10 → ⊥

passes : (s : List ℕ) (n : ℕ) → AllWithin IsNoEnd s 0 n → unbroken (take n s) ≡ true
unfolding unbroken every
passes [] zero h = refl
passes [] (suc n) h = refl
passes (c ∷ s) zero h = refl
passes (c ∷ s) (suc n) h =
    rw (ne_eqb c 10 (h 0 0 (omega arith) (omega arith))) (passes s n (λ k d l m. h (suc k) d (omega arith) (omega arith)))

module _ (block : List ℕ) (from : ℕ) where
  abbrev rest : List ℕ
  rest = take (length block - from) (drop from block)

  all : rest ≡ drop from block
  all = take_all (length block - from) (drop from block) (omega (arith, length-drop from block))

  none : AllWithin IsNoEnd rest 0 (length rest) → unbroken (drop from block) ≡ true
  none h = rw (take_all (length rest) rest (omega arith), all) at (passes rest (length rest) h)

  found : (i : ℕ) → from ≤ length block → (i < length rest) × HoldsAt IsEnd rest i × AllWithin IsNoEnd rest 0 i
      → LineEnd block from (from + i) × (from + i < length block)
  found i l h =
      let e : from + i - from ≡ i = omega arith in
      let g = rw all at h in
      let within : from + i < length block = omega (arith, g.0, length-drop from block) in (
        record {
          after = omega arith;
          within = omega (arith, within);
          unbroken_before = rw e (passes (drop from block) i g.2);
          ended = λ _. rw get_or-drop at (g.1 0);
        },
        within,
      )

pub returns-in_err-behind : goal.returns-in_err-behind
returns-in_err-behind c =
    let t = IsFirst-from_position _ _ _ IsEnd IsNoEnd c.in_err-behind.ensures.ran (YieldsList-from_slice _ c.iter.ensures.rest) (λ x q k. search (rules, tests)) (λ x q k. search (rules, tests)) in
    rw c.from_residual.ensures (none c.args.block.now c.args.from t)

pub returns : goal.returns
returns c =
    let t = IsFirst-from_position _ _ _ IsEnd IsNoEnd c.in_ok-behind.ensures.ran (YieldsList-from_slice _ c.iter.ensures.rest) (λ x q k. search (rules, tests)) (λ x q k. search (rules, tests)) in
    found _ _ _ c.requires t
