-- What proposition 5 means for the list of n: document 02, T-11.
--
-- In this order: the chains of a number whose count is 1 or 2; the same of the numbers that are named for one chain and for two
-- (`only_chain`, `only_chains`); the positions of their chains; limits.
use Rattle.std.specs.Prelude.{◌≡◌, ◌↔◌, ◌⊎◌, ◌≢◌}
use Rattle.std.proofs.Math.Path.{refl, sym, ap}
use Rattle.std.proofs.Common.{◌∙◌}
use Rattle.std.proofs.Math.Logic.{inl, inr, ⊎_elim}
use mathlib.Core.List.{List}
use Prim.Native.Nat.{ℕ, zero, suc, ◌≤◌, ◌<◌}
use native.Mathlib.Omega.{arith}
use Rattle.chains.specs.Chains.{Part, ChainOf}
use Rattle.chains.specs.Listing.{count, position, chain_at}
use Rattle.chains.proofs.PositionsOfChains.{chain_at_chain, position_at, at_position_lem}
use Rattle.chains.specs.Best.{Limits, Within, NoneFits}
use Rattle.chains.proofs.Counts.{count_pos}
use Rattle.chains.specs.Few.{NamedForOne, NamedForTwo, OnlyChain, OnlyChains}
use Rattle.chains.proofs.FewLaws.{one_chain, two_chains}

module _ (n : ℕ) where
  -- A chain stands at its position.
  is_at : (c : List Part) (i : ℕ) → ChainOf n c → position n c ≡ i → c ≡ chain_at n i
  is_at c i h e = sym (at_position_lem n c h).1 ∙ ap (chain_at n) e

  -- With a count of 1 the chain at position 0 is the only one, and a number with an only chain has a count of 1.
  one_only : count n ≡ 1 → OnlyChain n (chain_at n 0)
  unfolding OnlyChain
  one_only e = (chain_at_chain n 0 (count_pos n), λ c h. is_at c 0 h (omega (arith, (at_position_lem n c h).0)))

  only_one : (c : List Part) → OnlyChain n c → count n ≡ 1
  unfolding OnlyChain
  only_one c only =
      let there : (i : ℕ) → i < count n → i ≡ position n c =
      λ i l. sym (position_at n i l) ∙ ap (position n) (only.1 (chain_at n i) (chain_at_chain n i l)) in
      let none : ¬ (1 < count n) = λ l. omega (arith, there 0 (count_pos n), there 1 l) in
      omega (arith, count_pos n)

  -- The same with a count of 2.
  two_only : count n ≡ 2 → OnlyChains n (chain_at n 0) (chain_at n 1)
  unfolding OnlyChains
  two_only e =
      let second : 1 < count n = omega arith in (
        chain_at_chain n 0 (count_pos n),
        chain_at_chain n 1 second,
        λ z. omega (arith, position_at n 0 (count_pos n), position_at n 1 second, ap (position n) z),
        λ c h. first_or_second c h (position n c) refl (omega (arith, (at_position_lem n c h).0)),
      )
    where
      first_or_second : (c : List Part) → ChainOf n c → (i : ℕ) → position n c ≡ i → i < 2 → (c ≡ chain_at n 0) ⊎ (c ≡ chain_at n 1)
      first_or_second c h zero g l = inl (is_at c 0 h g)
      first_or_second c h (suc i) g l = inr (is_at c 1 h (omega arith))

  only_two : (c d : List Part) → OnlyChains n c d → count n ≡ 2
  unfolding OnlyChains
  only_two c d only =
      let there : (i : ℕ) → i < count n → (i ≡ position n c) ⊎ (i ≡ position n d) =
      λ i l.
      ⊎_elim (λ (e : chain_at n i ≡ c). inl (sym (position_at n i l) ∙ ap (position n) e))
      (λ (e : chain_at n i ≡ d). inr (sym (position_at n i l) ∙ ap (position n) e))
      (only.3 (chain_at n i) (chain_at_chain n i l)) in
      let apart : position n c ≢ position n d =
      λ e. only.2 (is_at c (position n d) only.0 e ∙ (at_position_lem n d only.1).1) in
      let none : ¬ (2 < count n) = λ l. clash (there 0 (omega arith)) (there 1 (omega arith)) (there 2 l) in
      omega (arith, (at_position_lem n c only.0).0, (at_position_lem n d only.1).0)
    where
      clash : (0 ≡ position n c) ⊎ (0 ≡ position n d) → (1 ≡ position n c) ⊎ (1 ≡ position n d)
          → (2 ≡ position n c) ⊎ (2 ≡ position n d) → ⊥
      clash (inl i) (inl j) k = omega arith
      clash (inl i) (inr j) (inl k) = omega arith
      clash (inl i) (inr j) (inr k) = omega arith
      clash (inr i) (inl j) (inl k) = omega arith
      clash (inr i) (inl j) (inr k) = omega arith
      clash (inr i) (inr j) k = omega arith

  -- ---- the theorems of record

  -- A number that has only one chain is named for one, and its only chain is at position 0.
  pub only_chain_named : (c : List Part) → OnlyChain n c → NamedForOne n
  only_chain_named c only = (one_chain n).0 (only_one c only)

  pub only_chain : NamedForOne n ↔ OnlyChain n (chain_at n 0)
  only_chain = (λ o. one_only ((one_chain n).1 o), only_chain_named (chain_at n 0))

  -- A number that has only two is named for two, and they are at positions 0 and 1.
  pub only_chains_named : (c d : List Part) → OnlyChains n c d → NamedForTwo n
  only_chains_named c d only = (two_chains n).0 (only_two c d only)

  pub only_chains : NamedForTwo n ↔ OnlyChains n (chain_at n 0) (chain_at n 1)
  only_chains = (λ t. two_only ((two_chains n).1 t), only_chains_named (chain_at n 0) (chain_at n 1))

  -- The positions of their chains, which replies tell.
  pub one_position : NamedForOne n → (c : List Part) → ChainOf n c → position n c ≡ 0
  one_position o c h = omega (arith, (at_position_lem n c h).0, (one_chain n).1 o)

  pub two_positions : NamedForTwo n → (c : List Part) → ChainOf n c → position n c ≤ 1
  two_positions t c h = omega (arith, (at_position_lem n c h).0, (two_chains n).1 t)

  -- No chain is within limits exactly if the only one is outside them.
  pub one_outside : NamedForOne n → (lim : Limits) → NoneFits n lim ↔ (¬ Within lim (chain_at n 0))
  unfolding OnlyChain
  one_outside o lim =
      let only = only_chain.0 o in
      (λ none w. none (chain_at n 0) only.0 w, λ out c h w. out (rw (only.1 c h) at w))
