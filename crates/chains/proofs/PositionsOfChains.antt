-- The chain at a position of the list of n is a chain of n and has that position; each chain of n stands at its position, and
-- nowhere else (`stands_once`); the last chain is the one that no chain comes after.
-- From Positions, where the same is said of words, by the round trip between chains and words (RoundTrip).
use Rattle.std.specs.Prelude.{◌≡◌, ◌↔◌, ℕ, ◌+◌, ◌≤◌, ◌<◌, get_or}
use Rattle.std.proofs.Common.{sym, ap, ◌∙◌, arith}
use mathlib.Core.List.{List, [], Memᴰ}
use Rattle.chains.specs.Chains.{Part, ChainOf}
use Rattle.chains.specs.Words.{word_of, chain_of}
use Rattle.chains.specs.Listing.{list_of, count, position, chain_at}
use Rattle.chains.proofs.RoundTrip.{chain_word_chain, word_chain_word}
use Rattle.chains.proofs.Readers.{readers_good}
use Rattle.chains.proofs.Members.{get_or_member}
use Rattle.chains.proofs.Listed.{list_of_chains, chain_listed}
use Rattle.chains.proofs.Positions.{position_word_at, word_at_position}

-- The word at an index of the list.
listed : (n i : ℕ) → i < count n → Memᴰ (get_or (list_of n) i []) (list_of n)
unfolding count
listed n i h = get_or_member (list_of n) i h

-- The chain at a position is a chain of n.
pub chain_at_chain : (n i : ℕ) → i < count n → ChainOf n (chain_at n i)
unfolding chain_at
chain_at_chain n i h = ((list_of_chains n (get_or (list_of n) i [])).0 (listed n i h)).1

-- Its word is the one that stands there,
pub word_chain_at : (n i : ℕ) → i < count n → word_of (chain_at n i) ≡ get_or (list_of n) i []
unfolding chain_at
word_chain_at n i h =
    let w = get_or (list_of n) i [] in
    word_chain_word w ((readers_good w).1 ((list_of_chains n w).0 (listed n i h)).0)

-- and it has that position.
pub position_at : (n i : ℕ) → i < count n → position n (chain_at n i) ≡ i
unfolding position
position_at n i h = rw (word_chain_at n i h) (position_word_at n i h)

-- Each chain of n stands at its position.
pub at_position_lem : (n : ℕ) (c : List Part) → ChainOf n c → (position n c < count n) × (chain_at n (position n c) ≡ c)
unfolding position chain_at
at_position_lem n c h =
    let p = word_at_position n (word_of c) (chain_listed n c h) in
    (p.0, ap chain_of p.1 ∙ chain_word_chain c h.chained)

-- Each chain of n stands in the list of n exactly once.
pub stands_once : (n : ℕ) (c : List Part) → ChainOf n c
    → (i : ℕ) × (i < count n) × (chain_at n i ≡ c) × ((j : ℕ) → j < count n → chain_at n j ≡ c → j ≡ i)
stands_once n c h =
    let (low, there) = at_position_lem n c h in
    (position n c, low, there, λ j l e. sym (position_at n j l) ∙ ap (position n) e)

-- A chain has the last position exactly if no chain of n comes after it.
pub last_chain : (n : ℕ) (c : List Part) → ChainOf n c
    → (position n c + 1 ≡ count n) ↔ ((d : List Part) → ChainOf n d → position n d ≤ position n c)
last_chain n c h = (λ e d g. omega (arith, (at_position_lem n d g).0), none_after)
  where
    i : ℕ
    i = position n c + 1

    none_after : ((d : List Part) → ChainOf n d → position n d ≤ position n c) → position n c + 1 ≡ count n
    none_after all =
        let last : ¬ (i < count n) = λ l. omega (arith, all (chain_at n i) (chain_at_chain n i l), position_at n i l) in
        omega (arith, (at_position_lem n c h).0)
