-- The list of n in terms of chains: a word stands in it exactly if it is good and stands for a chain of n, and the word of every
-- chain of n stands in it. What the list holds in terms of words is in Members; positions of chains are in PositionsOfChains.
use Rattle.std.specs.Prelude.{◌↔◌, ℕ}
use Rattle.std.proofs.Math.Logic.Iff
use mathlib.Core.List.{List, Memᴰ}
use Rattle.chains.specs.Chains.{Part, ChainOf}
use Rattle.chains.specs.Words.{Word, Good, word_of, chain_of}
use Rattle.chains.specs.Listing.{list_of}
use Rattle.chains.proofs.Members.{list_holds}
use Rattle.chains.proofs.Readers.{readers_good}
use Rattle.chains.proofs.RoundTrip.{chain_word_chain, word_reads, word_chained}

-- A word stands in the list of n exactly if it is good and stands for a chain of n.
pub list_of_chains : (n : ℕ) (w : Word) → Memᴰ w (list_of n) ↔ (Good w × ChainOf n (chain_of w))
list_of_chains n w =
    Iff.trans (list_holds n w) (Iff.and Iff.rfl (λ e. record { chained = word_chained w; sums = e }, λ h. h.sums))

-- The word of a chain of n stands in the list of n.
pub chain_listed : (n : ℕ) (c : List Part) → ChainOf n c → Memᴰ (word_of c) (list_of n)
chain_listed n c h =
    (list_of_chains n (word_of c)).1 ((readers_good (word_of c)).0 (word_reads c), rw (chain_word_chain c h.chained) h)
