-- Numbers and words of document 02's T-05: the tree word of 1, the four tree words of 19, and a tree word of 157 letters.
use Rattle.std.specs.Prelude.{◌≡◌, refl, ◌↔◌, ℕ, zero, suc, ◌-◌, ◌^◌, T, length}
use mathlib.Core.List.{List, [], ◌∷◌, ◌++◌, Memᴰ}
use Rattle.std.proofs.Common.{arith}
use Rattle.chains.specs.Chains.{value, total}
use Rattle.chains.specs.Words.{Word, right, up, path, marked, walk, word_of, chain_from, chain_of}
use Rattle.chains.specs.Listing.{by_third, at_rest, words_in, words_at, list_of}
use Rattle.trees.specs.Trees.{line, produced}
use Rattle.trees.specs.TreeOf.{letter_at, number_after, up_next, letters_in, tree_of}
use Rattle.trees.proofs.TreeLaws.{trees_of, tree_words}

-- The number 1 has the empty word alone.
pub words_of_1 : (t : Word) → T (produced t 1) ↔ (t ≡ [])
unfolding produced
words_of_1 [] = (λ _. refl, λ _. tt)
words_of_1 (l ∷ t) = (absurd, λ e. let z : ◌≡◌ {A = ℕ} 0 1 = cc in absurd (omega arith))

-- The tree words of 19, in the order of its list: of 16 + 2 + 1, 12 + 4 + 2 + 1, 12 + 6 + 1 and 18 + 1.
unfoldable pub four_words : List Word
four_words =
    (1 ∷ 1 ∷ 1 ∷ 2 ∷ 2 ∷ 2 ∷ 2 ∷ [])
    ∷ (1 ∷ 1 ∷ 1 ∷ 2 ∷ 2 ∷ 1 ∷ 3 ∷ [])
    ∷ (1 ∷ 3 ∷ 1 ∷ 1 ∷ 2 ∷ 2 ∷ [])
    ∷ (1 ∷ 3 ∷ 3 ∷ 2 ∷ [])
    ∷ []

trees_19 : trees_of 19 ≡ four_words
unfolding trees_of list_of words_at words_in at_rest by_third chain_of chain_from right up tree_of letters_in letter_at number_after up_next total value word_of walk path marked four_words
trees_19 = refl

-- The lines produce these words from 19, and no others.
pub words_of_19 : (t : Word) → T (produced t 19) ↔ Memᴰ t four_words
words_of_19 t = rw trees_19 at (tree_words 19 t (omega arith))

-- The bound of 157 letters is reached, by a tree word of 2^64 - 1: 12, and 11122 31 times.
unfoldable pub repeated : ℕ → Word → Word
repeated zero w = []
repeated (suc k) w = w ++ repeated k w

unfoldable pub long_word : Word
long_word = 1 ∷ 2 ∷ repeated 31 (1 ∷ 1 ∷ 1 ∷ 2 ∷ 2 ∷ [])

pub longest : (length long_word ≡ 157) × T (produced long_word (2 ^ 64 - 1))
unfolding long_word repeated produced line
longest = (refl, tt)
