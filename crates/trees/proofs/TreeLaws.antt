-- Tree words, the theorems of record: document 02, T-05; 003, figure 1.
-- In order: the number of a word; what a produced word leads to; what a chain leads to; that a chain has exactly one tree word (`one_tree_word`) and which
-- words a number's lines produce (`tree_words`); how long a tree word is (`tree_short`), and its letters.
use Rattle.std.specs.Prelude.{◌≡◌, refl, ◌↔◌, true, ℕ, zero, suc, ◌^◌, ◌%◌, ◌≤◌, ◌<◌, T, length, drop, get_or}
use Rattle.std.proofs.Math.Path.{ap}
use Rattle.std.proofs.Common.{sym, ◌∙◌, le_refl, le_trans, arith}
use mathlib.Core.List.Memᴰ
use mathlib.Core.List.{List, [], ◌∷◌, map, Memᴰ}
use Rattle.chains.specs.Chains.{Part, ChainOf}
use Rattle.chains.specs.Words.{Word, word_of, chain_of}
use Rattle.chains.specs.Listing.{list_of}
use Rattle.chains.proofs.Weight.{total_chain_of}
use Rattle.chains.proofs.RoundTrip.{chain_word_chain, word_reads, word_chained, word_chain_word}
use Rattle.chains.proofs.Bounds.{weight_word_of, letters_bound}
use Rattle.chains.proofs.Listed.{list_of_chains, chain_listed}
use Rattle.trees.specs.Trees.{produced, number, read_back}
use Rattle.trees.specs.TreeOf.{number_after, letters_in, tree_of, path_from}
use Rattle.trees.proofs.Letters.{rising, Letter, only_one, first_letter, rising_low, letter_range}
use Rattle.trees.proofs.Owed.{none, Onward, one, two, three, onward}
use Rattle.trees.proofs.BackLaws.{adding_none}
use Rattle.trees.proofs.WalkedPaths.{Walked, walked, Lettered, lettered, same_word}

-- ---- the number of a word

-- From the last letter back it never falls. So it reaches a bound on the way exactly if the whole word's number does.
letter_more : (l : ℕ) (w : Word) → number w ≤ number (l ∷ w)
unfolding number
letter_more zero w = omega arith
letter_more (suc zero) w = omega arith
letter_more (suc (suc zero)) w = omega arith
letter_more (suc (suc (suc zero))) w = omega arith
letter_more (suc (suc (suc (suc x)))) w = omega arith

pub number_later : (i : ℕ) (w : Word) → number (drop i w) ≤ number w
number_later zero w = le_refl (number w)
number_later (suc i) [] = le_refl (number [])
number_later (suc i) (l ∷ w) = le_trans (number_later i w) (letter_more l w)

-- ---- what a produced word leads to

-- The number of a produced word is the one that it was produced from.
number_letter : (n l : ℕ) (t : Word) → Letter n l t → Onward 0 n (rising (l ∷ t)) 0 l → number t ≡ number_after l n → number (l ∷ t) ≡ n
unfolding number number_after
number_letter n l t k (one e z o) h = let g = rw e at h in rw e (omega (arith, k.more))
number_letter n l t k (two e z m q b o) h = let g = rw e at h in rw e (omega arith)
number_letter n l t k (three e z m b q) h = let g = rw e at h in rw e (omega arith)

pub tree_number : (t : Word) (n : ℕ) → T (produced t n) → number t ≡ n
unfolding number
tree_number [] n h = sym (only_one n h)
tree_number (l ∷ t) n h =
    let k = first_letter n l t h in
    number_letter n l t k
    (onward n (rising (l ∷ t)) l k.more (rising_low (l ∷ t)) k.falls 0 0 k.is (none refl (omega arith)))
    (tree_number t (number_after l n) k.rest)

module _ (t : Word) (n : ℕ) (h : T (produced t n)) where
  pub led : Walked 0 n t true 5
  led = walked t 0 n 5 true h (none refl (omega arith)) (λ _ _. tt)

  -- Reading back is reading the path word.
  pub read_path : read_back t ≡ chain_of (path_from 0 t)
  read_path = sym (led.chain ∙ adding_none t)

  -- It gives a chain of the number, which is at least 1.
  pub tree_chain : ChainOf n (read_back t)
  tree_chain =
      rw read_path
      (record { chained = word_chained (path_from 0 t); sums = total_chain_of (path_from 0 t) ∙ omega (arith, led.weighs) })

  pub tree_positive : 1 ≤ n
  tree_positive = go t h
    where
      go : (u : Word) → T (produced u n) → 1 ≤ n
      go [] g = omega (arith, only_one n g)
      go (l ∷ u) g = omega (arith, (first_letter n l u g).more)

  -- From a produced word to its chain and back.
  pub tree_chain_tree : tree_of (read_back t) ≡ t
  unfolding tree_of
  tree_chain_tree =
      let path : word_of (read_back t) ≡ path_from 0 t = ap word_of read_path ∙ word_chain_word (path_from 0 t) led.good in
      let k = lettered n (path_from 0 t) tree_positive led.good (omega (arith, led.weighs)) in
      rw (tree_chain.sums, path) (same_word (letters_in n n (path_from 0 t)) t n 0 k.made h k.path)

  -- Of a number below 2^64 it has at most 157 letters.
  pub produced_short : n < 2 ^ 64 → length t ≤ 157
  produced_short f =
      omega (arith, led.short, letters_bound 64 (path_from 0 t) led.good (omega (arith, led.weighs)))

-- ---- what a chain leads to

module _ (n : ℕ) (c : List Part) (pos : 1 ≤ n) (h : ChainOf n c) where
  spelled : Lettered 0 n (word_of c) (tree_of c)
  unfolding tree_of
  spelled = rw h.sums (lettered n (word_of c) pos (word_reads c) (weight_word_of c h.chained ∙ h.sums))

  -- From a chain of a number of at least 1 to its tree word, which the number's lines produce, and back.
  pub chain_tree : T (produced (tree_of c) n)
  chain_tree = spelled.made

  pub chain_tree_chain : read_back (tree_of c) ≡ c
  chain_tree_chain = read_path (tree_of c) n chain_tree ∙ ap chain_of spelled.path ∙ chain_word_chain c h.chained

  -- Each chain of n has exactly one tree word.
  pub one_tree_word : (t : Word) → (T (produced t n) × (read_back t ≡ c)) ↔ (t ≡ tree_of c)
  one_tree_word t = (
    λ k. sym (tree_chain_tree t n k.0) ∙ ap tree_of k.1,
    λ e. rw e (chain_tree, chain_tree_chain),
  )

-- The tree words of the chains in the list of n, in the list's order.
unfoldable pub trees_of : ℕ → List Word
trees_of n = map (λ (w : Word). tree_of (chain_of w)) (list_of n)

-- They are the words that the lines produce from n.
pub tree_words : (n : ℕ) (t : Word) → 1 ≤ n → T (produced t n) ↔ Memᴰ t (trees_of n)
unfolding trees_of
tree_words n t pos = (there, back)
  where
    there : T (produced t n) → Memᴰ t (map (λ (w : Word). tree_of (chain_of w)) (list_of n))
    there h =
        let chain = tree_chain t n h in
        let same : tree_of (chain_of (word_of (read_back t))) ≡ t =
        ap tree_of (chain_word_chain (read_back t) chain.chained) ∙ tree_chain_tree t n h in
        rw same at (Memᴰ.map (λ (w : Word). tree_of (chain_of w)) (chain_listed n (read_back t) chain))

    back : Memᴰ t (map (λ (w : Word). tree_of (chain_of w)) (list_of n)) → T (produced t n)
    back m =
        let (w, listed, is) = Memᴰ.of_map (λ (w : Word). tree_of (chain_of w)) (list_of n) m in
        rw is at (chain_tree n (chain_of w) pos ((list_of_chains n w).0 listed).1)

-- ---- its letters

-- A produced word has the letters 1, 2 and 3.
pub tree_letters : (t : Word) (n : ℕ) → T (produced t n) → (i : ℕ) → i < length t → (1 ≤ get_or t i 0) × (get_or t i 0 ≤ 3)
tree_letters [] n h i k = absurd (omega arith)
tree_letters (l ∷ t) n h zero k =
    let first = first_letter n l t h in
    rw first.is (letter_range (n % 6) (rising (l ∷ t)) (rising_low (l ∷ t)))
tree_letters (l ∷ t) n h (suc i) k = tree_letters t (number_after l n) (first_letter n l t h).rest i (omega arith)
