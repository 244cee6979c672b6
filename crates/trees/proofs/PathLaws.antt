-- A tree word and its path word in the answers of the services: reading the path word is reading the tree word, and the letters
-- along the bits of a path word are those along the path word itself.
use mathlib.Core.Path.{◌≡◌, refl, sym, ◌∙◌}
use mathlib.Core.Bool.{Bool, true}
use mathlib.Core.List.{List, [], ◌∷◌}
use Prim.Native.Nat.{ℕ, zero, suc, ◌/◌, ◌%◌, ◌^◌, ◌≤◌, ◌<◌}
use native.Mathlib.Omega.{arith}
use lib.Dec.{T}
use lib.Ieee.Bits.{is_true}
use lib.ListN.{length, drop}
use borrow.Author.Tests.{lt-ltb}
use Rattle.chains.specs.Chains.{total}
use Rattle.chains.specs.Words.{Word, reads, word_of, chain_of}
use Rattle.chains.proofs.Weight.{total_chain_of}
use Rattle.chains.proofs.Marks.{taken}
use Rattle.chains.proofs.Bounds.{letters_bound}
use Rattle.chains.proofs.RoundTrip.{word_reads}
use Rattle.words.specs.Records.{record_parts}
use Rattle.words.specs.Packed.{bits, rise}
use Rattle.words.specs.PackedLaws.{PackedFrom}
use Rattle.ranking.specs.Services.{of_word}
use Rattle.trees.specs.Trees.{produced}
use Rattle.trees.specs.TreeOf.{letter_at, number_after, up_next, letters_in, tree_of, path_from}
use Rattle.trees.proofs.Letters.{letter_range}
use Rattle.trees.proofs.WalkedPaths.{up_low}
use Rattle.trees.proofs.TreeLaws.{led, read_path, produced_short, chain_tree}
use Rattle.trees.specs.Answers.{of_tree}
use Rattle.trees.proofs.AnswerLaws.{tree_read}
use Rattle.trees.specs.Walk.{Readable, letters_by, letters_for}

-- ---- reading

-- A word that is produced from n, a number below 2^64.
module _ (w : Word) (n : ℕ) (made : T (produced w n)) (fits : n < 2 ^ 64) where
  sums : total (chain_of (path_from 0 w)) ≡ n
  sums = total_chain_of (path_from 0 w) ∙ omega (arith, (led w n made).weighs)

  pub readable : Readable w 64
  readable =
      record {
        number = n;
        made = made;
        room = letters_bound 64 (path_from 0 w) (led w n made).good (omega (arith, (led w n made).weighs));
      }

  pub outcome_path : of_word (path_from 0 w) ≡ of_tree w
  unfolding of_word
  outcome_path =
      rw (is_true (reads true (path_from 0 w)) (led w n made).good, sums, lt-ltb n (2 ^ 64) fits)
      (sym ((tree_read w n (chain_of (path_from 0 w))).1 ((made, fits), sym (read_path w n made))))

-- ---- writing

-- The lowest bit of a good path word, and the bits after a letter.
first_bit : (f : Bool) (v : Word) → T (reads f v) → bits rise v % 2 ≡ up_next v
unfolding bits up_next
first_bit f [] h = refl
first_bit f (zero ∷ v) h = omega arith
first_bit f (suc zero ∷ v) h = omega arith
first_bit f (suc (suc zero) ∷ v) h = omega arith
first_bit f (suc (suc (suc zero)) ∷ v) h = omega arith
first_bit f (suc (suc (suc (suc x))) ∷ v) h = absurd (omega (arith, (taken f (suc (suc (suc (suc x)))) v h).0))

later_bits : (f : Bool) (v : Word) (l : ℕ) → T (reads f v) → 1 ≤ l → l ≤ 3
    → (bits rise v / 2 ^ (l / 2) ≡ bits rise (drop (l / 2) v)) × (g : Bool) × T (reads g (drop (l / 2) v))
unfolding bits
later_bits f v zero h low high = absurd (omega arith)
later_bits f v (suc zero) h low high = (omega arith, f, h)
later_bits f [] (suc (suc zero)) h low high = (refl, f, h)
later_bits f [] (suc (suc (suc zero))) h low high = (refl, f, h)
later_bits f (x ∷ v) (suc (suc zero)) h low high = let (k, g, t) = taken f x v h in (omega arith, g, t)
later_bits f (x ∷ v) (suc (suc (suc zero))) h low high = let (k, g, t) = taken f x v h in (omega arith, g, t)
later_bits f v (suc (suc (suc (suc l)))) h low high = absurd (omega arith)

along_bits : (k n : ℕ) (f : Bool) (v : Word) → T (reads f v) → letters_by k n (bits rise v) ≡ letters_in k n v
unfolding letters_by letters_in
along_bits zero n f v h = refl
along_bits (suc k) n f v h =
    let l = letter_at (n % 6) (up_next v) in
    let (low, high) = letter_range (n % 6) (up_next v) (up_low v) in
    let (later, g, t) = later_bits f v l h low high in
    rw (first_bit f v h, later, along_bits k (number_after l n) g (drop (l / 2) v) t)

-- The letters along the bits of a record's word are those of the tree word of its chain, and at most 157.
module _ {l : List ℕ} {n rises marks letters : ℕ} (p : PackedFrom l n rises marks letters) where
  pub record_letters : letters_for n rises ≡ tree_of (record_parts l)
  unfolding letters_for tree_of
  record_letters = rw (p.rising, p.burned.chain.sums) (along_bits n n true (word_of (record_parts l)) (word_reads (record_parts l)))

  pub record_short : 1 ≤ n → length (letters_for n rises) ≤ 157
  record_short pos =
      rw record_letters
      (produced_short (tree_of (record_parts l)) n (chain_tree n (record_parts l) pos p.burned.chain) p.burned.fits)
