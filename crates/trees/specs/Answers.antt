-- What reading and writing tree words answer, and what each leaves in the places that it was lent, at all inputs: document 02, T-05,
-- and document 01's refusals 1, 8, 9, 10.
-- Definitions only; which refusal comes when, and that both services lead back, is in AnswerLaws.
use Rattle.std.specs.Prelude.{Result, Ok, Err}
use Rattle.std.specs.Prelude.{Bool, false, cond, ◌||◌, List, [], ◌∷◌, ℕ, zero, suc, ◌^◌, ltb, eqb, length}
use Rattle.chains.specs.Words.{Word}
use Rattle.lent.specs.Lent.{filled}
use Rattle.refusals.specs.declared.Refusal.{Refusal}
use Rattle.refusals.specs.declared.Refusal.TheVariants.{LittleLent, TooLarge, NoTreeWord}
use Rattle.ranking.specs.Services.{Outcome, refused, gives, of_record}
use Rattle.trees.specs.Trees.{produced, number, read_back}
use Rattle.trees.specs.TreeOf.{tree_of}

-- ---- reading a tree word

-- Some letter is not 1, 2 or 3.
unfoldable pub foreign : Word → Bool
foreign [] = false
foreign (l ∷ w) = eqb l 0 || (ltb 3 l || foreign w)

-- What a word gets: 15 for a letter outside 1 to 3, then 10 where its number reaches 2^64, then 15 where the lines do not produce
-- the word; else its number.
unfoldable pub tree_judged : Word → Result ℕ Refusal
tree_judged w =
    cond (foreign w) (Err NoTreeWord)
    (cond (ltb (number w) (2 ^ 64))
    (cond (produced w (number w)) (Ok (number w)) (Err NoTreeWord))
    (Err TooLarge))

-- A word by what it gets.
unfoldable pub tree_as : Word → Result ℕ Refusal → Outcome
tree_as w (Ok n) = gives n (read_back w)
tree_as w (Err r) = refused r

-- Reading a tree word: its refusal, or its number and the chain that it is read back as. What is answered and left in the lent
-- memory follows from the outcome as for reading a path word (Services in ranking).
unfoldable pub of_tree : Word → Outcome
of_tree w = tree_as w (tree_judged w)

-- ---- writing the tree word of a record

-- A refusal, or the letters.
pub data TreeWord : Type 0 where
  no_tree : Refusal → TreeWord
  tree_word : Word → TreeWord

-- The tree word of the chain that reading a record gives (`of_record` in ranking), or the record's refusal. The empty chain has no tree
-- word and gets 15.
unfoldable pub tree_by : Outcome → TreeWord
tree_by (refused r) = no_tree r
tree_by (gives zero c) = no_tree NoTreeWord
tree_by (gives (suc n) c) = tree_word (tree_of c)

unfoldable pub record_tree : List ℕ → TreeWord
record_tree l = tree_by (of_record l)

-- Refusal 1 first, where fewer than 160 places are lent.
unfoldable pub lent_tree : List ℕ → TreeWord → TreeWord
lent_tree places t = cond (ltb (length places) 160) (no_tree LittleLent) t

-- The answer: how many letters there are, or the refusal.
unfoldable pub tree_told : TreeWord → Result ℕ Refusal
tree_told (no_tree r) = Err r
tree_told (tree_word w) = Ok (length w)

-- The places at exit: the letters, zeros up to 160, later places untouched; untouched with a refusal.
unfoldable pub tree_left : TreeWord → List ℕ → List ℕ
tree_left (no_tree r) entry = entry
tree_left (tree_word w) entry = filled 160 w entry
