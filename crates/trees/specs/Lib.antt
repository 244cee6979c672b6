-- Tree words: document 02, T-05; 003, figure 1. What a reader must believe, in this order: Trees (the six lines, the number of a
-- word, reading back), TreeOf (the tree word of a chain as a function; `one_tree_word` says which word it is), Answers (what the
-- services answer and leave). The theory, in proofs/:
--   Letters     a produced word letter by letter: the number's remainder modulo six and the next 2 or 3 decide each letter
--   Owed        the letters 1 that are owed on the way along a word
--   BackLaws    reading back in terms of path words
--   WalkedPaths from a tree word to the path word of its chain, from a path word to its tree word, and back
--   TreeLaws    the theorems of record: each chain has exactly one tree word; how long it is
--   Checked     the four tree words of 19, and one of 157 letters
--   AnswerLaws  when the services give an answer, which refusal comes when, and that both lead back
-- What the private functions cite:
--   Walk        what they tell and ask for
pub mod Trees
pub mod TreeOf
pub mod Answers
pub mod Walk
