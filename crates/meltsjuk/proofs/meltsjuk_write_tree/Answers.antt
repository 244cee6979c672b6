-- `meltsjuk_write_tree` turns the number of letters into a number, case by case of the tree word.
use Rattle.std.proofs.Common.{◌≡◌, refl, ap, ◌∙◌, ℕ}
use Rattle.trees.specs.Answers.{TreeWord, no_tree, tree_word, tree_told}
use Rattle.meltsjuk.specs.Answers.{status, value_or, tree_status, letters_or}
use Rattle.meltsjuk.proofs.meltsjuk_write_tree.Goals as goal

-- x stood where the number of letters is asked for.
told : (t : TreeWord) (x : ℕ) → (status (tree_told t) ≡ tree_status t) × (value_or (tree_told t) x ≡ letters_or t x)
unfolding tree_told
told (no_tree r) x = (refl, refl)
told (tree_word w) x = (refl, refl)

pub returns-clause-answer : goal.returns-clause-answer
returns-clause-answer c =
    c.put.ensures.answer ∙ ap status c.write_tree.ensures.answer ∙ (told _ c.args.k.now).0

pub returns-clause-k : goal.returns-clause-k
returns-clause-k c = c.put.ensures.place ∙ ap (λ t. value_or t c.args.k.now) c.write_tree.ensures.answer ∙ (told _ _).1
