-- Some letter passes the test exactly if the word is foreign.
use Rattle.std.proofs.Common.{[], ◌∷◌, ◌||◌, eqb, ltb, refl, ◌∙◌, ◌≡◌, rules, tests}
use Rattle.std.proofs.Math.Bool.{or_assoc}
use Rattle.std.specs.List.{list_any}
use Rattle.std.proofs.lemmas.Iterator.{YieldsList-from_slice}
use Rattle.std.proofs.lemmas.Iterator.Search.{any_from_yields_List}
use Rattle.chains.specs.Words.{Word}
use Rattle.trees.specs.Answers.{foreign}
use Rattle.trees.proofs.judging.is_foreign.Goals as goal

any_foreign : (w : Word) → list_any (λ x. eqb x 0 || ltb 3 x) w ≡ foreign w
unfolding foreign
any_foreign [] = refl
any_foreign (l ∷ w) = rw (any_foreign w) (or_assoc (eqb l 0) (ltb 3 l) (foreign w))

pub returns : goal.returns
returns c =
    any_from_yields_List (λ x. eqb x 0 || ltb 3 x) _ _ _ c.any.ensures.ran (YieldsList-from_slice c.args.letters.now cc) (λ x b q k. search (rules, tests)) ∙ any_foreign c.args.letters.now
