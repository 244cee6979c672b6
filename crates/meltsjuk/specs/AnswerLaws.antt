-- What an answer's number says. A reply has at least two digits. So `meltsjuk_reply` answers 1 exactly where too little is lent, and
-- never as a length. No refusal has the number 0. So `meltsjuk_run` answers 0 exactly where it has a residue, `meltsjuk_read_tree`
-- exactly where it has a chain, `meltsjuk_write_tree` exactly where it has letters, and the functions for a bench exactly where they
-- do what is asked.
--
-- Where two functions put the same kind of answer into numbers, the laws for their proofs stand here too: those of a chain that is
-- chosen, and of the bench.
use Rattle.std.specs.Prelude.{◌≡◌, refl, ◌↔◌, Bool, true, false, List, ℕ, length, Result, Ok, Err}
use Rattle.std.proofs.Common.{ap, ◌∙◌, arith}
use Rattle.chains.specs.Chains.{Part}
use Rattle.chains.specs.Words.{Word}
use Rattle.chains.specs.Best.{Prices, price}
use Rattle.refusals.specs.declared.Refusal.{Refusal}
use Rattle.refusals.specs.Refusals.{number_of}
use Rattle.refusals.proofs.Numbers.{number_some}
use Rattle.ranking.specs.Services.{Outcome, refused, gives}
use Rattle.best.specs.Chosen.{chosen_of}
use Rattle.best.specs.declared.Chosen.{Chosen}
use Rattle.trees.specs.Answers.{TreeWord, no_tree, tree_word}
use Rattle.frames.specs.ReplyLaws.{reply_frame}
use Rattle.running.specs.Ran.{ran_of}
use Rattle.bench.specs.Benches as bench
use Rattle.bench.specs.declared.Walked.{Walked}
use Rattle.bench.specs.declared.Told.{Told}
use Rattle.meltsjuk.specs.Answers.{digits_or_refusal, status, value_or, outcome_status, parts_or, price_or}
use Rattle.meltsjuk.specs.Answers.{tree_chain_asked, tree_asked, tree_status}

pub one_is_refusal : (little : Bool) (line : List ℕ) → digits_or_refusal little line ≡ 1 → little ≡ true
one_is_refusal true line e = refl
one_is_refusal false line e = absurd (omega (arith, (reply_frame line).least))

-- A service's answer is 0 exactly where it did what it was asked.
pub zero_is_ok : {T : Type 0} (a : Result T Refusal) → (status a ≡ 0) ↔ ((t : T) × (a ≡ Ok t))
zero_is_ok (Ok t) = (λ _. (t, refl), λ _. refl)
zero_is_ok (Err r) = (
  λ e. absurd (number_some r e),
  λ f. let g = f.1 in let z : ◌≡◌ {A = ℕ} 0 1 = cc in absurd (omega arith),
)

pub zero_is_served : (l : List ℕ) (m x : ℕ) → (status (ran_of l m x) ≡ 0) ↔ ((r : ℕ) × (ran_of l m x ≡ Ok r))
zero_is_served l m x = zero_is_ok (ran_of l m x)

-- A chain that is asked for, and a tree word that is asked for.
chain_zero : (o : Outcome) → (outcome_status o ≡ 0) ↔ ((n : ℕ) × (c : List Part) × (o ≡ gives n c))
chain_zero (refused r) = (
  λ e. absurd (number_some r e),
  λ f. let g = f.2 in let z : ◌≡◌ {A = ℕ} 0 1 = cc in absurd (omega arith),
)
chain_zero (gives n c) = (λ _. (n, c, refl), λ _. refl)

pub zero_is_chain : (s p : List ℕ) (w : Word)
    → (outcome_status (tree_chain_asked s p w) ≡ 0) ↔ ((n : ℕ) × (c : List Part) × (tree_chain_asked s p w ≡ gives n c))
zero_is_chain s p w = chain_zero (tree_chain_asked s p w)

letters_zero : (t : TreeWord) → (tree_status t ≡ 0) ↔ ((w : Word) × (t ≡ tree_word w))
letters_zero (no_tree r) = (
  λ e. absurd (number_some r e),
  λ f. let g = f.1 in let z : ◌≡◌ {A = ℕ} 0 1 = cc in absurd (omega arith),
)
letters_zero (tree_word w) = (λ _. (w, refl), λ _. refl)

pub zero_is_letters : (p l : List ℕ) → (tree_status (tree_asked p l) ≡ 0) ↔ ((w : Word) × (tree_asked p l ≡ tree_word w))
zero_is_letters p l = letters_zero (tree_asked p l)

-- The answer of a count is a, and x stood where the count is asked for.
module _ (a : Result ℕ Refusal) (x : ℕ) where
  pub count_is_told : (m : ℕ) → a ≡ Ok m → (0 ≡ status a) × (m ≡ value_or a x)
  count_is_told m e = rw e (refl, refl)

  pub no_count_is_told : (r : Refusal) → a ≡ Err r → (number_of r ≡ status a) × (x ≡ value_or a x)
  no_count_is_told r e = rw e (refl, refl)

-- ---- a chain that is chosen: the best or the cheapest

-- x and y stood where the number of parts and the price are asked for.
module _ (π : Prices) (x y : ℕ) where
  pub chosen_is_told : (o : Outcome) (chosen : Chosen) → Ok chosen ≡ chosen_of (price π) o
      → (0 ≡ outcome_status o) × (chosen.k ≡ parts_or o x) × (chosen.price ≡ price_or π o y)
  unfolding chosen_of
  chosen_is_told (refused r) chosen e =
      let f : ◌≡◌ {A = ℕ} 0 1 = cc in
      absurd (omega arith)
  chosen_is_told (gives n c) chosen e =
      let same : chosen ≡ record { k = length c; price = price π c } = cc in
      (refl, ap (λ (d : Chosen). d.k) same, ap (λ (d : Chosen). d.price) same)

  pub none_chosen_is_told : (o : Outcome) (r : Refusal) → Err r ≡ chosen_of (price π) o
      → (number_of r ≡ outcome_status o) × (x ≡ parts_or o x) × (y ≡ price_or π o y)
  unfolding chosen_of
  none_chosen_is_told (refused q) r e =
      let same : r ≡ q = cc in
      (ap number_of same, refl, refl)
  none_chosen_is_told (gives n c) r e =
      let f : ◌≡◌ {A = ℕ} 0 1 = cc in
      absurd (omega arith)

-- ---- the bench

-- What is answered says as much as what is left.
pub answer_status : (o : bench.Outcome) → status (bench.answer_of o) ≡ status o
unfolding bench.answer_of
answer_status (Ok b) = refl
answer_status (Err r) = refl

-- The number that stands for an answer: 0 where the call did what it was asked, else the refusal's.
pub done_is_zero : (o : bench.Outcome) → Ok tt ≡ bench.answer_of o → 0 ≡ status o
done_is_zero o e = ap status e ∙ answer_status o

pub refusal_is_told : (o : bench.Outcome) (r : Refusal) → Err r ≡ bench.answer_of o → number_of r ≡ status o
refusal_is_told o r e = ap status e ∙ answer_status o

-- Opening, moving, saving and coming back: 0 exactly where a bench is left.
abbrev pub ZeroLeaves : bench.Outcome → Type 0
ZeroLeaves o = (status o ≡ 0) ↔ ((b : List ℕ) × (o ≡ Ok b))

pub zero_is_opened : (numbers b : List ℕ) → ZeroLeaves (bench.open_outcome numbers b)
zero_is_opened numbers b = zero_is_ok (bench.open_outcome numbers b)

pub zero_is_moved : (kind : ℕ) (up : Bool) (row : ℕ) (b : List ℕ) → ZeroLeaves (bench.move_outcome kind up row b)
zero_is_moved kind up row b = zero_is_ok (bench.move_outcome kind up row b)

pub zero_is_saved : (name : ℕ) (b : List ℕ) → ZeroLeaves (bench.save_outcome name b)
zero_is_saved name b = zero_is_ok (bench.save_outcome name b)

pub zero_is_back : (name : ℕ) (b : List ℕ) → ZeroLeaves (bench.back_outcome name b)
zero_is_back name b = zero_is_ok (bench.back_outcome name b)

-- Walking: 0 exactly where there is a walk.
abbrev pub ZeroWalks : Result Walked Refusal → Type 0
ZeroWalks a = (status a ≡ 0) ↔ ((w : Walked) × (a ≡ Ok w))

pub zero_is_walked : (b : List ℕ) → ZeroWalks (bench.walked_of b)
zero_is_walked b = zero_is_ok (bench.walked_of b)

-- Telling: 0 exactly where a chain is told.
abbrev pub ZeroTells : Result Told Refusal → Type 0
ZeroTells a = (status a ≡ 0) ↔ ((t : Told) × (a ≡ Ok t))

pub zero_is_told : (b places : List ℕ) → ZeroTells (bench.told_of b places)
zero_is_told b places = zero_is_ok (bench.told_of b places)
