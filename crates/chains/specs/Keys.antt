-- Keys: costs of letters that add up, tests that a walk carries along, and the word of least key among those that pass a test.
-- Document 01, 'Services and memory', compares chains by parts, then price, then position; document 02, T-10, by price, then parts, then
-- position. Here the costs are any, so that what is proved of them serves each order of comparison that a sum of letters can tell. The
-- test is any that a letter changes by its state alone: the limits on a and b, that on the parts, and both together.
--
-- Definitions only, in this order: a word's key; a carried test; the cut grid; the parts; the least of a list; the best word from a
-- state on; the least key as a number. The laws of the least are in Leasts, those of a carried test in Carried, of the cut grid in Bests,
-- of the limit on parts in PartLimit; BestOfAll has the costs that make the best word that of the best or of the cheapest chain.
use Rattle.std.specs.Prelude.{◌≡◌, Bool, true, cond, ◌&&◌, List, [], ◌∷◌, ℕ, zero, suc, ◌+◌, ◌-◌, ◌%◌, min, T, leb, length}
use Rattle.std.proofs.Math.Option.{Option, none, some}
use Rattle.chains.specs.Chains.{Part}
use Rattle.chains.specs.Words.{Word, right, up, some_left}
use Rattle.chains.specs.Listing.{words_at, keep}

-- ---- the key of a word

-- What a letter that is not the last costs, and what the last point costs.
pub record Costs : Type 0 where
  pub letter : ℕ → ℕ
  pub last : ℕ

-- The sum of the costs.
unfoldable pub key : Costs → Word → ℕ
key κ [] = 0
key κ (l ∷ []) = κ.last
key κ (l ∷ x ∷ w) = κ.letter l + key κ (x ∷ w)

-- ---- a test that a walk carries along

-- A test on words with a state: what a letter makes of the state, and whether a word passes that starts there.
pub record Test : Type 1 where
  pub State : Type 0
  pub after : ℕ → State → State
  pub passes : State → Word → Bool

-- A walk carries it along: a letter before a word that is not empty changes the state, and nothing else.
pub record Carried (τ : Test) : Type 0 where
  pub by_letter : (s : τ.State) (l : ℕ) (w : Word) → T (some_left w) → τ.passes s (l ∷ w) ≡ τ.passes (τ.after l s) w

-- Two tests at once.
abbrev pub both : Test → Test → Test
both τ σ =
    record {
      State = τ.State × σ.State;
      after = λ l s. (τ.after l s.0, σ.after l s.1);
      passes = λ s w. τ.passes s.0 w && σ.passes s.1 w;
    }

-- ---- the cut grid

-- The point after p: a rises after the letters 0 and 1, b after 2 and 3.
unfoldable pub next : ℕ → Part → Part
next zero p = right p
next (suc zero) p = right p
next (suc (suc l)) p = up p

-- The point of the last letter of a word that starts at p.
unfoldable pub last_point : Part → Word → Part
last_point p [] = p
last_point p (l ∷ []) = p
last_point p (l ∷ x ∷ w) = last_point (next l p) (x ∷ w)

-- p is in the grid cut at A and B.
unfoldable pub inside : ℕ → ℕ → Part → Bool
inside A B p = leb p.a A && leb p.b B

-- A word that starts at p ends in the grid, and so stays there from its first point on. The empty word has no point.
unfoldable pub in_grid : ℕ → ℕ → Part → Word → Bool
in_grid A B p [] = true
in_grid A B p (l ∷ w) = inside A B (last_point p (l ∷ w))

-- The test of the limits A and B: its state is the point.
abbrev pub cut_at : ℕ → ℕ → Test
cut_at A B = record { State = Part; after = next; passes = in_grid A B }

-- ---- the parts

-- What a letter that is not the last counts: the letters 1 and 3 mark a part, and so does the last letter.
abbrev pub marking : Costs
marking = record { letter = λ l. l % 2; last = 1 }

-- How many parts a word marks.
abbrev pub parts : Word → ℕ
parts w = key marking w

-- The test of the limit on parts: its state is how many are still allowed.
abbrev pub few_parts : Test
few_parts = record { State = ℕ; after = λ l k. k - l % 2; passes = λ k w. leb (parts w) k }

-- All limits.
abbrev pub limited_by : ℕ → ℕ → Test
limited_by A B = both (cut_at A B) few_parts

-- ---- the least of a list

-- Of two words, if there are two, the one of smaller key; the first where the keys are equal.
unfoldable pub earlier : (Word → ℕ) → Option Word → Option Word → Option Word
earlier g none y = y
earlier g (some u) none = some u
earlier g (some u) (some v) = cond (leb (g u) (g v)) (some u) (some v)

-- The earliest of the words of least key.
unfoldable pub least : (Word → ℕ) → List Word → Option Word
least g [] = none
least g (w ∷ ws) = earlier g (some w) (least g ws)

-- ---- the best word from a state on

-- The words for the rest m that pass from a state on; the Bool is that of `words_at`.
unfoldable pub passing : (τ : Test) → τ.State → Bool → ℕ → List Word
passing τ s f m = keep (τ.passes s) (words_at f m)

-- How many words there are with at most k parts.
unfoldable pub ways_up_to : ℕ → Bool → ℕ → ℕ
ways_up_to k f m = length (passing few_parts k f m)

-- The best of the words that pass.
unfoldable pub best_on : (τ : Test) → Costs → τ.State → Bool → ℕ → Option Word
best_on τ κ s f m = least (key κ) (passing τ s f m)

-- The best word at the point p, in the grid cut at A and B.
abbrev pub best_at : Costs → ℕ → ℕ → Bool → Part → ℕ → Option Word
best_at κ A B f p m = best_on (cut_at A B) κ p f m

-- ---- the least key

-- The key of a word, if there is one; `big` stands for none and for every key above it.
unfoldable pub key_or : ℕ → Costs → Option Word → ℕ
key_or big κ none = big
key_or big κ (some w) = min big (key κ w)

-- The least key from a state on,
unfoldable pub least_on : (τ : Test) → ℕ → Costs → τ.State → Bool → ℕ → ℕ
least_on τ big κ s f m = key_or big κ (best_on τ κ s f m)

-- and at a point of the cut grid.
abbrev pub least_key : ℕ → Costs → ℕ → ℕ → Bool → Part → ℕ → ℕ
least_key big κ A B f p m = least_on (cut_at A B) big κ p f m
