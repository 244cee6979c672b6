-- The cases of what a position and a word at a position answer (Ranked).
use Rattle.std.specs.Prelude.{Option, Some, None, Result, Ok, Err}
use Rattle.std.specs.Prelude.{◌≡◌, ℕ, ◌+◌, ◌^◌, ◌<◌, ◌≤◌, List, length}
use Rattle.std.proofs.Common.{ap, ◌∙◌, arith, le-leb}
use mathlib.Core.List.{Memᴰ}
use Rattle.std.proofs.lemmas.Bool.{lt-leb}
use Rattle.chains.specs.Words.{Word}
use Rattle.chains.specs.Listing.{list_of, count, count_before}
use Rattle.chains.proofs.Counts.{count_fits}
use Rattle.chains.proofs.Positions.{word_at_position}
use Rattle.lent.specs.Lent.{scratch_size}
use Rattle.lent.specs.LentLaws.{scratch_little, scratch_enough}
use Rattle.refusals.specs.declared.Refusal.{Refusal}
use Rattle.refusals.specs.declared.Refusal.TheVariants.{LittleLent}
use Rattle.words.specs.Packed.{bits, rise, mark}
use Rattle.counting.specs.Forward.{word_at}
use Rattle.counting.specs.declared.Listed.{Listed}
use Rattle.counting.specs.Ranked.{position_at, PositionTold, listed_at, lent_list, NextTold}

module _ (scratch : List ℕ) where
  module _ (h : scratch_size ≤ length scratch) where
    pub position_served : (i : ℕ) → position_at scratch i ≡ Ok i
    unfolding position_at
    position_served i = rw (scratch_enough scratch h)

    pub list_served : (r : Option Listed) → lent_list scratch r ≡ Ok r
    unfolding lent_list
    list_served r = rw (scratch_enough scratch h)

  module _ (h : length scratch < scratch_size) where
    pub position_refused : (i : ℕ) → position_at scratch i ≡ Err LittleLent
    unfolding position_at
    position_refused i = rw (scratch_little scratch h)

    pub list_refused : (r : Option Listed) → lent_list scratch r ≡ Err LittleLent
    unfolding lent_list
    list_refused r = rw (scratch_little scratch h)

-- For a word of the list the position is its own, and the next one is one on.
module _ {n rises : ℕ} {scratch : List ℕ} (h : scratch_size ≤ length scratch) (w : Word) (m : Memᴰ w (list_of n)) (e : rises ≡ bits rise w) where
  pub told_before : {r : Result ℕ Refusal} → PositionTold n rises scratch r → r ≡ Ok (count_before w (list_of n))
  told_before t = t.answer ∙ position_served scratch h t.position ∙ ap Ok (t.exact h w m e)

  pub told_after : {r : Result (Option Listed) Refusal} → NextTold n rises scratch r → r ≡ Ok (listed_at n (count_before w (list_of n) + 1))
  told_after t = t.answer ∙ list_served scratch h (listed_at n t.position) ∙ ap (λ i. Ok (listed_at n i)) (t.exact h w m e)

module _ (n i : ℕ) where
  pub listed_past : count n ≤ i → listed_at n i ≡ None
  unfolding listed_at
  listed_past h = rw (le-leb (count n) i h)

  pub listed_there : i < count n → listed_at n i ≡ Some (record { position = i; rises = bits rise (word_at n i); marks = bits mark (word_at n i) })
  unfolding listed_at
  listed_there h = rw (lt-leb (count n) i h)

-- There is room for the position after a word's.
pub next_fits : (n : ℕ) (w : Word) → n < 2 ^ 64 → Memᴰ w (list_of n) → count_before w (list_of n) + 1 < 2 ^ 64
next_fits n w f i = omega (arith, (word_at_position n w i).0, count_fits n f)
