-- How the answer of choosing comes out, case by case, for any chosen chain and any size of the memory that is lent.
--
-- In this order: what holds at each return of choosing; too little is lent; the empty word; the chain of the chosen word; no word; the
-- chosen word, with its chain in the places; what is told of a choice.
use Rattle.std.specs.Prelude as std
use Rattle.std.specs.Prelude.{◌≡◌, ℕ, ◌≤◌, true, List, [], map, length, refl, Result, Ok, Err}
use Rattle.std.proofs.Common.{sym, ap₂, ◌∙◌, arith, le-ltb}
use Rattle.std.proofs.Math.Path.{ap}
use Rattle.std.proofs.Math.Option.{Option, none, some}
use Rattle.chains.specs.Chains.{Part}
use Rattle.chains.specs.Words.{chain_from, chain_of, reads}
use Rattle.chains.specs.Best.{Measure}
use Rattle.lent.specs.Lent.{filled, OnlyFirst, fewer, too_few, Lends, memory_left}
use Rattle.lent.specs.LentLaws.{enough_zeroed, used_left}
use Rattle.parts.specs.Parts.{part_number}
use Rattle.words.specs.Packed.{bits, packed_chain, parts_left}
use Rattle.words.specs.PackedLaws.{packed_chain_lem}
use Rattle.refusals.specs.declared.Refusal.{Refusal}
use Rattle.refusals.specs.declared.Refusal.TheVariants.{LittleLent, NoChainFits}
use Rattle.ranking.specs.Services.{Outcome, gives, lent_of, places_left}
use Rattle.ranking.specs.RoundTrips.{lent_all}
use Rattle.best.specs.declared.Chosen.{Chosen}
use Rattle.best.specs.declared.terms.Priced.{Priced}
use Rattle.best.specs.Chosen.{or_none, chosen_of}
use Rattle.best.specs.Choosing.{WordOf, Finds, told_of, told_places}

-- ---- at a return of choosing

-- The answer r, the places p' and the memory s' are those of an outcome, where s and p were lent and `size` numbers are asked for.
abbrev pub Served : ℕ → Measure → Outcome → List ℕ → List ℕ → Result Chosen Refusal → List ℕ → List ℕ → Type 0
Served size cost o s p r p' s' =
    (r ≡ chosen_of cost (lent_of size s p o))
    × ((p' ≡ places_left (lent_of size s p o) p) × (s' ≡ memory_left size (too_few size 64 s p) s))

module _ (size : ℕ) (cost : Measure) (o : Outcome) (s p : List ℕ) where
  pub little : too_few size 64 s p ≡ true → Served size cost o s p (Err LittleLent) p s
  unfolding chosen_of lent_of places_left memory_left
  little e = rw e (refl, (refl, refl))

-- The empty chain costs nothing, and its word has no letters.
pub zero_word : {chosen : Option (List Part)} {cost : Measure} → chosen ≡ some [] → cost [] ≡ 0 → WordOf chosen cost 0 0 0
unfolding bits reads chain_of chain_from
zero_word e free =
    record { word = []; rising = refl; marking = refl; good = tt; few = omega arith; chain = e; told = sym free }

-- ---- the chain of the chosen word

module _ {chosen : Option (List Part)} {cost : Measure} {rises marks told : ℕ} (w : WordOf chosen cost rises marks told) where
  -- It is that of the two numbers,
  chain_is : packed_chain rises marks ≡ chain_of w.word
  chain_is = ap₂ packed_chain w.rising w.marking ∙ packed_chain_lem w.word w.good w.few

  -- and its part numbers are put in the places.
  stands : (p : List ℕ) → 64 ≤ length p → parts_left rises marks p ≡ filled 64 (map part_number (chain_of w.word)) p
  unfolding parts_left
  stands p room = rw (le-ltb (length p) 64 room) (ap (λ (c : List Part). filled 64 (map part_number c) p) chain_is)

-- The memory l was zeroed after choosing.
module _ {size : ℕ} (cost : Measure) (n : ℕ) (chosen : Option (List Part)) {s p : List ℕ} (h : Lends size 64 s p) {l : List ℕ}
    (u : OnlyFirst size s l) where
  -- ---- no word

  pub none_served : {s' : List ℕ} → chosen ≡ none → s' ≡ memory_left size (fewer size l) l
      → Served size cost (or_none n chosen) s p (Err NoChainFits) p s'
  unfolding or_none chosen_of places_left
  none_served e z =
      rw (lent_all s p (or_none n chosen) h, enough_zeroed 64 s p h, e) (refl, (refl, z ∙ used_left h.numbers u))

  -- ---- the chosen word

  module _ {rises marks told : ℕ} (w : WordOf chosen cost rises marks told) where
    given : or_none n chosen ≡ gives n (chain_of w.word)
    unfolding or_none
    given = rw w.chain

    pub word_served : {k : ℕ} {p' s' : List ℕ} → k ≡ length (packed_chain rises marks)
        → p' ≡ parts_left rises marks p
        → s' ≡ memory_left size (fewer size l) l
        → Served size cost (or_none n chosen) s p (Ok (record { k = k; price = told })) p' s'
    unfolding chosen_of places_left filled
    word_served ek ep es =
        rw (lent_all s p (or_none n chosen) h, given, enough_zeroed 64 s p h)
        (cc (ek, ap length (chain_is w), w.told), (ep ∙ stands w p h.room, es ∙ used_left h.numbers u))

-- ---- what is told of a choice

-- The memory was zeroed after choosing.
pub served : {size : ℕ} (cost : Measure) (n : ℕ) (chosen : Option (List Part)) {s p : List ℕ} → Lends size 64 s p
    → (choice : std.Option Priced) → Finds chosen cost choice
    → {r : Result Chosen Refusal} {p' s' : List ℕ} → r ≡ told_of choice → p' ≡ told_places choice p
    → s' ≡ filled size [] s → Served size cost (or_none n chosen) s p r p' s'
unfolding told_of told_places or_none chosen_of places_left filled memory_left
served cost n chosen {s} {p} h std.None e er ep es =
    rw (lent_all s p (or_none n chosen) h, enough_zeroed 64 s p h, e) (er, (ep, es))
served cost n chosen {s} {p} h (std.Some w) f er ep es =
    rw (lent_all s p (or_none n chosen) h, enough_zeroed 64 s p h, f.chain)
    (cc (er, ap length (chain_is f), f.told), (ep ∙ stands f p h.room, es))
