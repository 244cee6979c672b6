-- Why choosing finds the word of the cheapest chain, and counting the count of chains with at most K parts.
--
-- In this order: the case that was met; the number 0; the key of a word by the costs as the code has them; the least key tells the price of
-- the cheapest chain; what the calls with the table of keys in the memory ask and give; the count in a table of counts.
use Rattle.std.specs.Prelude as std
use Rattle.std.specs.Prelude.{◌≡◌, refl, ◌↔◌, Bool, true, ℕ, zero, suc, ◌+◌, ◌*◌, ◌/◌, ◌%◌, ◌^◌, ◌≤◌, ◌<◌, min, T, get_or}
use Rattle.std.proofs.Common.{sym, ap, subst, ◌∙◌}
use mathlib.Core.List.{List, [], ◌∷◌}
use Rattle.std.proofs.Math.Option.{Option, none, some, map}
use native.Mathlib.Omega.{arith}
use Rattle.std.proofs.Math.ListN.{length}
use Rattle.chains.specs.Chains.{Part, ChainOf}
use Rattle.chains.specs.Words.{Word, chain_of, reads}
use Rattle.chains.specs.Listing.{words_at}
use Rattle.chains.specs.Best.{Prices, price, Limits, Within, cheapest_chain, count_up_to}
use Rattle.chains.proofs.BestLaws.{same_limits, first_of_zero}
use Rattle.chains.proofs.Weight.{weight}
use Rattle.chains.proofs.Members.{member_words}
use Rattle.chains.proofs.Bounds.{letters_bound, parts_bound}
use Rattle.chains.proofs.Marks.{point, taken}
use Rattle.chains.specs.Keys.{key, parts, limited_by, ways_up_to, key_or, least_on}
use Rattle.chains.proofs.Leasts.{FirstLeast, first_member}
use Rattle.chains.proofs.Carried.{best_on_found}
use Rattle.chains.proofs.PartLimit.{parts_chain, limited_carried, count_up_to_ways, count_up_to_64, count_up_to_zero}
use Rattle.chains.proofs.BestOfAll.{letter_cost, costs_of, price_weight, key_price, listed_chain, keyed_is_cheapest}
use Rattle.chains.proofs.PriceLaws.{price_fits}
use Rattle.words.specs.Packed.{bits, rise, mark}
use Rattle.grid.specs.Rests.{rest_origin}
use Rattle.best.specs.declared.terms.Priced.{Priced}
use Rattle.best.specs.ChosenLaws.{zero_word}
use Rattle.best.specs.KeyTable.{no_key, letter_by, costs_by, Low, Cheap, TermsOf}
use Rattle.best.specs.KeyTableLaws.{five_low}
use Rattle.limited.specs.Services.{table_size}
use Rattle.limited.specs.Table.{start, TableFilled}
use Rattle.limited.specs.TableLaws.{read_free}
use Rattle.limited.specs.Cells.{cheap_list, counts, key_in}
use Rattle.limited.specs.KeyLaws.{key_at_most}
use Rattle.limited.specs.Walk.{cheap_from, Keyed, WalkStart, Spelled}
use Rattle.limited.specs.WalkLaws.{first_key}
use Rattle.limited.specs.Choosing.{WordChosen, ChosenBy}

-- By the case that was met.
module _ (n : ℕ) (lim : Limits) (π : Prices) (r : std.Option Priced) (h : ChosenBy n lim π r) where
  pub by_word : {w : Priced} → r ≡ std.Some w → WordChosen n lim π w.word.rises w.word.marks w.price
  by_word e = subst (ChosenBy n lim π) e h

  pub by_nothing : r ≡ std.None → cheapest_chain n lim (price π) ≡ none
  by_nothing e = subst (ChosenBy n lim π) e h

-- ---- the number 0

pub zero_chosen : (n : ℕ) (lim : Limits) (π : Prices) → n ≡ 0 → WordChosen n lim π 0 0 0
unfolding price
zero_chosen n lim π e = zero_word (rw e (first_of_zero lim (price π) length)) refl

-- ---- the key of a word

pub costs_low : (π : Prices) → Cheap π → Low (cheap_list π)
costs_low π c = five_low _ _ _ _ _ (omega arith, omega arith, omega arith, omega arith, omega arith)

-- A letter costs 128 times its price, and one for a part.
letter_cost_lem : (π : Prices) (l : ℕ) → l ≤ 3 → letter_by (cheap_list π) l ≡ price_weight * letter_cost 0 π l + l % 2
unfolding letter_by letter_cost
letter_cost_lem π zero h = omega arith
letter_cost_lem π (suc zero) h = omega arith
letter_cost_lem π (suc (suc zero)) h = omega arith
letter_cost_lem π (suc (suc (suc zero))) h = omega arith
letter_cost_lem π (suc (suc (suc (suc l)))) h = absurd (omega arith)

key_cheap : (π : Prices) (f : Bool) (w : Word) → T (reads f w)
    → key (costs_by (cheap_list π)) w ≡ price_weight * key (costs_of 0 π) w + parts w
unfolding key costs_of
key_cheap π f [] h = refl
key_cheap π f (l ∷ []) h = refl
key_cheap π f (l ∷ x ∷ w) h =
    let (low, g, r) = taken f l (x ∷ w) h in omega (arith, letter_cost_lem π l low, key_cheap π g (x ∷ w) r)

pub cheap_key : (π : Prices) (w : Word) → T (reads true w)
    → key (costs_by (cheap_list π)) w ≡ price_weight * price π (chain_of w) + length (chain_of w)
cheap_key π w h = omega (arith, key_cheap π true w h, key_price 0 π w h, parts_chain w h)

-- ---- the least key

module _ {n : ℕ} (lim : Limits) (π : Prices) (fits : n < 2 ^ 64) where
  abbrev most : ℕ
  most = min lim.K 64

  abbrev found : Option Word
  found = cheap_from (cheap_list π) lim.A lim.B true 0 0 most n

  -- A limit on parts above 64 excludes nothing.
  limits_64 : cheapest_chain n (record { K = most; A = lim.A; B = lim.B }) (price π) ≡ cheapest_chain n lim (price π)
  unfolding Within
  limits_64 = same_limits n (record { K = most; A = lim.A; B = lim.B }) lim (price π) length same
    where
      same : (c : List Part) → ChainOf n c → Within (record { K = most; A = lim.A; B = lim.B }) c ↔ Within lim c
      same [] h = (λ _. tt, λ _. tt)
      same (p ∷ c) h =
          let l = parts_bound n 64 (p ∷ c) h fits in (λ w. (omega arith, w.1, w.2), λ w. (omega arith, w.1, w.2))

  chosen_is : map chain_of found ≡ cheapest_chain n lim (price π)
  chosen_is =
      keyed_is_cheapest n (record { K = most; A = lim.A; B = lim.B }) π (costs_by (cheap_list π)) fits (cheap_key π) ∙ limits_64

  module _ (cheap : Cheap π) (w : Word) (e : found ≡ some w) where
    listed : T (reads true w) × (weight w ≡ n)
    listed =
        let test = (limited_by lim.A lim.B).passes (point 0 0, most) in
        let r : FirstLeast test (key (costs_by (cheap_list π))) (words_at true n) w =
        rw e at (best_on_found (limited_carried lim.A lim.B) (costs_by (cheap_list π)) (point 0 0, most) true n) in
        (member_words true n w).0 (first_member test (key (costs_by (cheap_list π))) r)

    chain_of_lem : ChainOf n (chain_of w)
    chain_of_lem = (listed_chain n w ((member_words true n w).1 listed)).1

    -- The least key tells the price of its chain.
    least_tells : (key_in (cheap_list π) lim.A lim.B 0 0 n true most < no_key)
        × (key_in (cheap_list π) lim.A lim.B 0 0 n true most / price_weight ≡ price π (chain_of w))
    unfolding least_on key_or
    least_tells =
        let p = price_fits n π fits cheap.d cheap.t cheap.s2 cheap.s3 (chain_of w) chain_of_lem in
        let k = cheap_key π w listed.0 in
        let l = parts_bound n 64 (chain_of w) chain_of_lem fits in
        rw e (omega arith, omega arith)

    word_within : WordChosen n lim π (bits rise w) (bits mark w) (key_in (cheap_list π) lim.A lim.B 0 0 n true most / price_weight)
    word_within =
        record {
          word = w;
          rising = refl;
          marking = refl;
          good = listed.0;
          few = letters_bound 64 w listed.0 (omega (arith, listed.1));
          chain = sym chosen_is ∙ rw e;
          told = least_tells.1;
        }

  none_within : Cheap π → key_in (cheap_list π) lim.A lim.B 0 0 n true most ≡ no_key → cheapest_chain n lim (price π) ≡ none
  none_within cheap h = sym chosen_is ∙ go found refl
    where
      go : (o : Option Word) → found ≡ o → map chain_of o ≡ none
      go none e = refl
      go (some w) e = absurd (omega (arith, least_tells cheap w e))

-- ---- with the table in the memory

-- What filling the table asks.
pub fill_asked : {lim : Limits} {π : Prices} {costs : List ℕ} {A B most : ℕ} (entry : List ℕ) → TermsOf (cheap_list π) lim π costs A B
    → most ≡ min lim.K 64 → table_size ≤ length entry → (table_size ≤ length entry) × (most < 65) × Low costs
fill_asked {π = π} entry terms most_is size = (size, omega arith, rw terms.costs_are (costs_low π terms.cheap))

-- The table of n, which is not 0, is filled with keys over `entry`.
module _
    {n : ℕ} {lim : Limits} {π : Prices} {costs : List ℕ} {A B most : ℕ} {entry l : List ℕ} (terms : TermsOf (cheap_list π) lim π costs A B)
    (fits : n < 2 ^ 64) (some_left : 1 ≤ n) (most_is : most ≡ min lim.K 64) (size : table_size ≤ length entry)
    (f : TableFilled (key_in costs A B) n (suc most) 0 entry l)
  where
    pub keyed : Keyed costs A B most n l
    keyed =
        let a = fill_asked entry terms most_is size in
        record { small = fits; size = omega (arith, f.used.same); few = a.1; low = a.2; table = f.rows }

    pub within : most < length l
    within = omega (arith, keyed.size, keyed.few)

    key_is : get_or l most 0 ≡ key_in costs A B 0 0 n true most
    key_is = first_key keyed some_left

    pub filled_none : no_key ≤ get_or l most 0 → cheapest_chain n lim (price π) ≡ none
    filled_none h =
        let none : key_in costs A B 0 0 n true most ≡ no_key = omega (arith, key_is, key_at_most costs A B 0 0 n true most) in
        none_within lim π fits terms.cheap (rw (terms.costs_are, terms.doublings_are, terms.triplings_are, most_is) at none)

    module _ (h : get_or l most 0 < no_key) where
      pub word_asked : WalkStart costs A B most n
      word_asked = record { some_left = some_left; found = omega (arith, key_is) }

      pub filled_word : {rises marks : ℕ} → Spelled costs A B most n rises marks
          → WordChosen n lim π rises marks (get_or l most 0 / price_weight)
      filled_word s =
          rw (s.rising, s.marking, key_is, terms.costs_are, terms.doublings_are, terms.triplings_are, most_is)
          (word_within lim π fits terms.cheap s.word
          (rw (terms.costs_are, terms.doublings_are, terms.triplings_are, most_is) at s.found))

-- ---- the count

-- Where only counts are filled, the costs are 0.
pub none_low : Low (0 ∷ 0 ∷ 0 ∷ 0 ∷ 0 ∷ [])
none_low = five_low 0 0 0 0 0 (omega arith, omega arith, omega arith, omega arith, omega arith)

pub count_zero : (K n : ℕ) → n ≡ 0 → 1 ≡ count_up_to K n
count_zero K n e = rw e (sym (count_up_to_zero K))

pub count_in_lem : (K : ℕ) {n most : ℕ} {entry l : List ℕ} → n < 2 ^ 64 → 1 ≤ n → most ≡ min K 64
    → TableFilled counts n (suc most) 0 entry l → get_or l most 0 ≡ count_up_to K n
unfolding start
count_in_lem K {n} {most} {entry} {l} fits left e f =
    ap (λ (i : ℕ). get_or l i 0) {x = most} {y = 0 + most} (omega arith)
    ∙ read_free f.rows 0 0 most (omega arith) (omega arith) (rw rest_origin left) (omega arith)
    ∙ ap (λ (x : ℕ). ways_up_to most true x) (rest_origin n)
    ∙ sym (count_up_to_ways most n)
    ∙ rw e (count_up_to_64 K n fits)
