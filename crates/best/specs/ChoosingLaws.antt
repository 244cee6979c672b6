-- Why choosing finds the word of the best chain.
--
-- In this order: the case that was met; the number 0; the least key tells the parts and the price of the best chain; what the calls
-- with the rows of keys in the scratch ask and give.
use Rattle.std.specs.Prelude as std
use Rattle.std.specs.Prelude.{◌≡◌, ℕ, ◌+◌, ◌*◌, ◌/◌, ◌%◌, ◌^◌, ◌<◌, ◌≤◌, min, true, T, List, length, slice_index, slice_index_or}
use Rattle.std.proofs.Math.Path.{refl, sym}
use Rattle.std.proofs.Common.{subst, ◌∙◌, arith}
use Rattle.std.proofs.Math.Option.{Option, none, some}
use borrow.Author.Tests.{le-leb, lt-leb}
use Rattle.lent.specs.Lent.{scratch_size}
use Rattle.chains.specs.Chains.{Part, ChainOf}
use Rattle.chains.specs.Words.{Word, origin, chain_of, reads}
use Rattle.chains.specs.Listing.{words_at}
use Rattle.chains.specs.Best.{Prices, price, Limits, best_chain}
use Rattle.chains.proofs.BestLaws.{first_of_zero}
use Rattle.chains.proofs.Weight.{weight, total_chain_of}
use Rattle.chains.proofs.Members.{member_words}
use Rattle.chains.proofs.RoundTrip.{word_chained}
use Rattle.chains.proofs.Bounds.{letters_bound, parts_bound}
use Rattle.chains.specs.Keys.{key, in_grid, best_at, key_or, least_on, least_key}
use Rattle.chains.proofs.Leasts.{FirstLeast, first_member}
use Rattle.chains.proofs.Bests.{best_found}
use Rattle.chains.proofs.BestOfAll.{costs_of, up_to, least_keyed, key_price, keyed_is_best}
use Rattle.chains.proofs.PriceLaws.{price_fits}
use Rattle.words.specs.Packed.{bits, rise, mark}
use Rattle.grid.specs.Grid.{rest_at}
use Rattle.grid.specs.Rests.{rest_origin}
use Rattle.grid.specs.Fill.{read_cell}
use Rattle.best.specs.declared.terms.Priced.{Priced}
use Rattle.best.specs.KeyTable.{part_weight, no_key, letter_costs, Low, Cheap, TermsOf, key_cell, free_key}
use Rattle.best.specs.KeyTableLaws.{prices_low, prices_costs}
use Rattle.best.specs.KeyRows.{KeysFilled}
use Rattle.best.specs.Walk.{best_from, best_word, KeyStart}
use Rattle.best.specs.WalkLaws.{best_chosen}
use Rattle.best.specs.Choosing.{WordChosen, ChosenBy}
use Rattle.best.specs.ChosenLaws.{zero_word}

-- By the case that was met.
module _ (n : ℕ) (lim : Limits) (π : Prices) (r : std.Option Priced) (h : ChosenBy n lim π r) where
  pub by_word : {w : Priced} → r ≡ std.Some w → WordChosen n lim π w.word.rises w.word.marks w.price
  by_word e = subst (ChosenBy n lim π) e h

  pub by_nothing : r ≡ std.None → best_chain n lim (price π) ≡ none
  by_nothing e = subst (ChosenBy n lim π) e h

-- ---- the number 0

pub zero_chosen : (n : ℕ) (lim : Limits) (π : Prices) → n ≡ 0 → WordChosen n lim π 0 0 0
unfolding price
zero_chosen n lim π e = zero_word (rw e (first_of_zero lim length (price π))) refl

-- ---- the least key

module _ {n : ℕ} (lim : Limits) (π : Prices) (fits : n < 2 ^ 64) (cheap : Cheap π) where
  abbrev best : Option Word
  best = best_at (costs_of part_weight π) lim.A lim.B true origin n

  abbrev least_of : ℕ
  least_of = least_key no_key (costs_of part_weight π) lim.A lim.B true origin n

  -- No price reaches what a part counts, so the word of least key is that of the best chain.
  all_fit : (c : List Part) → ChainOf n c → price π c < part_weight
  all_fit = price_fits n π fits cheap.d cheap.t cheap.s2 cheap.s3

  -- The best word is one of the list of n: a good word that stands for n.
  listed : (w : Word) → best ≡ some w → T (reads true w) × (weight w ≡ n)
  listed w e =
      let r : FirstLeast (in_grid lim.A lim.B origin) (key (costs_of part_weight π)) (words_at true n) w =
      rw e at (best_found (costs_of part_weight π) lim.A lim.B true origin n) in
      (member_words true n w).0 (first_member (in_grid lim.A lim.B origin) (key (costs_of part_weight π)) r)

  -- The least key tells the parts and the price of its chain.
  least_tells : (w : Word) → best ≡ some w
      → (least_of ≡ part_weight * length (chain_of w) + price π (chain_of w)) × (price π (chain_of w) < part_weight)
  unfolding least_on key_or
  least_tells w e =
      let m = listed w e in
      let c : ChainOf n (chain_of w) = record { chained = word_chained w; sums = total_chain_of w ∙ m.1 } in
      let p = all_fit (chain_of w) c in
      (rw e (omega (arith, key_price part_weight π w m.0, parts_bound n 64 (chain_of w) c fits)), p)

  none_within : lim.K < least_of / part_weight → best_chain n lim (price π) ≡ none
  unfolding least_keyed up_to
  none_within h = sym (keyed_is_best part_weight n lim π all_fit) ∙ go best refl
    where
      go : (o : Option Word) → best ≡ o → up_to lim.K o ≡ none
      go none e = refl
      go (some w) e = rw (lt-leb (length (chain_of w)) lim.K (omega (arith, least_tells w e)))

  word_within : (w : Word) → best ≡ some w → least_of / part_weight ≤ lim.K
      → WordChosen n lim π (bits rise w) (bits mark w) (least_of % part_weight)
  unfolding least_keyed up_to
  word_within w e h =
      let t = least_tells w e in
      let m = listed w e in
      record {
        word = w;
        rising = refl;
        marking = refl;
        good = m.0;
        few = letters_bound 64 w m.0 (omega arith);
        chain =
            sym (keyed_is_best part_weight n lim π all_fit) ∙ rw (e, le-leb (length (chain_of w)) lim.K (omega arith));
        told = omega arith;
      }

-- ---- with the rows in the scratch

-- What filling all rows asks.
pub fill_asked : {lim : Limits} {π : Prices} {costs : List ℕ} {A B : ℕ} (entry : List ℕ) → TermsOf (letter_costs π) lim π costs A B
    → scratch_size ≤ length entry → Low costs × (scratch_size ≤ length entry)
fill_asked {π = π} entry terms size = (rw terms.costs_are (prices_low π terms.cheap), size)

-- The rows of n, which is not 0, are filled over `entry`. The limit on parts is of 8 bits.
module _
    {n : ℕ} {lim : Limits} {π : Prices} {costs : List ℕ} {A B : ℕ} {entry l : List ℕ} (terms : TermsOf (letter_costs π) lim π costs A B)
    (fits : n < 2 ^ 64) (some_left : 1 ≤ n) (byte : lim.K < 2 ^ 8) (f : KeysFilled costs A B n 0 entry l)
  where
    abbrev least_here : ℕ
    least_here = least_key no_key (costs_of part_weight π) lim.A lim.B true origin n

    -- The number at 64 stands for the least key.
    cell : min no_key (slice_index l 64) ≡ key_cell costs A B 0 0 true n
    cell =
        let left : 1 ≤ rest_at n 0 0 = rw rest_origin some_left in
        let G = free_key costs A B in
        rw rest_origin at
        (read_cell 64 0 G (omega arith) 0 0 f.keys.rows (omega arith) (omega arith) (omega arith) left).cut

    least_is : min no_key (slice_index l 64) ≡ least_here
    least_is = cell ∙ rw (terms.costs_are, terms.doublings_are, terms.triplings_are, prices_costs)

    pub filled_none : lim.K < slice_index l 64 / part_weight → best_chain n lim (price π) ≡ none
    filled_none h = none_within lim π fits terms.cheap (omega (arith, least_is))

    module _ (h : slice_index_or l 64 0 / part_weight ≤ lim.K) where
      found : key_cell costs A B 0 0 true n < no_key
      found = omega (arith, cell)

      pub word_asked : KeyStart costs A B n l
      word_asked =
          record {
            turned = record {
              size = f.keys.rows.size;
              rests = f.keys.rows.rests;
              turns = λ r k. f.keys.turns r (omega arith) k;
            };
            some_left = some_left;
            found = found;
          }

      key_is : slice_index_or l 64 0 ≡ least_here
      key_is = omega (arith, least_is)

      pub filled_word : {rises marks : ℕ} → rises ≡ bits rise (best_word costs A B n) → marks ≡ bits mark (best_word costs A B n)
          → WordChosen n lim π rises marks (slice_index l 64 % part_weight)
      filled_word er em = rw (er, em, key_is) (go (best_word costs A B n) (best_chosen costs A B n found))
        where
          go : (w : Word) → best_from costs A B true 0 0 n ≡ some w
              → WordChosen n lim π (bits rise w) (bits mark w) (least_here % part_weight)
          go w e =
              word_within lim π fits terms.cheap w
              (rw (terms.costs_are, terms.doublings_are, terms.triplings_are, prices_costs) at e) (rw key_is at h)
