-- Choosing and then placing tell what the best chain tells: document 02, T-09.
--
-- In this order: the two answers put together; that they are the best chain's answer (`choose_then_place`); how `best_chain` comes to
-- its answer by calling both.
use Rattle.std.specs.Prelude.{◌≡◌, ℕ, ◌^◌, ◌<◌, ◌≤◌, List, [], map, length, take, Result, Ok, Err}
use Rattle.std.proofs.Math.Path.{refl, sym, ap}
use Rattle.std.proofs.Common.{◌∙◌, arith}
use Rattle.std.proofs.Math.ListN.{length-map}
use Rattle.chains.specs.Chains.{Part, ChainOf}
use Rattle.chains.specs.Best.{Prices, price, Limits}
use Rattle.chains.proofs.Bounds.{parts_bound}
use Rattle.lent.specs.Lent.{OnlyFirst, scratch_size, little_scratch, scratch_left, too_little, Enough}
use Rattle.lent.specs.LentLaws.{length_filled, used_filled, used_left, enough_zeroed}
use Rattle.parts.specs.Parts.{part_number}
use Rattle.refusals.specs.declared.Refusal.{Refusal}
use Rattle.ranking.specs.Services.{Outcome, refused, gives, lent, lent_scratch, places_left, of_record, position_of}
use Rattle.ranking.specs.Outcomes.{record_chain}
use Rattle.ranking.specs.RoundTrips.{lent_gives, lent_scratch_lem, numbers_left_lem}
use Rattle.best.specs.declared.Chosen.{Chosen}
use Rattle.best.specs.declared.Best.{Best}
use Rattle.best.specs.Chosen.{best_outcome, chosen_of, best_of}
use Rattle.best.specs.Demand3.{given_best}

-- ---- the two answers

-- What is handed to placing: the part numbers that choosing left in the places, as many as it told.
unfoldable pub chosen_numbers : Result Chosen Refusal → List ℕ → List ℕ
chosen_numbers (Ok told) places = take told.k places
chosen_numbers (Err r) places = []

-- The two answers put together. What either refuses is refused.
unfoldable pub together : Result Chosen Refusal → Result ℕ Refusal → Result Best Refusal
together (Ok told) (Ok i) = Ok (record { position = i; k = told.k; price = told.price })
together (Ok told) (Err r) = Err r
together (Err r) x = Err r

-- ---- choosing, then placing

module _ (n : ℕ) (lim : Limits) (π : Prices) (fits : n < 2 ^ 64) where
  -- What choosing and the best chain are asked for, where s and p are lent.
  abbrev asked : List ℕ → List ℕ → Outcome
  asked s p = lent s p (best_outcome n lim (price π))

  given_chain : (s p : List ℕ) (m : ℕ) (c : List Part) → asked s p ≡ gives m c → Enough 64 s p × ChainOf m c × (m < 2 ^ 64)
  given_chain s p m c e =
      let (enough, own) = lent_gives s p (best_outcome n lim (price π)) m c e in
      let (same, best) = given_best n lim π m c own in
      (enough, rw same best.chain, omega arith)

  -- Choosing is lent s and p, and placing t.
  pub choose_then_place : (s p t : List ℕ) → scratch_size ≤ length t
      → together (chosen_of (price π) (asked s p))
      (position_of (lent_scratch t (of_record (chosen_numbers (chosen_of (price π) (asked s p)) (places_left (asked s p) p)))))
      ≡ best_of (price π) (asked s p)
  unfolding together chosen_numbers chosen_of best_of position_of
  choose_then_place s p t h = go (asked s p) refl
    where
      go : (o : Outcome) → asked s p ≡ o
          → together (chosen_of (price π) o)
          (position_of (lent_scratch t (of_record (chosen_numbers (chosen_of (price π) o) (places_left o p)))))
          ≡ best_of (price π) o
      go (refused r) e = refl
      go (gives m c) e =
          let (enough, chain, low) = given_chain s p m c e in
          rw (numbers_left_lem m c p, lent_scratch_lem t (of_record (map part_number c)) h, record_chain m c chain low)

  -- ---- as `best_chain` calls both

  -- s and p were lent. Choosing answered x, and left p' and s'.
  module _
      (s p : List ℕ) {p' s' : List ℕ} {x : Result Chosen Refusal} (answer : x ≡ chosen_of (price π) (asked s p))
      (places : p' ≡ places_left (asked s p) p) (left : s' ≡ scratch_left (too_little 64 s p) s)
    where
      -- It refused.
      pub refused_told : {r : Refusal} → x ≡ Err r → Err r ≡ best_of (price π) (asked s p)
      unfolding chosen_of best_of
      refused_told {r} e = go (asked s p) (sym e ∙ answer)
        where
          go : (o : Outcome) → Err r ≡ chosen_of (price π) o → Err r ≡ best_of (price π) o
          go (refused q) f = cc
          go (gives m c) f = let z : ◌≡◌ {A = ℕ} 0 1 = cc in absurd (omega arith)

      -- It gave a chain: enough was lent, and the part numbers stand in the places.
      module _ {told : Chosen} (e : x ≡ Ok told) where
        chain_left : Enough 64 s p × (told.k ≤ length p')
        unfolding chosen_of places_left
        chain_left = go (asked s p) refl
          where
            go : (o : Outcome) → asked s p ≡ o → Enough 64 s p × (told.k ≤ length p')
            go (refused r) f = let z : ◌≡◌ {A = ℕ} 0 1 = cc (e, rw f at answer) in absurd (omega arith)
            go (gives m c) f =
                let (enough, chain, low) = given_chain s p m c f in
                let few = parts_bound m 64 c chain low in
                let own : told ≡ record { k = length c; price = price π c } = cc (e, rw f at answer) in
                let same = length_filled 64 (map part_number c) p (omega (arith, length-map c part_number)) enough.room in
                (enough, rw own (omega (arith, same, enough.room, ap length (rw f at places))))

        pub numbers_stand : told.k ≤ length p'
        numbers_stand = chain_left.1

        -- Then placing answered y, and left s''.
        pub placed_told : {y : Result ℕ Refusal} {s'' : List ℕ} → y ≡ position_of (lent_scratch s' (of_record (take told.k p')))
            → s'' ≡ scratch_left (little_scratch s') s'
            → (together (Ok told) y ≡ best_of (price π) (asked s p))
            × ((p' ≡ places_left (asked s p) p) × (s'' ≡ scratch_left (too_little 64 s p) s))
        unfolding chosen_numbers
        placed_told ey es =
            let h = chain_left.0 in
            let zeroed = enough_zeroed 64 s p h in
            let u : OnlyFirst scratch_size s s' = rw (left, zeroed) (used_filled scratch_size s h.numbers) in
            let both :
            together (Ok told) (position_of (lent_scratch s' (of_record (take told.k p')))) ≡ best_of (price π) (asked s p) =
            rw (← answer, e, ← places) at (choose_then_place s p s' (omega (arith, u.same, h.numbers))) in
            (rw ey both, (places, es ∙ used_left h.numbers u ∙ sym zeroed))
