-- The best chain over all chains of n, and the cheapest, are those of the best words: document 01, 'Services and memory'; document 02,
-- T-10; demand 3.
--
-- First the definitions: the costs of letters for the four prices, where a part counts M, and the chain that they choose
-- (`least_keyed`); what the price counts in the key of the cheapest word. Then: the key of a word is M for each part of its chain, and
-- the chain's price (`key_price`); the limits on a word; the first word of least key has the earliest position, so that its chain is the
-- first of all by two measures, if the key is made of them (`first_ahead`). Last the theorems of record: where no price reaches M, the
-- chain of least key is the best chain (`keyed_is_best`); where a key is 128 times the price and the parts, the chain of least key within
-- all limits is the cheapest (`keyed_is_cheapest`).
--
-- The best word is defined in Keys and found in Carried; price, limits, the best chain and the cheapest are defined in Best.
use Rattle.std.specs.Prelude.{◌≡◌, ◌↔◌, ◌≢◌, ◌⊎◌, Bool, cond, T, leb, get_or}
use Rattle.std.proofs.Math.Path.{refl, ap}
use Rattle.std.proofs.Common.{sym, ◌∙◌, mul-suc, mul-le-mul_left, leb→le, le→leb, length-append, leb-true, leb-false}
use Rattle.std.proofs.Math.Logic.{inl, inr}
use Rattle.std.proofs.Math.Bool.{true, false}
use mathlib.Core.List.{List, [], ◌∷◌, Memᴰ}
use Rattle.std.proofs.Math.Option.{Option, none, some, map}
use Prim.Native.Nat.{ℕ, zero, suc, ◌+◌, ◌*◌, ◌^◌, ◌≤◌, ◌<◌}
use Rattle.std.proofs.Math.Decide.{dec_lt}
use native.Mathlib.Omega.{arith}
use Rattle.std.proofs.Math.ListN.{length, get_or-append}
use Rattle.std.proofs.Math.Seq.{get_or-append_seam}
use Rattle.std.proofs.Math.Facts.{and_yes, yes_and}
use Rattle.chains.specs.Chains.{Part, ChainOf}
use Rattle.chains.specs.Words.{Word, origin, word_of, right, up, chain_from, chain_of, some_left, reads}
use Rattle.chains.specs.Listing.{words_at, list_of, count_before, position}
use Rattle.chains.specs.Best.{Prices, additions, price, Limits, Within, Measure, Ahead, best_chain, cheapest_chain}
use Rattle.chains.proofs.BestLaws.{Answers, is_first, no_less}
use Rattle.chains.proofs.Weight.{total_chain_of}
use Rattle.chains.proofs.Bounds.{parts_bound}
use Rattle.chains.proofs.Members.{member_words, get_or_member}
use Rattle.chains.proofs.Listed.{chain_listed}
use Rattle.chains.proofs.Positions.{words_position, words_at_position}
use Rattle.chains.proofs.RoundTrip.{chain_word_chain, word_reads, word_chained, word_chain_word}
use Rattle.chains.proofs.PriceLaws.{no_addition, addition_2, addition_3, last_point_lem, some_3}
use Rattle.chains.specs.Keys.{Costs, key, next, last_point, in_grid, parts, limited_by, best_on, best_at}
use Rattle.chains.proofs.Leasts.{FirstLeast, Found, first_member, first_no_less}
use Rattle.chains.proofs.Carried.{best_on_found}
use Rattle.chains.proofs.Bests.{inside_bounds, best_found}
use Rattle.chains.proofs.PartLimit.{parts_chain, limited_carried}

-- ---- the chain that the costs choose

-- What a letter costs that is not the last: M and s2 or s3 for a part, d for a rise of a, t for a rise of b.
unfoldable pub letter_cost : ℕ → Prices → ℕ → ℕ
letter_cost M π zero = π.d
letter_cost M π (suc zero) = M + π.s2 + π.d
letter_cost M π (suc (suc zero)) = π.t
letter_cost M π (suc (suc (suc zero))) = M + π.s3 + π.t
letter_cost M π (suc (suc (suc (suc l)))) = 0

-- The last point is a part, with no addition after it.
unfoldable pub costs_of : ℕ → Prices → Costs
costs_of M π = record { letter = letter_cost M π; last = M }

-- The chain of a word, if it has at most K parts.
unfoldable pub up_to : ℕ → Option Word → Option (List Part)
up_to K none = none
up_to K (some w) = cond (leb (length (chain_of w)) K) (some (chain_of w)) none

-- The chain of the best word from (0, 0) on: A and B cut the grid, and K is looked at once, at the end.
unfoldable pub least_keyed : ℕ → ℕ → Limits → Prices → Option (List Part)
least_keyed M n lim π = up_to lim.K (best_at (costs_of M π) lim.A lim.B true origin n)

-- What a unit of the price counts in the key of the cheapest word, where a part counts 1.
abbrev pub price_weight : ℕ
price_weight = 128

-- ---- the key and the end of a word

module _ (M : ℕ) (π : Prices) where
  -- What the walk to p costs with k parts met before it, without their additions.
  paid : Part → ℕ → ℕ
  paid p k = M * k + (π.d * p.a + π.t * p.b)

  paid_right : (p : Part) (k : ℕ) → paid (right p) k ≡ π.d + paid p k
  unfolding paid right
  paid_right p k = rw (mul-suc π.d p.a) (omega arith)

  paid_up : (p : Part) (k : ℕ) → paid (up p) k ≡ π.t + paid p k
  unfolding paid up
  paid_up p k = rw (mul-suc π.t p.b) (omega arith)

  paid_part : (p : Part) (k : ℕ) → paid p (suc k) ≡ M + paid p k
  unfolding paid
  paid_part p k = rw (mul-suc M k) (omega arith)

  -- The letters w lead from p to the largest part. Their key is what the walk there adds, with their additions.
  record Walked (p : Part) (met : List Part) (w : Word) : Type 0 where
    below : List Part
    chain : chain_from p met w ≡ last_point p w ∷ below
    costs : key (costs_of M π) w + paid p (length met) ≡ M + paid (last_point p w) (length below) + additions π w

  further :
      (p : Part) (met met' : List Part) (l x : ℕ) (w : Word)
      → chain_from p met (l ∷ x ∷ w) ≡ chain_from (next l p) met' (x ∷ w)
      → letter_cost M π l + paid p (length met) + additions π (x ∷ w) ≡ paid (next l p) (length met') + additions π (l ∷ x ∷ w)
      → Walked (next l p) met' (x ∷ w)
      → Walked p met (l ∷ x ∷ w)
  unfolding last_point key costs_of
  further p met met' l x w e c r = record { below = r.below; chain = e ∙ r.chain; costs = omega (arith, r.costs) }

  walked : (f : Bool) (p : Part) (met : List Part) (w : Word) → T (reads f w) → T (some_left w) → Walked p met w
  unfolding reads some_left chain_from last_point key costs_of letter_cost next
  walked f p met [] h s = absurd s
  walked f p met (zero ∷ []) h s = absurd h
  walked f p met (zero ∷ x ∷ w) h s =
      further p met met 0 x w refl
      (omega (arith, paid_right p (length met), no_addition π 0 (x ∷ w) refl refl))
      (walked false (right p) met (x ∷ w) h tt)
  walked f p met (suc zero ∷ []) h s = absurd h
  walked f p met (suc zero ∷ x ∷ w) h s =
      further p met (p ∷ met) 1 x w refl
      (omega (arith, paid_right p (suc (length met)), paid_part p (length met), addition_2 π (x ∷ w)))
      (walked false (right p) (p ∷ met) (x ∷ w) h tt)
  walked f p met (suc (suc zero) ∷ []) h s = absurd (and_yes f false h).1
  walked f p met (suc (suc zero) ∷ x ∷ w) h s =
      further p met met 2 x w refl
      (omega (arith, paid_up p (length met), no_addition π 2 (x ∷ w) refl refl))
      (walked true (up p) met (x ∷ w) (and_yes f (reads true (x ∷ w)) h).1 tt)
  walked f p met (suc (suc (suc zero)) ∷ []) h s =
      record { below = met; chain = refl; costs = omega (arith, last_point_lem π) }
  walked f p met (suc (suc (suc zero)) ∷ x ∷ w) h s =
      further p met (p ∷ met) 3 x w refl
      (omega (arith, paid_up p (suc (length met)), paid_part p (length met), addition_3 π (x ∷ w) (some_3 (x ∷ w) true h tt)))
      (walked true (up p) (p ∷ met) (x ∷ w) h tt)
  walked f p met (suc (suc (suc (suc l))) ∷ w) h s = absurd h

  -- The key of a word: M for each part of its chain, and the chain's price.
  pub key_price : (w : Word) → T (reads true w) → key (costs_of M π) w ≡ M * length (chain_of w) + price π (chain_of w)
  unfolding key price chain_of chain_from some_left paid
  key_price [] h = omega arith
  key_price (l ∷ w) h =
      let r = walked true origin [] (l ∷ w) h tt in
      let same : additions π (word_of (chain_of (l ∷ w))) ≡ additions π (l ∷ w) = ap (additions π) (word_chain_word (l ∷ w) h) in
      rw r.chain (rw (mul-suc M (length r.below)) (omega (arith, r.costs, rw r.chain at same)))

-- The chain of a word is within the limits if it has at most K parts and the word ends in the grid.
pub within_word :
    (lim : Limits) (w : Word)
    → T (reads true w)
    → Within lim (chain_of w) ↔ ((length (chain_of w) ≤ lim.K) × T (in_grid lim.A lim.B origin w))
unfolding Within chain_of chain_from in_grid some_left
within_word lim [] h = (λ _. (omega arith, tt), λ _. tt)
within_word lim (l ∷ w) h =
    let r = walked 0 (record { d = 0; t = 0; s2 = 0; s3 = 0 }) true origin [] (l ∷ w) h tt in
    let i = inside_bounds lim.A lim.B (last_point origin (l ∷ w)) in
    rw r.chain (λ b. (b.0, i.1 (b.1, b.2)), λ b. (b.0, (i.0 b.1).0, (i.0 b.1).1))

-- ---- positions

-- The first word of least key stands before every other word of that key.
first_position :
    (t : Word → Bool) (g : Word → ℕ) (n : ℕ) (w v : Word)
    → FirstLeast t g (words_at true n) w
    → Memᴰ v (words_at true n)
    → T (t v)
    → g v ≤ g w
    → v ≢ w
    → count_before w (words_at true n) < count_before v (words_at true n)
first_position t g n w v r m p k d = go (dec_lt i j) (dec_lt j i)
  where
    i : ℕ
    i = length r.front

    j : ℕ
    j = count_before v (words_at true n)

    at_i : get_or (words_at true n) i [] ≡ w
    at_i = ap (λ (l : List Word). get_or l i []) r.split ∙ get_or-append_seam r.front w r.back []

    i_is : count_before w (words_at true n) ≡ i
    i_is = rw at_i at (words_position true n i (rw (r.split, length-append) (omega arith)))

    at_j : get_or (words_at true n) j [] ≡ v
    at_j = (words_at_position true n v m).1

    go : Dec (i < j) → Dec (j < i) → count_before w (words_at true n) < j
    go (yes h) o = omega (arith, i_is)
    go (no h) (yes o) =
        let e : get_or r.front j [] ≡ v =
        sym (get_or-append r.front (w ∷ r.back) [] j o) ∙ sym (ap (λ (l : List Word). get_or l j []) r.split) ∙ at_j in
        absurd (omega (arith, r.above v (rw e at (get_or_member r.front j o)) p))
    go (no h) (no o) =
        let e : j ≡ i = omega arith in
        absurd (d (sym at_j ∙ ap (λ (l : ℕ). get_or (words_at true n) l []) e ∙ at_i))

-- ---- the first chain

-- Two numbers of two digits each in base M.
by_digits : (M k k' x x' : ℕ) → x < M → x' < M → M * k + x ≤ M * k' + x' → (k < k') ⊎ ((k ≡ k') × (x ≤ x'))
by_digits M k k' x x' h h' e = go (dec_lt k k') (dec_lt k' k)
  where
    go : Dec (k < k') → Dec (k' < k) → (k < k') ⊎ ((k ≡ k') × (x ≤ x'))
    go (yes l) d = inl l
    go (no l) (yes g) = absurd (omega (arith, mul-le-mul_left M g, mul-suc M k'))
    go (no l) (no g) = let q : k ≡ k' = omega arith in inr (q, omega (arith, ap (λ (i : ℕ). M * i) q))

-- A word of the list of n is good, and its chain is one of n.
pub listed_chain : (n : ℕ) (w : Word) → Memᴰ w (words_at true n) → T (reads true w) × ChainOf n (chain_of w)
listed_chain n w m =
    let l = (member_words true n w).0 m in (l.0, record { chained = word_chained w; sums = total_chain_of w ∙ l.1 })

-- The first word of least key, where the key is M times a first measure and a second one that stays below M: of the chains whose words
-- pass, its chain is the first by the two measures.
module _
    (M n : ℕ) (major minor : Measure) (t : Word → Bool) (g : Word → ℕ)
    (keyed : (w : Word) → T (reads true w) → g w ≡ M * major (chain_of w) + minor (chain_of w))
    (small : (c : List Part) → ChainOf n c → minor c < M)
    (w : Word) (r : FirstLeast t g (words_at true n) w)
  where
    listed : T (reads true w) × ChainOf n (chain_of w)
    listed = listed_chain n w (first_member t g r)

    key_of : (c : List Part) → ChainOf n c → g (word_of c) ≡ M * major c + minor c
    key_of c h = rw (chain_word_chain c h.chained) at (keyed (word_of c) (word_reads c))

    pub first_ahead : (c : List Part) → ChainOf n c → T (t (word_of c)) → c ≢ chain_of w → Ahead n major minor (chain_of w) c
    unfolding Ahead position list_of
    first_ahead c h p d =
        go (dec_lt (minor (chain_of w)) (minor c))
        (by_digits M (major (chain_of w)) (major c) (minor (chain_of w)) (minor c)
        (small (chain_of w) listed.1)
        (small c h)
        (omega (arith, keyed w listed.0, key_of c h, first_no_less t g r (word_of c) (chain_listed n c h) p)))
      where
        go :
            Dec (minor (chain_of w) < minor c)
            → (major (chain_of w) < major c) ⊎ ((major (chain_of w) ≡ major c) × (minor (chain_of w) ≤ minor c))
            → Ahead n major minor (chain_of w) c
        go l (inl k) = inl k
        go (yes l) (inr e) = inr (e.0, inl l)
        go (no l) (inr e) =
            let same : minor (chain_of w) ≡ minor c = omega arith in
            inr (
              e.0,
              inr (
                same,
                rw (word_chain_word w listed.0)
                    (first_position t g n w (word_of c) r
                    (chain_listed n c h)
                    p
                    (omega (arith, keyed w listed.0, key_of c h, ap (λ (k : ℕ). M * k) e.0))
                    (λ (q : word_of c ≡ w). d (sym (chain_word_chain c h.chained) ∙ ap chain_of q))),
              ),
            )

-- ---- the best chain

module _ (M n : ℕ) (lim : Limits) (π : Prices) (cheap : (c : List Part) → ChainOf n c → price π c < M) where
  -- What the best word is chosen by: a word that ends in the grid, of least key.
  abbrev ends : Word → Bool
  ends w = in_grid lim.A lim.B origin w

  abbrev cost : Word → ℕ
  cost w = key (costs_of M π) w

  -- The same of a chain's word.
  fits : (c : List Part) → ChainOf n c → Within lim c ↔ ((length c ≤ lim.K) × T (ends (word_of c)))
  fits c h = rw (chain_word_chain c h.chained) at (within_word lim (word_of c) (word_reads c))

  -- The chain of the first word of least key goes before every other chain within the limits, so none has fewer parts.
  module _ (w : Word) (r : FirstLeast ends cost (words_at true n) w) where
    ahead : (c : List Part) → ChainOf n c → Within lim c → c ≢ chain_of w → Ahead n length (price π) (chain_of w) c
    ahead c h b d = first_ahead M n length (price π) ends cost (key_price M π) cheap w r c h ((fits c h).0 b).1 d

    no_fewer : (c : List Part) → ChainOf n c → Within lim c → length (chain_of w) ≤ length c
    no_fewer c h b = no_less n length (price π) (chain_of w) c (ahead c h b)

    up_to_lem : (b : Bool) → leb (length (chain_of w)) lim.K ≡ b → Answers n lim length (price π) (cond b (some (chain_of w)) none)
    up_to_lem true e =
        let (good, chain) = listed_chain n w (first_member ends cost r) in
        record {
          chain = chain;
          within = (within_word lim w good).1 (leb-true (length (chain_of w)) lim.K e, r.passes);
          first = ahead;
        }
    up_to_lem false e = λ c h b. omega (arith, leb-false, no_fewer c h b, ((fits c h).0 b).0)

  told : Answers n lim length (price π) (least_keyed M n lim π)
  unfolding least_keyed up_to list_of
  told = go (best_at (costs_of M π) lim.A lim.B true origin n) (best_found (costs_of M π) lim.A lim.B true origin n)
    where
      go : (o : Option Word) → Found ends cost (words_at true n) o → Answers n lim length (price π) (up_to lim.K o)
      go none f = λ c h b. f (word_of c) (chain_listed n c h) ((fits c h).0 b).1
      go (some w) r = up_to_lem w r (leb (length (chain_of w)) lim.K) refl

  -- The chain of least key is the best chain; there is none where no chain is within the limits.
  pub keyed_is_best : least_keyed M n lim π ≡ best_chain n lim (price π)
  keyed_is_best = is_first n lim length (price π) (least_keyed M n lim π) told

-- ---- the cheapest chain

-- The costs of letters are any whose key is 128 times the price and the parts: no chain of a number below 2^64 has so many parts.
module _
    (n : ℕ) (lim : Limits) (π : Prices) (κ : Costs) (fits : n < 2 ^ 64)
    (keyed : (w : Word) → T (reads true w) → key κ w ≡ price_weight * price π (chain_of w) + length (chain_of w))
  where
    -- What the cheapest word is chosen by: a word that ends in the grid and has few parts, of least key.
    abbrev passes : Word → Bool
    passes w = (limited_by lim.A lim.B).passes (origin, lim.K) w

    abbrev pub cheapest : Option Word
    cheapest = best_on (limited_by lim.A lim.B) κ (origin, lim.K) true n

    -- It passes exactly if its chain is within the limits.
    pub passes_within : (w : Word) → T (reads true w) → Within lim (chain_of w) ↔ T (passes w)
    passes_within w h =
        let grid = in_grid lim.A lim.B origin w in
        let few = leb (parts w) lim.K in (
          λ i.
              let b = (within_word lim w h).0 i in
              yes_and grid few b.1 (le→leb (parts w) lim.K (omega (arith, parts_chain w h))),
          λ i.
              let b = and_yes grid few i in
              (within_word lim w h).1 (omega (arith, parts_chain w h, leb→le (parts w) lim.K b.1), b.0),
        )

    within_passes : (c : List Part) → ChainOf n c → Within lim c → T (passes (word_of c))
    within_passes c h b = (passes_within (word_of c) (word_reads c)).0 (rw (chain_word_chain c h.chained) b)

    cheap_told : Answers n lim (price π) length (map chain_of (cheapest))
    unfolding list_of
    cheap_told =
        go cheapest
        (best_on_found (limited_carried lim.A lim.B) κ (origin, lim.K) true n)
      where
        few : (c : List Part) → ChainOf n c → length c < price_weight
        few c h = omega (arith, parts_bound n 64 c h fits)

        go : (o : Option Word) → Found passes (key κ) (words_at true n) o → Answers n lim (price π) length (map chain_of o)
        go none f = λ c h b. f (word_of c) (chain_listed n c h) (within_passes c h b)
        go (some w) r =
            let (good, chain) = listed_chain n w (first_member passes (key κ) r) in
            record {
              chain = chain;
              within = (passes_within w good).1 r.passes;
              first = λ c h b d.
                  first_ahead price_weight n (price π) length passes (key κ) keyed few w r c h (within_passes c h b) d;
            }

    -- The chain of the cheapest word is the cheapest chain; there is none where no chain is within the limits.
    pub keyed_is_cheapest : map chain_of (cheapest) ≡ cheapest_chain n lim (price π)
    keyed_is_cheapest = is_first n lim (price π) length (map chain_of (cheapest)) cheap_told
