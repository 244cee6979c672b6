-- The twelve checked numbers of document 01, one table carried by one proof.
--
-- In this order: what an entry of the table says, the table, the test that antt computes over the whole table, what the test shows
-- of an entry, and the theorem of record, `checked`.
use Rattle.std.specs.Prelude.{◌≡◌, ◌⊎◌, Bool, ◌&&◌, ◌||◌, ℕ, ◌≤◌, ◌<◌, eqb, leb, length}
use Rattle.std.proofs.Math.Path.{refl, ap₂}
use Rattle.std.proofs.Common.{sym, ap, ◌∙◌, ⊎_elim, arith, eqb→eq, leb→le}
use Rattle.std.proofs.Math.Bool.{true, false}
use mathlib.Core.List.Memᴰ
use mathlib.Core.List.{List, [], ◌∷◌, Memᴰ}
use Rattle.std.proofs.Math.Option.{Option, none, some}
use Rattle.std.proofs.Math.Decide.{ℕ_discrete}
use Rattle.std.proofs.Math.Dec.{T}
use Rattle.std.specs.Float.Ieee.Fits.{and_l, and_r}
use Rattle.chains.specs.Chains.{Part, ChainOf}
use Rattle.chains.specs.Words.{Word, right, up, word_of, chain_from, chain_of}
use Rattle.chains.specs.Listing.{by_third, at_rest, words_in, words_at, list_of, count, position}
use Rattle.chains.specs.Best.{Prices, price, Limits, Within, Ahead, IsBest, is_within, best_chain}
use Rattle.chains.proofs.BestLaws.{within_tested, Answers, answers}
use Rattle.chains.proofs.RoundTrip.{chain_word_chain}
use Rattle.chains.proofs.Listed.{list_of_chains, chain_listed}

-- A checked number n: how many chains it has, their words in order, or how many parts its best chain has.
pub data Entry : Type 0 where
  chains : ℕ → ℕ → Entry
  words : ℕ → List Word → Entry
  best : ℕ → ℕ → Entry

-- Limits that exclude no chain of a number below 2^64.
unfoldable pub free : Limits
free = record { K = 64; A = 63; B = 40 }

-- What an entry says. The best chain has as many parts by all prices.
unfoldable pub Holds : Entry → Type 0
Holds (chains n k) = count n ≡ k
Holds (words n l) = list_of n ≡ l
Holds (best n k) = (π : Prices) → (c : List Part) × IsBest n free (price π) c × (length c ≡ k)

-- The numbers marked ●.
unfoldable pub table : List Entry
table =
    chains 0 1
    ∷ chains 1 1
    ∷ chains 3 2
    ∷ chains 5 1
    ∷ chains 6 2
    ∷ chains 9 4
    ∷ chains 19 4
    ∷ chains 21 5
    ∷ chains 27 7
    ∷ words 19 ((1 ∷ 1 ∷ 0 ∷ 0 ∷ 3 ∷ []) ∷ (1 ∷ 1 ∷ 3 ∷ 3 ∷ []) ∷ (3 ∷ 0 ∷ 1 ∷ 3 ∷ []) ∷ (3 ∷ 2 ∷ 0 ∷ 3 ∷ []) ∷ [])
    ∷ words 27
    ((1 ∷ 1 ∷ 0 ∷ 1 ∷ 3 ∷ []) ∷ (1 ∷ 3 ∷ 0 ∷ 0 ∷ 3 ∷ []) ∷ (1 ∷ 3 ∷ 3 ∷ 3 ∷ []) ∷ (2 ∷ 1 ∷ 0 ∷ 0 ∷ 3 ∷ []) ∷ (2 ∷ 1 ∷ 3 ∷ 3 ∷ [])
    ∷ (2 ∷ 2 ∷ 1 ∷ 3 ∷ []) ∷ (2 ∷ 2 ∷ 2 ∷ 3 ∷ []) ∷ [])
    ∷ best 29 3
    ∷ []

-- ---- tests on lists, and what they show

-- `every` and `any` test the entries of a list, `same` two lists entry by entry.
module _ {A : Type 0} where
  every : (A → Bool) → List A → Bool
  every p [] = true
  every p (x ∷ l) = p x && every p l

  every_at : (p : A → Bool) (l : List A) → T (every p l) → (x : A) → Memᴰ x l → T (p x)
  unfolding every
  every_at p [] t x m = absurd (Memᴰ.not-nil m)
  every_at p (y ∷ l) t x (Memᴰ.head e) = rw e (and_l (p y) (every p l) t)
  every_at p (y ∷ l) t x (Memᴰ.tail m) = every_at p l (and_r (p y) (every p l) t) x m

  any : (A → Bool) → List A → Bool
  any p [] = false
  any p (x ∷ l) = p x || any p l

  any_at : (p : A → Bool) (l : List A) → T (any p l) → (x : A) × Memᴰ x l × T (p x)
  unfolding any
  any_at p [] t = absurd t
  any_at p (x ∷ l) t = go (p x) refl t (any_at p l)
    where
      go : (b : Bool) → p x ≡ b → T (b || any p l) → (T (any p l) → (y : A) × Memᴰ y l × T (p y))
          → (y : A) × Memᴰ y (x ∷ l) × T (p y)
      go true e u below = (x, Memᴰ.head refl, rw e tt)
      go false e u below =
          let r = below u in
          (r.0, Memᴰ.tail r.1, r.2)

  same : (A → A → Bool) → List A → List A → Bool
  same q [] [] = true
  same q [] (y ∷ m) = false
  same q (x ∷ l) [] = false
  same q (x ∷ l) (y ∷ m) = q x y && same q l m

  same_eq : (q : A → A → Bool) → ((x y : A) → T (q x y) → x ≡ y) → (l m : List A) → T (same q l m) → l ≡ m
  unfolding same
  same_eq q s [] [] t = refl
  same_eq q s [] (y ∷ m) t = absurd t
  same_eq q s (x ∷ l) [] t = absurd t
  same_eq q s (x ∷ l) (y ∷ m) t =
      ap₂ (λ (z : A) (k : List A). z ∷ k) (s x y (and_l (q x y) (same q l m) t)) (same_eq q s l m (and_r (q x y) (same q l m) t))

-- ---- the test of an entry

-- The word's chain has k parts and is within the limits, has at least k.
has : ℕ → Word → Bool
has k w = eqb (length (chain_of w)) k && is_within free (chain_of w)

at_least : ℕ → Word → Bool
at_least k w = leb k (length (chain_of w))

test : Entry → Bool
test (chains n k) = eqb (count n) k
test (words n l) = same (same eqb) (list_of n) l
test (best n k) = any (has k) (list_of n) && every (at_least k) (list_of n)

-- Where a chain within the limits has k parts and no chain has fewer, the best has k.
best_has :
    (n k : ℕ) (π : Prices) (c : List Part)
    → ChainOf n c
    → Within free c
    → length c ≡ k
    → ((c' : List Part) → ChainOf n c' → k ≤ length c')
    → (c' : List Part) × IsBest n free (price π) c' × (length c' ≡ k)
unfolding Ahead
best_has n k π c h w e fewest = go (best_chain n free (price π)) (answers n free length (price π))
  where
    parts : (c' : List Part) → IsBest n free (price π) c' → Dec (length c' ≡ k) → length c' ≡ k
    parts c' b (yes d) = d
    parts c' b (no d) =
        ⊎_elim
        (λ (l : length c' < length c). absurd (omega (arith, fewest c' b.chain)))
        (λ (l : (length c' ≡ length c) × ((price π c' < price π c) ⊎ ((price π c' ≡ price π c) × (position n c' < position n c)))).
        l.0 ∙ e)
        (b.first c h w (λ (q : c ≡ c'). d (sym (ap length q) ∙ e)))

    go : (o : Option (List Part)) → Answers n free length (price π) o → (c' : List Part) × IsBest n free (price π) c' × (length c' ≡ k)
    go none f = absurd (f c h w)
    go (some c') b = (c', b, parts c' b (ℕ_discrete (length c') k))

sound : (e : Entry) → T (test e) → Holds e
unfolding test Holds has at_least
sound (chains n k) t = eqb→eq (count n) k t
sound (words n l) t = same_eq (same eqb) (same_eq eqb eqb→eq) (list_of n) l t
sound (best n k) t =
    let one = any (has k) (list_of n) in
    let all = every (at_least k) (list_of n) in
    let (w, m, e) = any_at (has k) (list_of n) (and_l one all t) in
    let size = eqb (length (chain_of w)) k in
    λ π.
    best_has n k π (chain_of w)
    ((list_of_chains n w).0 m).1
    ((within_tested free (chain_of w)).0 (and_r size (is_within free (chain_of w)) e))
    (eqb→eq (length (chain_of w)) k (and_l size (is_within free (chain_of w)) e))
    (λ c h.
    rw (chain_word_chain c h.chained)
    at (leb→le k (length (chain_of (word_of c)))
    (every_at (at_least k) (list_of n) (and_r one all t) (word_of c) (chain_listed n c h))))

-- Every entry of the table holds.
pub checked : (e : Entry) → Memᴰ e table → Holds e
unfolding table test has at_least is_within free every any same count list_of words_at words_in at_rest by_third chain_of chain_from right up
checked e m = sound e (every_at test table tt e m)
