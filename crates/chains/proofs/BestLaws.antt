-- The first chain as a function is the first of all chains, by any two measures: document 01, 'Services and memory'; document 02, T-10;
-- demand 3. For all n and limits. The best chain is the first by parts and cost, the cheapest by cost and parts.
--
-- In this order: a number has one first chain at most (`first_unique`); the test of the limits tells what `Within` says; what `lower`
-- tells; what `first_among` gives of a list that ascends; of two words the one before the other has the lower position. Last the
-- theorems of record: `first_chain` gives a chain exactly if it is the first (`first_chain_lem`), and none exactly if no chain is within
-- the limits (`first_none`); values above 64, 63 and 40 exclude nothing (`first_cut`); the number 0 has the empty chain (`first_of_zero`).
-- The same of the best chain and of the cheapest (`best_chain_lem`, `best_none`, `cheapest_chain_lem`, `cheapest_none`). No chain within the
-- limits costs less than the cheapest (`none_cheaper`), and where all chains cost the same, the cheapest is the best (`same_cost`).
use Rattle.std.specs.Prelude.{◌≡◌, ◌↔◌, ◌≢◌, ◌⊎◌, Bool, cond, ◌&&◌, ◌||◌, ℕ, ◌^◌, ◌≤◌, ◌<◌, leb, get_or}
use Rattle.std.proofs.Math.Path.{refl, subst}
use Rattle.std.proofs.Common.{sym, ap, ◌∙◌, ⊎_elim, arith, leb→le, le→leb}
use Rattle.std.proofs.Math.Logic.{inl, inr}
use Rattle.std.proofs.Math.Bool.{true, false}
use mathlib.Core.List.Memᴰ
use mathlib.Core.List.{List, [], ◌∷◌, Memᴰ}
use Rattle.std.proofs.Math.Option.{Option, none, some}
use Rattle.std.proofs.Math.Decide.{dec_lt, ℕ_discrete}
use Rattle.std.proofs.Math.Dec.{T, ltb, eqb}
use Rattle.std.proofs.Math.ListN.{length}
use Rattle.std.proofs.Math.Facts.{and_yes, yes_and}
use borrow.Author.Tests.{ltb-true, ltb-false, eqb-true, eqb-false}
use Rattle.chains.specs.Chains.{Part, ChainOf}
use Rattle.chains.specs.Words.{Word, word_of, chain_from, chain_of}
use Rattle.chains.specs.Listing.{before, at_rest, words_in, words_at, list_of, count_before, position, chain_at}
use Rattle.chains.specs.Best.{Limits, Within, cut, NoneFits, Measure, Ahead, IsFirst, IsBest, IsCheapest}
use Rattle.chains.specs.Best.{is_within, lower, sooner, first_among, first_chain, best_chain, cheapest_chain}
use Rattle.chains.proofs.Order.{before_irrefl, before_trans}
use Rattle.chains.proofs.Members.{Ascends, words_ascend, list_ascends}
use Rattle.chains.proofs.Readers.{readers_good}
use Rattle.chains.proofs.Listed.{list_of_chains, chain_listed}
use Rattle.chains.proofs.Positions.{word_at_position}
use Rattle.chains.proofs.PositionsOfChains.{at_position_lem}
use Rattle.chains.proofs.RoundTrip.{chain_word_chain, word_chain_word}
use Rattle.chains.proofs.Bounds.{chain_bounds}

-- ---- a number has one first chain at most

-- Of two chains not each goes before the other.
not_both : (n : ℕ) (major minor : Measure) (c c' : List Part) → Ahead n major minor c c' → Ahead n major minor c' c → ⊥
unfolding Ahead
not_both n major minor c c' (inl h) (inl k) = omega arith
not_both n major minor c c' (inl h) (inr k) = omega arith
not_both n major minor c c' (inr h) (inl k) = omega arith
not_both n major minor c c' (inr h) (inr k) = by_minor h.1 k.1
  where
    by_minor :
        (minor c < minor c') ⊎ ((minor c ≡ minor c') × (position n c < position n c'))
        → (minor c' < minor c) ⊎ ((minor c' ≡ minor c) × (position n c' < position n c))
        → ⊥
    by_minor (inl h) (inl k) = omega arith
    by_minor (inl h) (inr k) = omega arith
    by_minor (inr h) (inl k) = omega arith
    by_minor (inr h) (inr k) = omega arith

pub first_unique : (n : ℕ) (lim : Limits) (major minor : Measure) (c c' : List Part)
    → IsFirst n lim major minor c → IsFirst n lim major minor c' → c ≡ c'
first_unique n lim major minor c c' h h' = go (ℕ_discrete (position n c) (position n c'))
  where
    go : Dec (position n c ≡ position n c') → c ≡ c'
    go (yes e) = sym (at_position_lem n c h.chain).1 ∙ ap (chain_at n) e ∙ (at_position_lem n c' h'.chain).1
    go (no d) =
        absurd
        (not_both n major minor c c'
        (h.first c' h'.chain h'.within (λ (q : c' ≡ c). d (ap (position n) (sym q))))
        (h'.first c h.chain h.within (λ (q : c ≡ c'). d (ap (position n) q))))

-- A chain that goes before every other one has no more of the first measure than any.
pub no_less : (n : ℕ) (major minor : Measure) (c c' : List Part) → (c' ≢ c → Ahead n major minor c c') → major c ≤ major c'
unfolding Ahead
no_less n major minor c c' ahead = go (dec_lt (major c') (major c))
  where
    no_more : Ahead n major minor c c' → major c ≤ major c'
    no_more (inl l) = omega arith
    no_more (inr l) = omega arith

    go : Dec (major c' < major c) → major c ≤ major c'
    go (yes l) = no_more (ahead (λ (q : c' ≡ c). absurd (omega (arith, ap major q))))
    go (no l) = omega arith

-- ---- the test of the limits

pub within_tested : (lim : Limits) (c : List Part) → T (is_within lim c) ↔ Within lim c
unfolding is_within Within
within_tested lim [] = (λ _. tt, λ _. tt)
within_tested lim (p ∷ c) =
    let k = leb (length (p ∷ c)) lim.K in
    let a = leb p.a lim.A in
    let b = leb p.b lim.B in (
      λ t.
          let (x, y) = and_yes k (a && b) t in
          let (z, w) = and_yes a b y in
          (leb→le (length (p ∷ c)) lim.K x, leb→le p.a lim.A z, leb→le p.b lim.B w),
      λ h.
          yes_and k (a && b) (le→leb (length (p ∷ c)) lim.K h.0)
          (yes_and a b (le→leb p.a lim.A h.1) (le→leb p.b lim.B h.2)),
    )

-- ---- less of the first measure, or as much and less of the second

module _ (major minor : Measure) where
  abbrev Lower : List Part → List Part → Type 0
  Lower c c' = (major c < major c') ⊎ ((major c ≡ major c') × (minor c < minor c'))

  -- c' is not lower than c.
  abbrev NoHigher : List Part → List Part → Type 0
  NoHigher c c' = (major c < major c') ⊎ ((major c ≡ major c') × (minor c ≤ minor c'))

  no_higher_trans : (c c' c'' : List Part) → NoHigher c c' → NoHigher c' c'' → NoHigher c c''
  no_higher_trans c c' c'' (inl h) (inl k) = inl (omega arith)
  no_higher_trans c c' c'' (inl h) (inr k) = inl (omega arith)
  no_higher_trans c c' c'' (inr h) (inl k) = inl (omega arith)
  no_higher_trans c c' c'' (inr h) (inr k) = inr (omega arith, omega arith)

  -- What the test tells of c and c'.
  abbrev LowerTold : List Part → List Part → Bool → Type 0
  LowerTold c c' true = Lower c c'
  LowerTold c c' false = NoHigher c' c

  lower_told : (c c' : List Part) → LowerTold c c' (lower major minor c c')
  unfolding lower
  lower_told c c' =
      go (ltb (major c) (major c')) (eqb (major c) (major c')) (ltb (minor c) (minor c')) refl refl refl
    where
      go :
          (x y z : Bool)
          → ltb (major c) (major c') ≡ x
          → eqb (major c) (major c') ≡ y
          → ltb (minor c) (minor c') ≡ z
          → LowerTold c c' (x || (y && z))
      go true y z f g h = inl (ltb-true (major c) (major c') f)
      go false true true f g h = inr (eqb-true (major c) (major c') g, ltb-true (minor c) (minor c') h)
      go false true false f g h = inr (sym (eqb-true (major c) (major c') g), ltb-false (minor c) (minor c') h)
      go false false z f g h = inl (omega (arith, ltb-false (major c) (major c') f, eqb-false (major c) (major c') g))

  -- ---- what is found in a list that ascends

  -- The chain of w goes before that of v, by the order of the words.
  abbrev AheadOf : Word → Word → Type 0
  AheadOf w v =
      (major (chain_of w) < major (chain_of v))
      ⊎ ((major (chain_of w) ≡ major (chain_of v))
      × ((minor (chain_of w) < minor (chain_of v)) ⊎ ((minor (chain_of w) ≡ minor (chain_of v)) × T (before w v))))

  lower_ahead : (w v : Word) → Lower (chain_of w) (chain_of v) → AheadOf w v
  lower_ahead w v (inl h) = inl h
  lower_ahead w v (inr h) = inr (h.0, inl h.1)

  before_ahead : (w v : Word) → NoHigher (chain_of w) (chain_of v) → T (before w v) → AheadOf w v
  before_ahead w v (inl h) t = inl h
  before_ahead w v (inr h) t = inr (h.0, go (dec_lt (minor (chain_of w)) (minor (chain_of v))))
    where
      go : Dec (minor (chain_of w) < minor (chain_of v))
          → (minor (chain_of w) < minor (chain_of v)) ⊎ ((minor (chain_of w) ≡ minor (chain_of v)) × T (before w v))
      go (yes l) = inl l
      go (no l) = inr (omega arith, t)

  ahead_no_higher : (w v : Word) → (v ≡ w) ⊎ AheadOf w v → NoHigher (chain_of w) (chain_of v)
  ahead_no_higher w v (inl e) = rw e (inr (refl, omega arith))
  ahead_no_higher w v (inr (inl h)) = inl h
  ahead_no_higher w v (inr (inr (e, inl h))) = inr (e, omega arith)
  ahead_no_higher w v (inr (inr (e, inr h))) = inr (e, omega arith)

  module _ (lim : Limits) where
    abbrev fits : Word → Type 0
    fits w = T (is_within lim (chain_of w))

    -- w is ahead of all others of the list that are within the limits.
    record First (ws : List Word) (w : Word) : Type 0 where
      member : Memᴰ w ws
      passes : fits w
      others : (v : Word) → Memᴰ v ws → fits v → (v ≡ w) ⊎ AheadOf w v

    -- What is told: none, that no word passes; a chain, that it is that of the first.
    abbrev Told : List Word → Option (List Part) → Type 0
    Told ws none = (v : Word) → Memᴰ v ws → fits v → ⊥
    Told ws (some c) = (w : Word) × (c ≡ chain_of w) × First ws w

    head_first : (x : Word) (ws : List Word) → fits x → ((v : Word) → Memᴰ v ws → fits v → AheadOf x v) → First (x ∷ ws) x
    head_first x ws p h =
        record {
          member = Memᴰ.head refl;
          passes = p;
          others = λ v m q. ⊎_elim (λ (e : v ≡ x). inl e) (λ (k : Memᴰ v ws). inr (h v k q)) (Memᴰ.cases_cons m);
        }

    tail_first : (x w : Word) (ws : List Word) → (fits x → AheadOf w x) → First ws w → First (x ∷ ws) w
    tail_first x w ws h f =
        record {
          member = Memᴰ.tail f.member;
          passes = f.passes;
          others = λ v m q.
              ⊎_elim
              (λ (e : v ≡ x). inr (rw e (h (rw e at q))))
              (λ (k : Memᴰ v ws). f.others v k q)
              (Memᴰ.cases_cons m);
        }

    skipped : (x : Word) (ws : List Word) (o : Option (List Part)) → (fits x → ⊥) → Told ws o → Told (x ∷ ws) o
    skipped x ws none n h =
        λ v m q. ⊎_elim (λ (e : v ≡ x). n (rw e at q)) (λ (k : Memᴰ v ws). h v k q) (Memᴰ.cases_cons m)
    skipped x ws (some c) n (w, e, f) = (w, e, tail_first x w ws (λ p. absurd (n p)) f)

    taken :
        (x : Word) (ws : List Word) (o : Option (List Part))
        → fits x
        → ((v : Word) → Memᴰ v ws → T (before x v))
        → Told ws o
        → Told (x ∷ ws) (sooner major minor (chain_of x) o)
    unfolding sooner
    taken x ws none p a h = (x, refl, head_first x ws p (λ v m q. absurd (h v m q)))
    taken x ws (some c) p a (w, e, f) = go (lower major minor c (chain_of x)) (rw e (lower_told (chain_of w) (chain_of x)))
      where
        go : (b : Bool) → LowerTold (chain_of w) (chain_of x) b → Told (x ∷ ws) (cond b (some c) (some (chain_of x)))
        go true l = (w, e, tail_first x w ws (λ _. lower_ahead w x l) f)
        go false l = (
          x,
          refl,
          head_first x ws p
              (λ v m q.
              before_ahead x v
              (no_higher_trans (chain_of x) (chain_of w) (chain_of v) l (ahead_no_higher w v (f.others v m q)))
              (a v m)),
        )

    told : (ws : List Word) → Ascends ws → Told ws (first_among lim major minor ws)
    unfolding first_among Ascends
    told [] a = λ v m q. Memᴰ.not-nil m
    told (x ∷ ws) a = go (is_within lim (chain_of x)) refl (told ws a.1)
      where
        go :
            (b : Bool)
            → is_within lim (chain_of x) ≡ b
            → Told ws (first_among lim major minor ws)
            → Told (x ∷ ws) (cond b (sooner major minor (chain_of x) (first_among lim major minor ws)) (first_among lim major minor ws))
        go true e h = taken x ws (first_among lim major minor ws) (subst T (sym e) tt) a.0 h
        go false e h = skipped x ws (first_among lim major minor ws) (λ p. subst T e p) h

-- ---- positions

-- Of two words of the list of n the one before the other has the lower position.
before_position :
    (n : ℕ) (u v : Word)
    → Memᴰ u (list_of n)
    → Memᴰ v (list_of n)
    → T (before u v)
    → count_before u (list_of n) < count_before v (list_of n)
before_position n u v m k t = go (dec_lt i j) (dec_lt j i)
  where
    i : ℕ
    i = count_before u (list_of n)

    j : ℕ
    j = count_before v (list_of n)

    go : Dec (i < j) → Dec (j < i) → i < j
    go (yes h) o = h
    go (no h) (yes o) =
        let s : T (before v u) =
        rw ((word_at_position n u m).1, (word_at_position n v k).1) at (list_ascends n j i o (word_at_position n u m).0) in
        absurd (before_irrefl u (before_trans u v u t s))
    go (no h) (no o) =
        let e : u ≡ v =
        sym (word_at_position n u m).1
        ∙ ap (λ (l : ℕ). get_or (list_of n) l []) (omega arith)
        ∙ (word_at_position n v k).1 in
        absurd (before_irrefl u (rw (← e) at t))

-- ---- the first chain

module _ (n : ℕ) (lim : Limits) (major minor : Measure) where
  first_of_list : (w : Word) → First major minor lim (list_of n) w → IsFirst n lim major minor (chain_of w)
  unfolding Ahead position
  first_of_list w f =
      record {
        chain = ((list_of_chains n w).0 f.member).1;
        within = (within_tested lim (chain_of w)).0 f.passes;
        first = λ c h b d. other c h d (f.others (word_of c) (chain_listed n c h) (fitting c h b));
      }
    where
      fitting : (c : List Part) → ChainOf n c → Within lim c → T (is_within lim (chain_of (word_of c)))
      fitting c h b = rw (chain_word_chain c h.chained) ((within_tested lim c).1 b)

      is_word : word_of (chain_of w) ≡ w
      is_word = word_chain_word w ((readers_good w).1 ((list_of_chains n w).0 f.member).0)

      other : (c : List Part) → ChainOf n c → c ≢ chain_of w → (word_of c ≡ w) ⊎ AheadOf major minor w (word_of c)
          → Ahead n major minor (chain_of w) c
      other c h d (inl e) = absurd (d (sym (chain_word_chain c h.chained) ∙ ap chain_of e))
      other c h d (inr (inl k)) = inl (rw (chain_word_chain c h.chained) at k)
      other c h d (inr (inr (e, inl k))) =
          inr (rw (chain_word_chain c h.chained) at e, inl (rw (chain_word_chain c h.chained) at k))
      other c h d (inr (inr (e, inr (k, t)))) =
          inr (
            rw (chain_word_chain c h.chained) at e,
            inr (
              rw (chain_word_chain c h.chained) at k,
              rw is_word (before_position n w (word_of c) f.member (chain_listed n c h) t),
            ),
          )

  -- What an answer tells of the chains of n.
  abbrev pub Answers : Option (List Part) → Type 0
  Answers none = NoneFits n lim
  Answers (some c) = IsFirst n lim major minor c

  pub answers : Answers (first_chain n lim major minor)
  unfolding first_chain list_of
  answers = go (first_among lim major minor (list_of n)) (told major minor lim (list_of n) (words_ascend true n))
    where
      go : (o : Option (List Part)) → Told major minor lim (list_of n) o → Answers o
      go none h = λ c k b. h (word_of c) (chain_listed n c k) (rw (chain_word_chain c k.chained) ((within_tested lim c).1 b))
      go (some c) (w, e, f) = rw e (first_of_list w f)

  -- It is a chain exactly if that is the first chain of n within the limits,
  pub first_chain_lem : (c : List Part) → (first_chain n lim major minor ≡ some c) ↔ IsFirst n lim major minor c
  first_chain_lem c = (λ e. rw e at answers, go (first_chain n lim major minor) answers)
    where
      go : (o : Option (List Part)) → Answers o → IsFirst n lim major minor c → o ≡ some c
      go none h b = absurd (h c b.chain b.within)
      go (some c') h b = ap some (first_unique n lim major minor c' c h b)

  -- and none exactly if no chain of n is within the limits.
  pub first_none : (first_chain n lim major minor ≡ none) ↔ NoneFits n lim
  first_none = (λ e. rw e at answers, go (first_chain n lim major minor) answers)
    where
      go : (o : Option (List Part)) → Answers o → NoneFits n lim → o ≡ none
      go none h f = refl
      go (some c) h f = absurd (f c h.chain h.within)

  -- So an answer that tells the same of the chains of n is this function's.
  pub is_first : (o : Option (List Part)) → Answers o → o ≡ first_chain n lim major minor
  is_first none f = sym (first_none.1 f)
  is_first (some c) b = sym ((first_chain_lem c).1 b)

-- Limits that the same chains of n are within have the same first chain.
pub same_limits : (n : ℕ) (lim lim' : Limits) (major minor : Measure)
    → ((c : List Part) → ChainOf n c → Within lim c ↔ Within lim' c)
    → first_chain n lim major minor ≡ first_chain n lim' major minor
same_limits n lim lim' major minor same =
    is_first n lim' major minor (first_chain n lim major minor) (go (first_chain n lim major minor) (answers n lim major minor))
  where
    go : (o : Option (List Part)) → Answers n lim major minor o → Answers n lim' major minor o
    go none f = λ c h w. f c h ((same c h).1 w)
    go (some c) b =
        record {
          chain = b.chain;
          within = (same c b.chain).0 b.within;
          first = λ c' h w d. b.first c' h ((same c' h).1 w) d;
        }

-- So values above 64, 63 and 40 exclude nothing.
pub first_cut : (n : ℕ) (lim : Limits) (major minor : Measure) → n < 2 ^ 64
    → first_chain n lim major minor ≡ first_chain n (cut lim) major minor
unfolding Within cut
first_cut n lim major minor fits = same_limits n lim (cut lim) major minor same
  where
    same : (c : List Part) → ChainOf n c → Within lim c ↔ Within (cut lim) c
    same [] h = (λ _. tt, λ _. tt)
    same (p ∷ c) h =
        let l = chain_bounds n p c fits h in
        (λ w. (omega arith, omega arith, omega arith), λ w. (omega arith, omega arith, omega arith))

-- The first chain of 0 is the empty one, for all limits and measures.
pub first_of_zero : (lim : Limits) (major minor : Measure) → first_chain 0 lim major minor ≡ some []
unfolding first_chain first_among sooner is_within list_of words_at words_in at_rest chain_of chain_from
first_of_zero lim major minor = refl

-- ---- the best chain and the cheapest

module _ (n : ℕ) (lim : Limits) (cost : Measure) where
  pub best_chain_lem : (c : List Part) → (best_chain n lim cost ≡ some c) ↔ IsBest n lim cost c
  best_chain_lem c = first_chain_lem n lim length cost c

  pub best_none : (best_chain n lim cost ≡ none) ↔ NoneFits n lim
  best_none = first_none n lim length cost

  pub cheapest_chain_lem : (c : List Part) → (cheapest_chain n lim cost ≡ some c) ↔ IsCheapest n lim cost c
  cheapest_chain_lem c = first_chain_lem n lim cost length c

  pub cheapest_none : (cheapest_chain n lim cost ≡ none) ↔ NoneFits n lim
  cheapest_none = first_none n lim cost length

  -- No chain within the limits costs less than the cheapest.
  pub none_cheaper : (c : List Part) → IsCheapest n lim cost c → (c' : List Part) → ChainOf n c' → Within lim c' → cost c ≤ cost c'
  none_cheaper c b c' h w = no_less n cost length c c' (b.first c' h w)

  -- Where all chains of n cost the same, the cheapest chain is the best one.
  pub same_cost : ((c c' : List Part) → ChainOf n c → ChainOf n c' → cost c ≡ cost c') → cheapest_chain n lim cost ≡ best_chain n lim cost
  unfolding Ahead
  same_cost same =
      is_first n lim length cost (cheapest_chain n lim cost) (go (cheapest_chain n lim cost) (answers n lim cost length))
    where
      swapped : (c c' : List Part) → cost c ≡ cost c' → Ahead n cost length c c' → Ahead n length cost c c'
      swapped c c' e (inl l) = absurd (omega arith)
      swapped c c' e (inr (q, inl l)) = inl l
      swapped c c' e (inr (q, inr (l, p))) = inr (l, inr (q, p))

      go : (o : Option (List Part)) → Answers n lim cost length o → Answers n lim length cost o
      go none f = f
      go (some c) b =
          record {
            chain = b.chain;
            within = b.within;
            first = λ c' h w d. swapped c c' (same c c' b.chain h) (b.first c' h w d);
          }
