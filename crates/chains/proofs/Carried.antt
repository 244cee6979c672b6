-- A test that a walk carries along (Keys), over any costs of letters: the words that pass from those of the half and the third, how many
-- they are, the best of them, and its key.
--
-- In this order: two tests at once; the words of a rest; a letter before words; the words that pass, by a rise of a and by a rise of b
-- (`passing_step`); how many pass (`how_many_step`); the best of them (`best_on_step`); its key, a number as a table holds it
-- (`least_on_step`), and the two choices of a walk along such a table (`take_a_on`, `take_b_on`). Bests has these for the limits on a and
-- b, PartLimit for that on the parts.
use Rattle.std.specs.Prelude.{◌≡◌, ◌≢◌, Bool, ◌&&◌}
use Rattle.std.proofs.Math.Path.{refl, ap}
use Rattle.std.proofs.Common.{ap₂, ◌∙◌, ⊎_elim, leb-true, leb-false, le-leb}
use Rattle.std.proofs.Math.Bool.{true, false, cond}
use mathlib.Core.List.Memᴰ
use mathlib.Core.List.{List, [], ◌∷◌, ◌++◌, Memᴰ}
use Rattle.std.proofs.Math.Option.{Option, none, some, map, none-ne-some}
use Prim.Native.Nat.{ℕ, zero, suc, ◌+◌, ◌/◌, ◌%◌, ◌≤◌, ◌<◌, min}
use native.Mathlib.Omega.{arith}
use Rattle.std.proofs.Math.Dec.{T, leb}
use Rattle.std.proofs.Math.ListN.{length, length-append}
use Rattle.std.proofs.lemmas.List.{length-map}
use Rattle.std.proofs.lemmas.Bool.{lt-leb}
use Rattle.chains.specs.Words.{Word, some_left}
use Rattle.chains.specs.Listing.{by_third, at_rest, words_in, words_at, keep}
use Rattle.chains.proofs.Weight.{weight}
use Rattle.chains.proofs.Members.{under, rises, kept, branches, words_step, member_words}
use Rattle.chains.specs.Keys.{Costs, key, Test, Carried, both, earlier, least, passing, best_on, key_or, least_on}
use Rattle.chains.proofs.Leasts.{FirstLeast, Found, first_member, least_found, least_append, least_member, keep_append}

-- Two carried tests at once are carried too.
pub both_carried : {τ σ : Test} → Carried τ → Carried σ → Carried (both τ σ)
both_carried c d =
    record { by_letter = λ s l w h. ap₂ (λ (x y : Bool). x && y) (c.by_letter s.0 l w h) (d.by_letter s.1 l w h) }

-- ---- the words of a rest

-- Every word of a list has a letter.
abbrev pub Full : List Word → Type 0
Full ws = (w : Word) → Memᴰ w ws → T (some_left w)

-- Only the rest 0 has an empty word.
pub full_words : (f : Bool) (m : ℕ) → 0 < m → Full (words_at f m)
unfolding weight some_left
full_words f m h [] k = absurd (omega (arith, ((member_words f m []).0 k).1))
full_words f m h (l ∷ w) k = tt

-- Where b rises, the remainder by three is 0 or 1, and at a rest of 2 or more the third is not 0.
pub rises_low : (f : Bool) (r : ℕ) → T (rises f r) → r ≤ 1
unfolding rises
rises_low f zero t = omega arith
rises_low f (suc zero) t = omega arith
rises_low f (suc (suc r)) t = absurd t

pub third_left : (f : Bool) (m : ℕ) → 2 ≤ m → T (rises f (m % 3)) → 0 < m / 3
third_left f m h t = omega (arith, rises_low f (m % 3) t)

-- ---- a letter before words

-- A letter put before a word, if there is one.
abbrev pub lead : ℕ → Option Word → Option Word
lead l o = map (λ (w : Word). l ∷ w) o

-- A word with a letter before it, and one that is there where a test passes.
pub lead_word : (l : ℕ) (o : Option Word) (w : Word) → lead l o ≡ some w → (v : Word) × (o ≡ some v) × (w ≡ l ∷ v)
lead_word l none w e = absurd (none-ne-some w e)
lead_word l (some v) w e = (v, refl, cc)

pub cond_word : (i : Bool) (o : Option Word) (w : Word) → cond i o none ≡ some w → T i × (o ≡ some w)
cond_word true o w e = (tt, e)
cond_word false o w e = absurd (none-ne-some w e)

-- What a letter adds to a key.
pub key_letter : (κ : Costs) (l : ℕ) (w : Word) → T (some_left w) → key κ (l ∷ w) ≡ κ.letter l + key κ w
unfolding key some_left
key_letter κ l [] h = absurd h
key_letter κ l (x ∷ w) h = refl

module _ (κ : Costs) where
  earlier_letter : (l : ℕ) (x : Word) (o : Option Word) → T (some_left x) → ((w : Word) → o ≡ some w → T (some_left w))
      → earlier (key κ) (some (l ∷ x)) (lead l o) ≡ lead l (earlier (key κ) (some x) o)
  unfolding earlier
  earlier_letter l x none hx ho = refl
  earlier_letter l x (some y) hx ho = rw (key_letter κ l x hx, key_letter κ l y (ho y refl)) (go (leb (key κ x) (key κ y)) refl)
    where
      go :
          (b : Bool)
          → leb (key κ x) (key κ y) ≡ b
          → cond (leb (κ.letter l + key κ x) (κ.letter l + key κ y)) (some (l ∷ x)) (some (l ∷ y))
          ≡ lead l (cond b (some x) (some y))
      go true e = rw (le-leb (κ.letter l + key κ x) (κ.letter l + key κ y) (omega (arith, leb-true)))
      go false e = rw (lt-leb (κ.letter l + key κ x) (κ.letter l + key κ y) (omega (arith, leb-false)))

  -- A letter before every word of a list goes before the best.
  best_under : (l : ℕ) (ws : List Word) → Full ws → least (key κ) (under l ws) ≡ lead l (least (key κ) ws)
  unfolding under least
  best_under l [] h = refl
  best_under l (x ∷ ws) h =
      rw (best_under l ws (λ (w : Word) (k : Memᴰ w ws). h w (Memᴰ.tail k)))
      (earlier_letter l x (least (key κ) ws) (h x (Memᴰ.head refl)) (λ w e. h w (Memᴰ.tail (least_member (key κ) ws w e))))

-- ---- the words that pass

-- What passes is listed.
pub keep_member : (t : Word → Bool) (ws : List Word) (w : Word) → Memᴰ w (keep t ws) → Memᴰ w ws
unfolding keep
keep_member t [] w k = k
keep_member t (x ∷ ws) w k = go (t x) k (keep_member t ws w)
  where
    go : (b : Bool) → Memᴰ w (cond b (x ∷ keep t ws) (keep t ws)) → (Memᴰ w (keep t ws) → Memᴰ w ws)
        → Memᴰ w (x ∷ ws)
    go true k h =
        ⊎_elim (λ (e : w ≡ x). Memᴰ.head e) (λ (i : Memᴰ w (keep t ws)). Memᴰ.tail (h i)) (Memᴰ.cases_cons k)
    go false k h = Memᴰ.tail (h k)

pub passing_listed : (τ : Test) (s : τ.State) (f : Bool) (m : ℕ) (w : Word) → Memᴰ w (passing τ s f m) → Memᴰ w (words_at f m)
unfolding passing
passing_listed τ s f m w k = keep_member (τ.passes s) (words_at f m) w k

module _ {τ : Test} (carried : Carried τ) where
  keep_letter : (s : τ.State) (l : ℕ) (ws : List Word) → Full ws
      → keep (τ.passes s) (under l ws) ≡ under l (keep (τ.passes (τ.after l s)) ws)
  unfolding under keep
  keep_letter s l [] h = refl
  keep_letter s l (x ∷ ws) h =
      rw (
        carried.by_letter s l x (h x (Memᴰ.head refl)),
        keep_letter s l ws (λ (w : Word) (k : Memᴰ w ws). h w (Memᴰ.tail k)),
      )
      (go (τ.passes (τ.after l s) x))
    where
      rest : List Word
      rest = keep (τ.passes (τ.after l s)) ws

      go : (b : Bool) → cond b ((l ∷ x) ∷ under l rest) (under l rest) ≡ under l (cond b (x ∷ rest) rest)
      go true = refl
      go false = refl

  keep_kept : (b : Bool) (s : τ.State) (l : ℕ) (ws : List Word) → (T b → Full ws)
      → keep (τ.passes s) (under l (kept b ws)) ≡ cond b (under l (keep (τ.passes (τ.after l s)) ws)) []
  unfolding under kept keep
  keep_kept true s l ws h = keep_letter s l ws (h tt)
  keep_kept false s l ws h = refl

  -- The words that pass: those that begin with a rise of a, then those that begin with a rise of b.
  pub passing_step : (s : τ.State) (f : Bool) (m : ℕ) → 2 ≤ m
      → passing τ s f m
      ≡ under (m % 2) (passing τ (τ.after (m % 2) s) false (m / 2))
      ++ cond (rises f (m % 3)) (under (2 + m % 3) (passing τ (τ.after (2 + m % 3) s) true (m / 3))) []
  unfolding passing branches
  passing_step s f m h =
      rw (
        words_step f m (omega arith),
        keep_append (τ.passes s)
            (under (m % 2) (words_at false (m / 2)))
            (under (2 + m % 3) (kept (rises f (m % 3)) (words_at true (m / 3)))),
        keep_letter s (m % 2) (words_at false (m / 2)) (full_words false (m / 2) (omega arith)),
        keep_kept (rises f (m % 3)) s (2 + m % 3) (words_at true (m / 3)) (λ t. full_words true (m / 3) (third_left f m h t)),
      )

  -- ---- how many pass

  pub how_many_step : (s : τ.State) (f : Bool) (m : ℕ) → 2 ≤ m
      → length (passing τ s f m)
      ≡ length (passing τ (τ.after (m % 2) s) false (m / 2))
      + cond (rises f (m % 3)) (length (passing τ (τ.after (2 + m % 3) s) true (m / 3))) 0
  unfolding under
  how_many_step s f m h =
      rw (passing_step s f m h, length-append, length-map)
      (ap (λ (x : ℕ). length (passing τ (τ.after (m % 2) s) false (m / 2)) + x) (go (rises f (m % 3))))
    where
      ws : List Word
      ws = passing τ (τ.after (2 + m % 3) s) true (m / 3)

      go : (b : Bool) → length (cond b (under (2 + m % 3) ws) []) ≡ cond b (length ws) 0
      go true = simp length-map
      go false = refl

  -- ---- the best of those that pass

  module _ (κ : Costs) where
    -- What the best word tells.
    pub best_on_found : (s : τ.State) (f : Bool) (m : ℕ) → Found (τ.passes s) (key κ) (words_at f m) (best_on τ κ s f m)
    unfolding best_on passing
    best_on_found s f m = least_found (τ.passes s) (key κ) (words_at f m)

    pub best_on_full : (s : τ.State) (f : Bool) (m : ℕ) (w : Word) → 0 < m → best_on τ κ s f m ≡ some w → T (some_left w)
    best_on_full s f m w h e = full_words f m h w (first_member (τ.passes s) (key κ) (rw e at (best_on_found s f m)))

    -- The best of those that begin with a rise of a, and of those that begin with a rise of b.
    abbrev pub on_a : τ.State → ℕ → Option Word
    on_a s m = lead (m % 2) (best_on τ κ (τ.after (m % 2) s) false (m / 2))

    abbrev pub on_b : τ.State → Bool → ℕ → Option Word
    on_b s f m = cond (rises f (m % 3)) (lead (2 + m % 3) (best_on τ κ (τ.after (2 + m % 3) s) true (m / 3))) none

    -- Of the best that begins with a rise of a and the best that begins with a rise of b, the one of smaller key, the first where they
    -- are equal.
    pub best_on_step : (s : τ.State) (f : Bool) (m : ℕ) → 2 ≤ m → best_on τ κ s f m ≡ earlier (key κ) (on_a s m) (on_b s f m)
    unfolding best_on least
    best_on_step s f m h =
        rw (
          passing_step s f m h,
          least_append (key κ),
          best_under κ (m % 2) (passing τ (τ.after (m % 2) s) false (m / 2)) (full (τ.after (m % 2) s) false (m / 2) (omega arith)),
        )
        (ap (earlier (key κ) (on_a s m)) (go (rises f (m % 3)) (third_left f m h)))
      where
        full : (s : τ.State) (f : Bool) (m : ℕ) → 0 < m → Full (passing τ s f m)
        full s f m h w k = full_words f m h w (passing_listed τ s f m w k)

        s' : τ.State
        s' = τ.after (2 + m % 3) s

        go : (b : Bool) → (T b → 0 < m / 3)
            → least (key κ) (cond b (under (2 + m % 3) (passing τ s' true (m / 3))) [])
            ≡ cond b (lead (2 + m % 3) (least (key κ) (passing τ s' true (m / 3)))) none
        go true t = best_under κ (2 + m % 3) (passing τ s' true (m / 3)) (full s' true (m / 3) (t tt))
        go false t = refl

    -- At a rest of 1 there is one word.
    pub best_on_one : (s : τ.State) (f : Bool) → best_on τ κ s f 1 ≡ cond (τ.passes s (3 ∷ [])) (some (3 ∷ [])) none
    unfolding best_on passing words_at words_in at_rest by_third keep least earlier
    best_on_one s f = go (τ.passes s (3 ∷ []))
      where
        go : (b : Bool) → least (key κ) (cond b ((3 ∷ []) ∷ []) []) ≡ cond b (some (3 ∷ [])) none
        go true = refl
        go false = refl

    -- Where no word passes there is none.
    pub best_on_none : (s : τ.State) (f : Bool) (m : ℕ) → 0 < m → ((w : Word) → T (some_left w) → T (τ.passes s w) → ⊥)
        → best_on τ κ s f m ≡ none
    best_on_none s f m h n = go (best_on τ κ s f m) refl
      where
        go : (o : Option Word) → best_on τ κ s f m ≡ o → o ≡ none
        go none e = refl
        go (some w) e =
            let r : FirstLeast (τ.passes s) (key κ) (words_at f m) w = rw e at (best_on_found s f m) in
            absurd (n w (best_on_full s f m w h e) r.passes)

-- ---- the least key

module _ (big : ℕ) (κ : Costs) where
  key_or_earlier : (x y : Option Word) → key_or big κ (earlier (key κ) x y) ≡ min (key_or big κ x) (key_or big κ y)
  unfolding key_or earlier
  key_or_earlier none none = omega arith
  key_or_earlier none (some v) = omega arith
  key_or_earlier (some u) none = omega arith
  key_or_earlier (some u) (some v) = go (leb (key κ u) (key κ v)) refl
    where
      go :
          (b : Bool)
          → leb (key κ u) (key κ v) ≡ b
          → key_or big κ (cond b (some u) (some v)) ≡ min (min big (key κ u)) (min big (key κ v))
      go true e = omega (arith, leb-true)
      go false e = omega (arith, leb-false)

  -- The numbers tell which of two words is chosen.
  earlier_left : (x y : Option Word) → key_or big κ x ≤ key_or big κ y → key_or big κ x < big → earlier (key κ) x y ≡ x
  unfolding key_or earlier
  earlier_left none y h k = absurd (omega arith)
  earlier_left (some u) none h k = refl
  earlier_left (some u) (some v) h k = rw (le-leb (key κ u) (key κ v) (omega arith))

  earlier_right : (x y : Option Word) → key_or big κ y < key_or big κ x → earlier (key κ) x y ≡ y
  unfolding key_or earlier
  earlier_right none y h = refl
  earlier_right (some u) none h = absurd (omega arith)
  earlier_right (some u) (some v) h = rw (lt-leb (key κ u) (key κ v) (omega arith))

module _ {τ : Test} (carried : Carried τ) (big : ℕ) (κ : Costs) where
  -- The keys of the two branches.
  abbrev pub key_on_a : τ.State → ℕ → ℕ
  key_on_a s m = κ.letter (m % 2) + least_on τ big κ (τ.after (m % 2) s) false (m / 2)

  abbrev pub key_on_b : τ.State → Bool → ℕ → ℕ
  key_on_b s f m = cond (rises f (m % 3)) (κ.letter (2 + m % 3) + least_on τ big κ (τ.after (2 + m % 3) s) true (m / 3)) big

  key_or_lead : (l : ℕ) (s : τ.State) (f : Bool) (m : ℕ) → 0 < m
      → key_or big κ (lead l (best_on τ κ s f m)) ≡ min big (κ.letter l + least_on τ big κ s f m)
  unfolding least_on key_or
  key_or_lead l s f m h = go (best_on τ κ s f m) (best_on_full carried κ s f m)
    where
      go : (o : Option Word) → ((w : Word) → 0 < m → o ≡ some w → T (some_left w))
          → key_or big κ (lead l o) ≡ min big (κ.letter l + key_or big κ o)
      go none t = omega arith
      go (some w) t = omega (arith, key_letter κ l w (t w h refl))

  -- The least key and those of the two branches.
  record BranchKeys (s : τ.State) (f : Bool) (m : ℕ) : Type 0 where
    for_a : key_or big κ (on_a carried κ s m) ≡ min big (key_on_a s m)
    for_b : key_or big κ (on_b carried κ s f m) ≡ min big (key_on_b s f m)
    for_both : least_on τ big κ s f m ≡ min (key_or big κ (on_a carried κ s m)) (key_or big κ (on_b carried κ s f m))

  branch_keys : (s : τ.State) (f : Bool) (m : ℕ) → 2 ≤ m → BranchKeys s f m
  unfolding least_on key_or
  branch_keys s f m h =
      record {
        for_a = key_or_lead (m % 2) (τ.after (m % 2) s) false (m / 2) (omega arith);
        for_b = go (rises f (m % 3)) (third_left f m h);
        for_both =
            ap (key_or big κ) (best_on_step carried κ s f m h) ∙ key_or_earlier big κ (on_a carried κ s m) (on_b carried κ s f m);
      }
    where
      s' : τ.State
      s' = τ.after (2 + m % 3) s

      go : (b : Bool) → (T b → 0 < m / 3)
          → key_or big κ (cond b (lead (2 + m % 3) (best_on τ κ s' true (m / 3))) none)
          ≡ min big (cond b (κ.letter (2 + m % 3) + least_on τ big κ s' true (m / 3)) big)
      go true t = key_or_lead (2 + m % 3) s' true (m / 3) (t tt)
      go false t = omega arith

  pub least_on_step : (s : τ.State) (f : Bool) (m : ℕ) → 2 ≤ m → least_on τ big κ s f m ≡ min big (min (key_on_a s m) (key_on_b s f m))
  least_on_step s f m h = let k = branch_keys s f m h in omega arith

  -- A walk takes the rise of a where that keeps the least key, else the rise of b.
  pub take_a_on : (s : τ.State) (f : Bool) (m : ℕ) → 2 ≤ m → least_on τ big κ s f m < big → key_on_a s m ≡ least_on τ big κ s f m
      → best_on τ κ s f m ≡ on_a carried κ s m
  take_a_on s f m h b e =
      let k = branch_keys s f m h in
      best_on_step carried κ s f m h ∙ earlier_left big κ (on_a carried κ s m) (on_b carried κ s f m) (omega arith) (omega arith)

  pub take_b_on : (s : τ.State) (f : Bool) (m : ℕ) → 2 ≤ m → least_on τ big κ s f m < big → key_on_a s m ≢ least_on τ big κ s f m
      → best_on τ κ s f m ≡ on_b carried κ s f m
  take_b_on s f m h b e =
      let k = branch_keys s f m h in
      best_on_step carried κ s f m h ∙ earlier_right big κ (on_a carried κ s m) (on_b carried κ s f m) (omega arith)

  pub least_on_one : (s : τ.State) (f : Bool) → least_on τ big κ s f 1 ≡ cond (τ.passes s (3 ∷ [])) (min big κ.last) big
  unfolding least_on key_or key
  least_on_one s f = rw (best_on_one carried κ s f) (go (τ.passes s (3 ∷ [])))
    where
      go : (b : Bool) → key_or big κ (cond b (some (3 ∷ [])) none) ≡ cond b (min big κ.last) big
      go true = refl
      go false = refl

  pub least_on_none : (s : τ.State) (f : Bool) (m : ℕ) → 0 < m → ((w : Word) → T (some_left w) → T (τ.passes s w) → ⊥)
      → least_on τ big κ s f m ≡ big
  unfolding least_on key_or
  least_on_none s f m h n = rw (best_on_none carried κ s f m h n)

  pub least_on_at_most : (s : τ.State) (f : Bool) (m : ℕ) → least_on τ big κ s f m ≤ big
  unfolding least_on key_or
  least_on_at_most s f m = go (best_on τ κ s f m)
    where
      go : (o : Option Word) → key_or big κ o ≤ big
      go none = omega arith
      go (some w) = omega arith

  -- A least key below `big` is that of the best word.
  pub least_on_told : (s : τ.State) (f : Bool) (m : ℕ) → least_on τ big κ s f m < big
      → (w : Word) × (best_on τ κ s f m ≡ some w) × (key κ w ≡ least_on τ big κ s f m)
  unfolding least_on key_or
  least_on_told s f m h = go (best_on τ κ s f m) refl h
    where
      go : (o : Option Word) → best_on τ κ s f m ≡ o → key_or big κ o < big
          → (w : Word) × (best_on τ κ s f m ≡ some w) × (key κ w ≡ key_or big κ (best_on τ κ s f m))
      go none e h = absurd (omega arith)
      go (some w) e h = (w, e, rw e (omega arith))
