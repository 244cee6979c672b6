-- The first of the words of least key in a list, over any key and any test.
--
-- In this order: the choice of two words; the words of a list that pass a test; what the least of them tells (`least_found`, with
-- `FirstLeast`).
use Rattle.std.specs.Prelude.{◌≡◌, Bool, ℕ, ◌≤◌, ◌<◌}
use Rattle.std.proofs.Math.Path.{refl, sym, ap, subst}
use Rattle.std.proofs.Common.{◌∙◌, ⊎_elim, arith}
use Rattle.std.proofs.Math.Bool.{true, false, cond}
use mathlib.Core.List.Memᴰ
use mathlib.Core.List.{List, [], ◌∷◌, ◌++◌, Memᴰ}
use Rattle.std.proofs.Math.Option.{Option, none, some, none-ne-some}
use Rattle.std.proofs.Math.Dec.{T, leb}
use borrow.Author.Tests.{leb-true, leb-false, le-leb, lt-leb}
use Rattle.chains.specs.Words.{Word}
use Rattle.chains.specs.Listing.{keep}
use Rattle.chains.specs.Keys.{earlier, least}

-- ---- the choice of two words

module _ (g : Word → ℕ) where
  earlier_none : (x : Option Word) → earlier g x none ≡ x
  unfolding earlier
  earlier_none none = refl
  earlier_none (some u) = refl

  earlier_assoc : (x y z : Option Word) → earlier g (earlier g x y) z ≡ earlier g x (earlier g y z)
  unfolding earlier
  earlier_assoc none y z = refl
  earlier_assoc (some u) none z = refl
  earlier_assoc (some u) (some v) none = earlier_none (earlier g (some u) (some v))
  earlier_assoc (some u) (some v) (some w) = go (leb (g u) (g v)) refl (leb (g v) (g w)) refl
    where
      go : (i : Bool) → leb (g u) (g v) ≡ i → (j : Bool) → leb (g v) (g w) ≡ j
          → earlier g (cond i (some u) (some v)) (some w) ≡ earlier g (some u) (cond j (some v) (some w))
      go true i true j = rw (i, le-leb (g u) (g w) (omega (arith, leb-true)))
      go true i false j = refl
      go false i true j = rw (i, j)
      go false i false j = rw (j, lt-leb (g u) (g w) (omega (arith, leb-false)))

  -- In a list of two halves the first half wins where the keys are equal.
  pub least_append : (xs ys : List Word) → least g (xs ++ ys) ≡ earlier g (least g xs) (least g ys)
  unfolding least earlier
  least_append [] ys = refl
  least_append (x ∷ xs) ys = ap (earlier g (some x)) (least_append xs ys) ∙ sym (earlier_assoc (some x) (least g xs) (least g ys))

  -- The least is one of the list.
  pub least_member : (ws : List Word) (w : Word) → least g ws ≡ some w → Memᴰ w ws
  unfolding least earlier
  least_member [] w e = absurd (none-ne-some w e)
  least_member (x ∷ ws) w e = go (least g ws) refl e (least_member ws)
    where
      go : (o : Option Word) → least g ws ≡ o → earlier g (some x) o ≡ some w
          → ((v : Word) → least g ws ≡ some v → Memᴰ v ws) → Memᴰ w (x ∷ ws)
      go none q e h = Memᴰ.head (let z : x ≡ w = cc in sym z)
      go (some y) q e h = pick (leb (g x) (g y)) e
        where
          pick : (b : Bool) → cond b (some x) (some y) ≡ some w → Memᴰ w (x ∷ ws)
          pick true e = Memᴰ.head (let z : x ≡ w = cc in sym z)
          pick false e = Memᴰ.tail (h w (q ∙ e))

-- ---- the least of the words that pass a test

pub keep_append : (t : Word → Bool) (xs ys : List Word) → keep t (xs ++ ys) ≡ keep t xs ++ keep t ys
unfolding keep
keep_append t [] ys = refl
keep_append t (x ∷ xs) ys = rw (keep_append t xs ys) (go (t x))
  where
    go : (b : Bool) → cond b (x ∷ keep t xs ++ keep t ys) (keep t xs ++ keep t ys) ≡ cond b (x ∷ keep t xs) (keep t xs) ++ keep t ys
    go true = refl
    go false = refl

-- w is the first word of least key among those of a list that pass: what passes before it has a larger key, what passes after it no
-- smaller one.
pub record FirstLeast (t : Word → Bool) (g : Word → ℕ) (ws : List Word) (w : Word) : Type 0 where
  pub front : List Word
  pub back : List Word
  pub split : ws ≡ front ++ w ∷ back
  pub passes : T (t w)
  pub above : (v : Word) → Memᴰ v front → T (t v) → g w < g v
  pub no_less : (v : Word) → Memᴰ v back → T (t v) → g w ≤ g v

module _ (t : Word → Bool) (g : Word → ℕ) where
  pub first_member : {ws : List Word} {w : Word} → FirstLeast t g ws w → Memᴰ w ws
  first_member {ws} {w} r = rw r.split (Memᴰ.append_right r.front (Memᴰ.head refl))

  pub first_no_less : {ws : List Word} {w : Word} → FirstLeast t g ws w → (v : Word) → Memᴰ v ws → T (t v) → g w ≤ g v
  first_no_less {ws} {w} r v m p =
      ⊎_elim
      (λ (h : Memᴰ v r.front). omega (arith, r.above v h p))
      (λ (h : Memᴰ v (w ∷ r.back)).
      ⊎_elim (λ (e : v ≡ w). omega (arith, ap g e)) (λ (k : Memᴰ v r.back). r.no_less v k p) (Memᴰ.cases_cons h))
      (Memᴰ.append_cases r.front (rw r.split at m))

  -- The head of a list is the first least, or does not count.
  head_first :
      (x : Word) (ws : List Word)
      → T (t x)
      → ((v : Word) → Memᴰ v ws → T (t v) → g x ≤ g v)
      → FirstLeast t g (x ∷ ws) x
  head_first x ws p h =
      record {
        front = [];
        back = ws;
        split = refl;
        passes = p;
        above = λ (v : Word) (m : Memᴰ v []). absurd (Memᴰ.not-nil m);
        no_less = h;
      }

  tail_first : {w : Word} (x : Word) (ws : List Word) → (T (t x) → g w < g x) → FirstLeast t g ws w → FirstLeast t g (x ∷ ws) w
  tail_first {w} x ws h r =
      record {
        front = x ∷ r.front;
        back = r.back;
        split = ap (λ (l : List Word). x ∷ l) r.split;
        passes = r.passes;
        above = λ (v : Word) (m : Memᴰ v (x ∷ r.front)) (p : T (t v)).
            ⊎_elim
            (λ (e : v ≡ x). omega (arith, ap g e, h (rw e at p)))
            (λ (k : Memᴰ v r.front). r.above v k p)
            (Memᴰ.cases_cons m);
        no_less = r.no_less;
      }

  -- What the answer of `least` tells: none, that no word passes; a word, that it is the first least.
  abbrev pub Found : List Word → Option Word → Type 0
  Found ws none = (v : Word) → Memᴰ v ws → T (t v) → ⊥
  Found ws (some w) = FirstLeast t g ws w

  skipped : (x : Word) (ws : List Word) (o : Option Word) → (T (t x) → ⊥) → Found ws o → Found (x ∷ ws) o
  skipped x ws none n h =
      λ (v : Word) (m : Memᴰ v (x ∷ ws)) (p : T (t v)).
      ⊎_elim (λ (e : v ≡ x). n (rw e at p)) (λ (k : Memᴰ v ws). h v k p) (Memᴰ.cases_cons m)
  skipped x ws (some w) n r = tail_first x ws (λ (p : T (t x)). absurd (n p)) r

  chosen : (x : Word) (ws : List Word) (o : Option Word) → T (t x) → Found ws o → Found (x ∷ ws) (earlier g (some x) o)
  unfolding earlier
  chosen x ws none p h = head_first x ws p (λ (v : Word) (m : Memᴰ v ws) (q : T (t v)). absurd (h v m q))
  chosen x ws (some y) p r = go (leb (g x) (g y)) refl
    where
      go : (b : Bool) → leb (g x) (g y) ≡ b → Found (x ∷ ws) (cond b (some x) (some y))
      go true e =
          head_first x ws p (λ (v : Word) (m : Memᴰ v ws) (q : T (t v)). omega (arith, leb-true, first_no_less r v m q))
      go false e = tail_first x ws (λ (q : T (t x)). omega (arith, leb-false)) r

  pub least_found : (ws : List Word) → Found ws (least g (keep t ws))
  unfolding least keep
  least_found [] = λ (v : Word) (m : Memᴰ v []) (p : T (t v)). Memᴰ.not-nil m
  least_found (x ∷ ws) = go (t x) refl (least_found ws)
    where
      go : (b : Bool) → t x ≡ b → Found ws (least g (keep t ws)) → Found (x ∷ ws) (least g (cond b (x ∷ keep t ws) (keep t ws)))
      go true e h = chosen x ws (least g (keep t ws)) (subst T (sym e) tt) h
      go false e h = skipped x ws (least g (keep t ws)) (λ (p : T (t x)). subst T e p) h
