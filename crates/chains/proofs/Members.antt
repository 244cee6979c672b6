-- What the list of n holds, and that it ascends.
-- In order: the step law with both rises written as a letter before each word of a list (`words_step`); which words the list at a
-- rest holds (`member_words`), for both readers, and so what the list of n holds (`list_holds`); that it ascends (`list_ascends`).
-- Positions in the list are in Positions.
use Rattle.std.specs.Prelude.{◌≡◌, refl, ◌↔◌, ◌⊎◌, Bool, true, false, ◌&&◌, ℕ, zero, suc, ◌+◌, ◌/◌, ◌%◌, ◌<◌, T, length, get_or}
use Rattle.std.proofs.Common.{ap, ◌∙◌, inl, inr, ⊎_elim, arith}
use Rattle.std.proofs.Math.Logic.Iff
use mathlib.Core.List.Memᴰ
use mathlib.Core.List.{List, [], ◌∷◌, ◌++◌, map, Memᴰ}
use Rattle.std.specs.Float.Ieee.Fits.{and_i, and_l, and_r}
use Rattle.chains.specs.Chains.{total}
use Rattle.chains.specs.Words.{Word, Good, some_left, reads, chain_of}
use Rattle.chains.specs.Listing.{before, by_third, at_rest, words_in, words_at, list_of, count}
use Rattle.chains.proofs.Steps.{by_rest, words_at_step}
use Rattle.chains.proofs.Readers.{readers_good}
use Rattle.chains.proofs.Weight.{weight, total_chain_of}
use Rattle.chains.proofs.Order.{before_cons}

-- ---- the step law

-- The words of s, each with the letter l before it.
unfoldable pub under : ℕ → List Word → List Word
under l s = map (λ (w : Word). l ∷ w) s

-- Whether the reader f lets b rise where r is the rest's remainder by three.
unfoldable pub rises : Bool → ℕ → Bool
rises f zero = f
rises f (suc zero) = true
rises f (suc (suc r)) = false

-- The words of t where a test passes, and none where it fails.
unfoldable pub kept : Bool → List Word → List Word
kept true t = t
kept false t = []

by_third_under : (f : Bool) (r : ℕ) (t : List Word) → by_third f r t ≡ under (2 + r) (kept (rises f r) t)
unfolding by_third rises kept under
by_third_under true zero t = refl
by_third_under false zero t = refl
by_third_under f (suc zero) t = refl
by_third_under f (suc (suc r)) t = refl

-- The words of two branches: those that begin with x, then, where a test passes, those that begin with y.
unfoldable pub branches : ℕ → ℕ → Bool → List Word → List Word → List Word
branches x y b h t = under x h ++ under y (kept b t)

-- The step law, in these terms.
pub words_step :
    (f : Bool) (m : ℕ)
    → 0 < m
    → words_at f m ≡ branches (m % 2) (2 + m % 3) (rises f (m % 3)) (words_at false (m / 2)) (words_at true (m / 3))
unfolding at_rest branches under
words_step f zero h = absurd (omega arith)
words_step f (suc m) h =
    words_at_step f (suc m)
    ∙ ap (λ (t : List Word). under (suc m % 2) (words_at false (suc m / 2)) ++ t)
    (by_third_under f (suc m % 3) (words_at true (suc m / 3)))

-- ---- membership

-- The first letter l is x and what follows is in H, or it is y, the test passes, and what follows is in R.
unfoldable pub Begins : ℕ → ℕ → ℕ → Bool → Type 0 → Type 0 → Type 0
Begins l x y b H R = ((l ≡ x) × H) ⊎ ((l ≡ y) × T b × R)

begins_map : {H R H' R' : Type 0} (l x y : ℕ) (b : Bool) → H ↔ H' → R ↔ R' → Begins l x y b H R ↔ Begins l x y b H' R'
unfolding Begins
begins_map l x y b h r = (over h.0 r.0, over h.1 r.1)
  where
    over : {X Y X' Y' : Type 0} → (X → X') → (Y → Y') → Begins l x y b X Y → Begins l x y b X' Y'
    over p q (inl o) = inl (o.0, p o.1)
    over p q (inr o) = inr (o.0, o.1, q o.2)

member_under : (x l : ℕ) (w : Word) (s : List Word) → Memᴰ (x ∷ w) (under l s) ↔ ((x ≡ l) × Memᴰ w s)
unfolding under
member_under x l w s = (down, λ o. Memᴰ.cast (ap (λ (y : ℕ). y ∷ w) o.0) (Memᴰ.map (λ (v : Word). l ∷ v) o.1))
  where
    down : Memᴰ (x ∷ w) (under l s) → (x ≡ l) × Memᴰ w s
    down i =
        let o = Memᴰ.of_map (λ (v : Word). l ∷ v) s i in
        let e : l ∷ o.0 ≡ x ∷ w = o.2 in
        (cc, Memᴰ.cast (cc) o.1)

pub member_kept : (b : Bool) (w : Word) (t : List Word) → Memᴰ w (kept b t) ↔ (T b × Memᴰ w t)
unfolding kept
member_kept true w t = (λ i. (tt, i), λ i. i.1)
member_kept false w t = (λ i. absurd (Memᴰ.not-nil i), λ i. absurd i.0)

-- The words of two branches by their first letter.
pub member_branches :
    (x y : ℕ) (b : Bool) (h t : List Word) (l : ℕ) (w : Word)
    → Memᴰ (l ∷ w) (branches x y b h t) ↔ Begins l x y b (Memᴰ w h) (Memᴰ w t)
unfolding branches Begins
member_branches x y b h t l w = (λ i. down (Memᴰ.append_cases (under x h) i), up)
  where
    down :
        Memᴰ (l ∷ w) (under x h) ⊎ Memᴰ (l ∷ w) (under y (kept b t))
        → Begins l x y b (Memᴰ w h) (Memᴰ w t)
    down (inl i) = inl ((member_under l x w h).0 i)
    down (inr i) =
        let o = (member_under l y w (kept b t)).0 i in
        let k = (member_kept b w t).0 o.1 in
        inr (o.0, k.0, k.1)

    up : Begins l x y b (Memᴰ w h) (Memᴰ w t) → Memᴰ (l ∷ w) (branches x y b h t)
    up (inl o) = Memᴰ.append_left (under y (kept b t)) ((member_under l x w h).1 o)
    up (inr o) = Memᴰ.append_right (under x h) ((member_under l y w (kept b t)).1 (o.0, (member_kept b w t).1 (o.1, o.2)))

empty_branches : (x y : ℕ) (b : Bool) (h t : List Word) → Memᴰ [] (branches x y b h t) → ⊥
unfolding branches under
empty_branches x y b h t i = ⊎_elim (none x h) (none y (kept b t)) (Memᴰ.append_cases (under x h) i)
  where
    none : (l : ℕ) (s : List Word) → Memᴰ [] (under l s) → ⊥
    none l s j = omega (arith, ap length (Memᴰ.of_map (λ (v : Word). l ∷ v) s j).2)

some_left_lem : (w : Word) → 0 < weight w → T (some_left w)
unfolding weight some_left
some_left_lem [] h = absurd (omega arith)
some_left_lem (l ∷ w) h = tt

-- w is a word that the reader f takes and that stands for m.
abbrev Stands : Bool → ℕ → Word → Type 0
Stands f m w = T (reads f w) × (weight w ≡ m)

-- l begins a word at the rest m, and w follows.
abbrev StandsBy : Bool → ℕ → ℕ → Word → Type 0
StandsBy f m l w = Begins l (m % 2) (2 + m % 3) (rises f (m % 3)) (Stands false (m / 2) w) (Stands true (m / 3) w)

-- The words that stand for a number, by their first letter.
stands_cons : (f : Bool) (m l : ℕ) (w : Word) → 0 < m → StandsBy f m l w ↔ Stands f m (l ∷ w)
unfolding reads weight rises Begins
stands_cons f m l w h = (up, down l)
  where
    half : (r : ℕ) → m % 2 ≡ r → Stands false (m / 2) w → Stands f m (r ∷ w)
    half zero e s = (s.0, omega arith)
    half (suc zero) e s = (s.0, omega arith)
    half (suc (suc r)) e s = absurd (omega arith)

    third : (r : ℕ) → m % 3 ≡ r → T (rises f r) → Stands true (m / 3) w → Stands f m ((2 + r) ∷ w)
    third zero e t s =
        let on = and_i (some_left w) (reads true w) (some_left_lem w (omega arith)) s.0 in
        (and_i f (some_left w && reads true w) t on, omega arith)
    third (suc zero) e t s = (s.0, omega arith)
    third (suc (suc r)) e t s = absurd t

    up : StandsBy f m l w → Stands f m (l ∷ w)
    up (inl o) = rw o.0 (half (m % 2) refl o.1)
    up (inr o) = rw o.0 (third (m % 3) refl o.1 o.2)

    down : (x : ℕ) → Stands f m (x ∷ w) → StandsBy f m x w
    down zero s = inl (omega arith, (s.0, omega arith))
    down (suc zero) s = inl (omega arith, (s.0, omega arith))
    down (suc (suc zero)) s =
        let on = and_r f (some_left w && reads true w) s.0 in
        let e : m % 3 ≡ 0 = omega arith in
        inr (omega arith, rw e (and_l f (some_left w && reads true w) s.0), (and_r (some_left w) (reads true w) on, omega arith))
    down (suc (suc (suc zero))) s = let e : m % 3 ≡ 1 = omega arith in inr (omega arith, rw e tt, (s.0, omega arith))
    down (suc (suc (suc (suc x)))) s = absurd s.0

-- Only the empty word stands for 0, and only the first reader takes it.
stands_zero : (w : Word) (f : Bool) → Stands f 0 w → T f × (w ≡ [])
unfolding reads weight some_left
stands_zero [] f s = (s.0, refl)
stands_zero (zero ∷ w) f s = absurd (stands_zero w false (s.0, omega arith)).0
stands_zero (suc zero ∷ w) f s = absurd (omega arith)
stands_zero (suc (suc zero) ∷ w) f s =
    let on = and_r f (some_left w && reads true w) s.0 in
    let e = (stands_zero w true (and_r (some_left w) (reads true w) on, omega arith)).1 in
    absurd (rw e at (and_l (some_left w) (reads true w) on))
stands_zero (suc (suc (suc zero)) ∷ w) f s = absurd (omega arith)
stands_zero (suc (suc (suc (suc x))) ∷ w) f s = absurd s.0

-- The list at the rest m holds what it should, for both readers.
abbrev Holds : ℕ → Type 0
Holds m = (f : Bool) (w : Word) → Memᴰ w (words_at f m) ↔ Stands f m w

holds_zero : Holds 0
unfolding words_at words_in at_rest reads weight
holds_zero true w = (λ i. rw (Memᴰ.eq_of_singleton i) (tt, refl), λ s. Memᴰ.head (stands_zero w true s).1)
holds_zero false w = (λ i. absurd (Memᴰ.not-nil i), λ s. absurd (stands_zero w false s).0)

holds_more : (m : ℕ) → 0 < m → Holds (m / 2) → Holds (m / 3) → Holds m
unfolding weight
holds_more m h half third f [] = (rw (words_step f m h) (λ i. absurd (empty_branches _ _ _ _ _ i)), λ s. absurd (omega arith))
holds_more m h half third f (l ∷ w) =
    rw (words_step f m h)
    (Iff.trans (member_branches _ _ _ _ _ l w)
    (Iff.trans (begins_map l _ _ _ (half false w) (third true w)) (stands_cons f m l w h)))

-- The list at the rest m holds the words that the reader f takes and that stand for m.
pub member_words : (f : Bool) (m : ℕ) (w : Word) → Memᴰ w (words_at f m) ↔ (T (reads f w) × (weight w ≡ m))
member_words f m w = by_rest Holds holds_zero holds_more m f w

-- The list of n holds the good words whose chains sum to n.
pub list_holds : (n : ℕ) (w : Word) → Memᴰ w (list_of n) ↔ (Good w × (total (chain_of w) ≡ n))
unfolding list_of
list_holds n w = rw (total_chain_of w) (Iff.trans (member_words true n w) (Iff.and (readers_good w) Iff.rfl))

-- ---- the list ascends

-- Each word stands before all later ones.
unfoldable pub Ascends : List Word → Type 0
Ascends [] = Unit {0}
Ascends (u ∷ l) = ((v : Word) → Memᴰ v l → T (before u v)) × Ascends l

-- u stands before all words of `under l s` if it stands before each word of s with l before it.
pub before_under :
    (u : Word) (l : ℕ) (s : List Word)
    → ((v : Word) → Memᴰ v s → T (before u (l ∷ v)))
    → (v : Word)
    → Memᴰ v (under l s)
    → T (before u v)
unfolding under
before_under u l s h v i = let o = Memᴰ.of_map (λ (w : Word). l ∷ w) s i in rw o.2 at (h o.0 o.1)

ascends_under : (l : ℕ) (s : List Word) → Ascends s → Ascends (under l s)
unfolding Ascends under
ascends_under l [] a = tt
ascends_under l (u ∷ s) a =
    (before_under (l ∷ u) l s (λ v i. (before_cons l l u v).1 (inr (refl, a.0 v i))), ascends_under l s a.1)

ascends_kept : (b : Bool) (t : List Word) → Ascends t → Ascends (kept b t)
unfolding Ascends kept
ascends_kept true t a = a
ascends_kept false t a = tt

-- The letters of the two branches decide between a word of the first and one of the second.
ascends_branches : (x y : ℕ) (b : Bool) (h t : List Word) → x < y → Ascends h → Ascends t → Ascends (branches x y b h t)
unfolding Ascends under branches
ascends_branches x y b [] t o a c = ascends_under y (kept b t) (ascends_kept b t c)
ascends_branches x y b (u ∷ h) t o a c = (
  λ v i. ⊎_elim
      (before_under (x ∷ u) x h (λ w j. (before_cons x x u w).1 (inr (refl, a.0 w j))) v)
      (before_under (x ∷ u) y (kept b t) (λ w j. (before_cons x y u w).1 (inl o)) v)
      (Memᴰ.append_cases (under x h) i),
  ascends_branches x y b h t o a.1 c,
)

ascends_zero : (f : Bool) → Ascends (words_at f 0)
unfolding words_at words_in at_rest Ascends
ascends_zero true = (λ v i. absurd (Memᴰ.not-nil i), tt)
ascends_zero false = tt

-- The list at a rest ascends, for both readers.
pub words_ascend : (f : Bool) (m : ℕ) → Ascends (words_at f m)
words_ascend f m =
    by_rest (λ (k : ℕ). (g : Bool) → Ascends (words_at g k)) ascends_zero
    (λ k h half third g. rw (words_step g k h) (ascends_branches _ _ _ _ _ (omega arith) (half false) (third true)))
    m f

pub get_or_member : (l : List Word) (i : ℕ) → i < length l → Memᴰ (get_or l i []) l
get_or_member [] i h = absurd (omega arith)
get_or_member (u ∷ l) zero h = Memᴰ.head refl
get_or_member (u ∷ l) (suc i) h = Memᴰ.tail (get_or_member l i (omega arith))

ascends_at : (l : List Word) → Ascends l → (i j : ℕ) → i < j → j < length l → T (before (get_or l i []) (get_or l j []))
unfolding Ascends
ascends_at [] a i j h k = absurd (omega arith)
ascends_at (u ∷ l) a i zero h k = absurd (omega arith)
ascends_at (u ∷ l) a zero (suc j) h k = a.0 (get_or l j []) (get_or_member l j (omega arith))
ascends_at (u ∷ l) a (suc i) (suc j) h k = ascends_at l a.1 i j (omega arith) (omega arith)

-- The list of n ascends: of two words the one at the lower index stands before the other.
pub list_ascends : (n i j : ℕ) → i < j → j < count n → T (before (get_or (list_of n) i []) (get_or (list_of n) j []))
unfolding list_of count
list_ascends n i j h k = ascends_at (words_at true n) (words_ascend true n) i j h k
