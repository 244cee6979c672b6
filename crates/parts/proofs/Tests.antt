-- A rule tested over a whole list or grid by one computation, and the law that carries a passed test to each entry.
-- In this order: every entry of a list, every number below a bound, ascent, a list that is cut into rows. Nothing here knows the
-- numbers of the part table; its tests are in Numbers.
use Rattle.std.specs.Prelude.{◌≡◌, refl, Bool, true, false, ◌&&◌, List, [], ◌∷◌, ◌++◌, ℕ, zero, suc, ◌+◌, ◌-◌, ◌/◌, ◌%◌, ◌≤◌, ◌<◌, T, ltb, eqb, length, get_or}
use Rattle.std.proofs.Common.{sym, ap, ◌∙◌, ⊎_elim, le_refl, le_of_suc-le-suc, not-suc-le-zero, eq-or-lt_of_le, arith, ltb→lt, eqb→eq, get_or-append-add, lt-ltb, le-ltb, ltb-true, ltb-false}
use Rattle.std.specs.Float.Ieee.Fits.{and_l, and_r}
use Rattle.std.proofs.Math.ListN.{get_or-append}
use Rattle.chains.specs.Listing.{one_if}
use Rattle.parts.specs.Table.{joined}
use Rattle.parts.specs.Parts.{smaller}

-- ---- every entry of a list

unfoldable pub each : {A : Type 0} → (A → Bool) → List A → Bool
each f [] = true
each f (x ∷ xs) = f x && each f xs

pub at_each : (f : ℕ → Bool) (xs : List ℕ) → T (each f xs) → (i : ℕ) → i < length xs → T (f (get_or xs i 0))
unfolding each
at_each f [] t i h = absurd (not-suc-le-zero h)
at_each f (x ∷ xs) t zero h = and_l (f x) (each f xs) t
at_each f (x ∷ xs) t (suc i) h = at_each f xs (and_r (f x) (each f xs) t) i (le_of_suc-le-suc h)

-- ---- every number below a bound

unfoldable pub below : ℕ → (ℕ → Bool) → Bool
below zero f = true
below (suc n) f = f n && below n f

pub at_below : (n : ℕ) (f : ℕ → Bool) → T (below n f) → (i : ℕ) → i < n → T (f i)
unfolding below
at_below zero f t i h = absurd (not-suc-le-zero h)
at_below (suc n) f t i h =
    ⊎_elim
    (λ (e : i ≡ n). rw e (and_l (f n) (below n f) t))
    (λ (l : i < n). at_below n f (and_r (f n) (below n f) t) i l)
    (eq-or-lt_of_le (le_of_suc-le-suc h))

-- ---- ascent

-- The first entry is above x, and each other one above the one before it.
unfoldable pub ascending : ℕ → List ℕ → Bool
ascending x [] = true
ascending x (y ∷ ys) = ltb x y && ascending y ys

ascending_tail : (x y : ℕ) (ys : List ℕ) → T (ascending x (y ∷ ys)) → (x < y) × T (ascending y ys)
unfolding ascending
ascending_tail x y ys t = (ltb→lt x y (and_l (ltb x y) (ascending y ys) t), and_r (ltb x y) (ascending y ys) t)

ascending_above : (x : ℕ) (ys : List ℕ) → T (ascending x ys) → (i : ℕ) → i < length ys → x < get_or ys i 0
ascending_above x [] t i h = absurd (not-suc-le-zero h)
ascending_above x (y ∷ ys) t zero h = (ascending_tail x y ys t).0
ascending_above x (y ∷ ys) t (suc i) h =
    let tail = ascending_tail x y ys t in
    omega (arith, tail.0, ascending_above y ys tail.1 i (le_of_suc-le-suc h))

pub ascending_pair : (x : ℕ) (ys : List ℕ) → T (ascending x ys) → (i j : ℕ) → i < j → j < length ys → get_or ys i 0 < get_or ys j 0
ascending_pair x [] t i j l h = absurd (not-suc-le-zero h)
ascending_pair x (y ∷ ys) t i zero l h = absurd (not-suc-le-zero l)
ascending_pair x (y ∷ ys) t zero (suc j) l h = ascending_above y ys (ascending_tail x y ys t).1 j (le_of_suc-le-suc h)
ascending_pair x (y ∷ ys) t (suc i) (suc j) l h =
    ascending_pair y ys (ascending_tail x y ys t).1 i j (le_of_suc-le-suc l) (le_of_suc-le-suc h)

-- Nothing in an ascending list is smaller than what stands below all of it.
none_smaller : (x v : ℕ) (ys : List ℕ) → v ≤ x → T (ascending x ys) → smaller v ys ≡ 0
unfolding smaller one_if
none_smaller x v [] h t = refl
none_smaller x v (y ∷ ys) h t =
    let tail = ascending_tail x y ys t in
    rw (le-ltb y v (omega (arith, tail.0)), none_smaller y v ys (omega (arith, tail.0)) tail.1)

-- As many entries are smaller than an entry as stand before it.
pub smaller_at : (x : ℕ) (ys : List ℕ) → T (ascending x ys) → (i : ℕ) → i < length ys → smaller (get_or ys i 0) ys ≡ i
unfolding smaller one_if
smaller_at x [] t i h = absurd (not-suc-le-zero h)
smaller_at x (y ∷ ys) t zero h = rw (le-ltb y y (le_refl y), none_smaller y y ys (le_refl y) (ascending_tail x y ys t).1)
smaller_at x (y ∷ ys) t (suc i) h =
    let tail = (ascending_tail x y ys t).1 in
    let later = le_of_suc-le-suc h in
    rw (lt-ltb y (get_or ys i 0) (ascending_above y ys tail i later), smaller_at y ys tail i later) (omega arith)

-- Where v is above each entry, all entries are smaller.
pub all_smaller : (v : ℕ) (ys : List ℕ) → ((i : ℕ) → i < length ys → get_or ys i 0 < v) → smaller v ys ≡ length ys
unfolding smaller one_if
all_smaller v [] h = refl
all_smaller v (y ∷ ys) h = rw (lt-ltb y v (h 0 (omega arith)), all_smaller v ys (λ i l. h (suc i) (omega arith))) (omega arith)

-- ---- a list that is cut into rows of 32: an entry is reached by the row and its index in the row

unfoldable pub in_32s : List (List ℕ) → Bool
in_32s rs = each (λ (r : List ℕ). eqb (length r) 32) rs

unfoldable pub look : List (List ℕ) → ℕ → ℕ
look rs k = get_or (get_or rs (k / 32) []) (k % 32) 0

pub look_joined : (rs : List (List ℕ)) → T (in_32s rs) → (k : ℕ) → look rs k ≡ get_or (joined rs) k 0
unfolding each in_32s look joined
look_joined [] t k = refl
look_joined (r ∷ rs) t k = go (look_joined rs (and_r (eqb (length r) 32) (in_32s rs) t) (k - 32)) (ltb k 32) refl
  where
    long : length r ≡ 32
    long = eqb→eq (length r) 32 (and_l (eqb (length r) 32) (in_32s rs) t)

    go : look rs (k - 32) ≡ get_or (joined rs) (k - 32) 0 → (f : Bool) → ltb k 32 ≡ f → look (r ∷ rs) k ≡ get_or (r ++ joined rs) k 0
    go later true e =
        let h : k < 32 = ltb-true k 32 e in
        let row : k / 32 ≡ 0 = omega arith in
        let column : k % 32 ≡ k = omega arith in
        rw (row, column) (sym (get_or-append r (joined rs) 0 k (omega (arith, long))))
    go later false e =
        let h : 32 ≤ k = ltb-false k 32 e in
        let row : k / 32 ≡ suc ((k - 32) / 32) = omega arith in
        let column : k % 32 ≡ (k - 32) % 32 = omega arith in
        let from : k ≡ length r + (k - 32) = omega (arith, long) in
        rw (row, column) (later ∙ sym (ap (λ (n : ℕ). get_or (r ++ joined rs) n 0) from ∙ get_or-append-add r (joined rs) (k - 32) 0))
