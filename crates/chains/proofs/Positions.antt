-- Positions in the list of n: the word at a position stands there, and each word of the list stands at its position.
-- In order: both for any list that ascends, for the list at a rest, and for the list of n (`position_word_at`, `word_at_position`);
-- how many words of two branches stand before one of them, and which one stands at an index; from these the two walks that find a
-- word's position (`position_rise_a`, `position_rise_b`) and the word at a position (`word_rise_a`, `word_rise_b`), letter by
-- letter. That the list ascends is in Members, the same theorems of chains in PositionsOfChains.
use Rattle.std.specs.Prelude.{◌≡◌, refl, Bool, true, false, ℕ, zero, suc, ◌+◌, ◌-◌, ◌/◌, ◌%◌, ◌≤◌, ◌<◌, T, length, get_or}
use Rattle.std.proofs.Common.{sym, ap, ap₂, ◌∙◌, inl, ⊎_elim, arith, length-append, get_or-append-add}
use mathlib.Core.List.{List, [], ◌∷◌, ◌++◌, Memᴰ}
use Rattle.std.proofs.lemmas.List.{length-map}
use Rattle.std.proofs.Math.ListN.{get_or-append}
use Rattle.chains.specs.Words.{Word}
use Rattle.chains.specs.Listing.{before, words_at, list_of, count, one_if, count_before}
use Rattle.chains.proofs.Order.{before_cons, before_same, before_irrefl, before_trans}
use Rattle.chains.proofs.Members.{under, kept, branches, words_step, Begins, member_kept, member_branches}
use Rattle.chains.proofs.Members.{Ascends, before_under, words_ascend, get_or_member}

-- ---- in a list that ascends

one_if_true : (b : Bool) → T b → one_if b ≡ 1
unfolding one_if
one_if_true true t = refl
one_if_true false t = absurd t

one_if_false : (b : Bool) → (T b → ⊥) → one_if b ≡ 0
unfolding one_if
one_if_false true h = absurd (h tt)
one_if_false false h = refl

-- No word of a list stands before u if u stands before them all.
none_before : (u : Word) (l : List Word) → ((v : Word) → Memᴰ v l → T (before u v)) → count_before u l ≡ 0
unfolding count_before
none_before u [] h = refl
none_before u (v ∷ l) h =
    let t = h v (Memᴰ.head refl) in
    let z = one_if_false (before v u) (λ s. before_irrefl u (before_trans u v u t s)) in
    omega (arith, z, none_before u l (λ w i. h w (Memᴰ.tail i)))

-- The word at an index has that index for its position.
ascends_position : (l : List Word) → Ascends l → (i : ℕ) → i < length l → count_before (get_or l i []) l ≡ i
unfolding Ascends count_before
ascends_position [] a i h = absurd (omega arith)
ascends_position (u ∷ l) a zero h = omega (arith, one_if_false (before u u) (before_irrefl u), none_before u l a.0)
ascends_position (u ∷ l) a (suc i) h =
    let w = get_or l i [] in
    let m = a.0 w (get_or_member l i (omega arith)) in
    omega (arith, one_if_true (before u w) m, ascends_position l a.1 i (omega arith))

index_of : {w : Word} {l : List Word} → Memᴰ w l → (i : ℕ) × (i < length l) × (get_or l i [] ≡ w)
index_of (Memᴰ.head e) = (0, omega arith, sym e)
index_of (Memᴰ.tail m) = let o = index_of m in (suc o.0, omega arith, o.2)

-- A word of the list stands at its position.
ascends_at_position :
    (l : List Word) (w : Word) → Ascends l → Memᴰ w l → (count_before w l < length l) × (get_or l (count_before w l) [] ≡ w)
ascends_at_position l w a m =
    let o = index_of m in
    let e : count_before w l ≡ o.0 = rw o.2 at (ascends_position l a o.0 o.1) in
    (omega arith, rw e o.2)

-- The same in the list at a rest.
pub words_position : (f : Bool) (m i : ℕ) → i < length (words_at f m) → count_before (get_or (words_at f m) i []) (words_at f m) ≡ i
words_position f m i h = ascends_position (words_at f m) (words_ascend f m) i h

pub words_at_position :
    (f : Bool) (m : ℕ) (w : Word)
    → Memᴰ w (words_at f m)
    → (count_before w (words_at f m) < length (words_at f m)) × (get_or (words_at f m) (count_before w (words_at f m)) [] ≡ w)
words_at_position f m w i = ascends_at_position (words_at f m) w (words_ascend f m) i

-- The same in the list of n.
pub position_word_at : (n i : ℕ) → i < count n → count_before (get_or (list_of n) i []) (list_of n) ≡ i
unfolding list_of count
position_word_at n i h = words_position true n i h

pub word_at_position :
    (n : ℕ) (w : Word)
    → Memᴰ w (list_of n)
    → (count_before w (list_of n) < count n) × (get_or (list_of n) (count_before w (list_of n)) [] ≡ w)
unfolding list_of count
word_at_position n w i = words_at_position true n w i

-- ---- in two branches

count_append : (w : Word) (s t : List Word) → count_before w (s ++ t) ≡ count_before w s + count_before w t
unfolding count_before
count_append w [] t = omega arith
count_append w (v ∷ s) t = omega (arith, count_append w s t)

-- Among the words that begin with a lower letter all stand before l ∷ w, and among those that begin with l as many as stand before
-- w among the letters that follow.
count_lower : (x l : ℕ) (w : Word) (s : List Word) → x < l → count_before (l ∷ w) (under x s) ≡ length s
unfolding count_before under
count_lower x l w [] h = refl
count_lower x l w (v ∷ s) h =
    omega (arith, one_if_true (before (x ∷ v) (l ∷ w)) ((before_cons x l v w).1 (inl h)), count_lower x l w s h)

count_same : (l : ℕ) (w : Word) (s : List Word) → count_before (l ∷ w) (under l s) ≡ count_before w s
unfolding count_before under
count_same l w [] = refl
count_same l w (v ∷ s) = ap₂ (λ (b : Bool) (k : ℕ). one_if b + k) (before_same l v w) (count_same l w s)

kept_passed : (b : Bool) (t : List Word) → T b → kept b t ≡ t
unfolding kept
kept_passed true t p = refl
kept_passed false t p = absurd p

-- How many words of two branches stand before one of the first, and before one of the second.
count_first :
    (x y : ℕ) (b : Bool) (h t : List Word) (l : ℕ) (w : Word)
    → x < y
    → Memᴰ (l ∷ w) (branches x y b h t)
    → l < y
    → Memᴰ w h × (count_before (l ∷ w) (branches x y b h t) ≡ count_before w h)
unfolding Begins branches
count_first x y b h t l w o i g =
    let t' = kept b t in
    let both = count_append (x ∷ w) (under x h) (under y t') in
    let first = count_same x w h in
    let second = none_before (x ∷ w) (under y t') (before_under (x ∷ w) y t' (λ v j. (before_cons x y w v).1 (inl o))) in
    ⊎_elim
    (λ (m : (l ≡ x) × Memᴰ w h). (m.1, rw m.0 (omega arith)))
    (λ (m : (l ≡ y) × T b × Memᴰ w t). absurd (omega arith))
    ((member_branches x y b h t l w).0 i)

count_second :
    (x y : ℕ) (b : Bool) (h t : List Word) (l : ℕ) (w : Word)
    → x < y
    → Memᴰ (l ∷ w) (branches x y b h t)
    → x < l
    → Memᴰ w t × (count_before (l ∷ w) (branches x y b h t) ≡ length h + count_before w t)
unfolding Begins branches
count_second x y b h t l w o i g =
    let both = count_append (y ∷ w) (under x h) (under y t) in
    let first = count_lower x y w h o in
    let second = count_same y w t in
    ⊎_elim
    (λ (m : (l ≡ x) × Memᴰ w h). absurd (omega arith))
    (λ (m : (l ≡ y) × T b × Memᴰ w t). (m.2, rw (m.0, kept_passed b t m.1) (omega arith)))
    ((member_branches x y b h t l w).0 i)

get_or_under : (l : ℕ) (s : List Word) (i : ℕ) → i < length s → get_or (under l s) i [] ≡ l ∷ get_or s i []
unfolding under
get_or_under l [] i h = absurd (omega arith)
get_or_under l (v ∷ s) zero h = refl
get_or_under l (v ∷ s) (suc i) h = get_or_under l s i (omega arith)

length_under : (l : ℕ) (s : List Word) → length (under l s) ≡ length s
unfolding under
length_under l s = length-map s (λ (w : Word). l ∷ w)

at_first : (x y : ℕ) (b : Bool) (h t : List Word) (i : ℕ) → i < length h → get_or (branches x y b h t) i [] ≡ x ∷ get_or h i []
unfolding branches
at_first x y b h t i o =
    get_or-append (under x h) (under y (kept b t)) [] i (omega (arith, length_under x h)) ∙ get_or_under x h i o

length_branches : (x y : ℕ) (b : Bool) (h t : List Word) → length (branches x y b h t) ≡ length h + length (kept b t)
unfolding branches
length_branches x y b h t = length-append (under x h) (under y (kept b t)) ∙ ap₂ ◌+◌ (length_under x h) (length_under y (kept b t))

at_second :
    (x y : ℕ) (b : Bool) (h t : List Word) (i : ℕ)
    → length h ≤ i
    → i < length (branches x y b h t)
    → (i - length h < length t) × (get_or (branches x y b h t) i [] ≡ y ∷ get_or t (i - length h) [])
unfolding branches
at_second x y b h t i o g =
    let k = i - length h in
    let j : k < length (kept b t) = omega (arith, length_branches x y b h t) in
    let e = kept_passed b t ((member_kept b (get_or (kept b t) k []) t).0 (get_or_member (kept b t) k j)).0 in
    let p : i ≡ length (under x h) + k = omega (arith, length_under x h) in (
      rw e at j,
      ap (λ (n : ℕ). get_or (branches x y b h t) n []) p
          ∙ get_or-append-add (under x h) (under y (kept b t)) k []
          ∙ get_or_under y (kept b t) k j
          ∙ ap (λ (s : List Word). y ∷ get_or s k []) e,
    )

-- ---- the walks

-- A word's position from that of the letters after its first. They make a word of the list at the next rest.
pub position_rise_a :
    (f : Bool) (m l : ℕ) (w : Word)
    → 0 < m
    → Memᴰ (l ∷ w) (words_at f m)
    → l ≤ 1
    → Memᴰ w (words_at false (m / 2)) × (count_before (l ∷ w) (words_at f m) ≡ count_before w (words_at false (m / 2)))
position_rise_a f m l w h i g =
    rw (words_step f m h) (count_first _ _ _ _ _ l w (omega arith) (rw (words_step f m h) at i) (omega arith))

pub position_rise_b :
    (f : Bool) (m l : ℕ) (w : Word)
    → 0 < m
    → Memᴰ (l ∷ w) (words_at f m)
    → 2 ≤ l
    → Memᴰ w (words_at true (m / 3))
    × (count_before (l ∷ w) (words_at f m) ≡ length (words_at false (m / 2)) + count_before w (words_at true (m / 3)))
position_rise_b f m l w h i g =
    rw (words_step f m h) (count_second _ _ _ _ _ l w (omega arith) (rw (words_step f m h) at i) (omega arith))

-- The word at an index from the one at an index of the list at the next rest.
pub word_rise_a :
    (f : Bool) (m i : ℕ)
    → 0 < m
    → i < length (words_at false (m / 2))
    → get_or (words_at f m) i [] ≡ m % 2 ∷ get_or (words_at false (m / 2)) i []
word_rise_a f m i h o = rw (words_step f m h) (at_first _ _ _ _ _ i o)

pub word_rise_b :
    (f : Bool) (m i : ℕ)
    → 0 < m
    → length (words_at false (m / 2)) ≤ i
    → i < length (words_at f m)
    → (i - length (words_at false (m / 2)) < length (words_at true (m / 3)))
    × (get_or (words_at f m) i [] ≡ (2 + m % 3) ∷ get_or (words_at true (m / 3)) (i - length (words_at false (m / 2))) [])
word_rise_b f m i h o g = rw (words_step f m h) (at_second _ _ _ _ _ i o (rw (words_step f m h) at g))
