-- Chains and good words lead to each other and back: 003, section 2.2.
-- In order: from a chain to its word and back; the first reader takes the word of any parts; the parts of any word are a chain;
-- from a word to its chain and back. The walk, a word's chain and the readers are defined in Words; that the first reader takes
-- exactly the good words is in Readers.
use Rattle.std.specs.Prelude.{◌≡◌, refl, Bool, true, false, ◌&&◌, List, [], ◌∷◌, ◌++◌, ℕ, zero, suc, ◌+◌, ◌-◌, ◌≤◌, ◌<◌, T, length, replicate}
use Rattle.std.proofs.Common.{sym, ap, ◌∙◌, append_assoc, append-nil, le_refl, arith, length-append}
use Rattle.std.proofs.Math.Nat.{sub_self}
use Rattle.std.specs.Float.Ieee.Fits.{and_l, and_r}
use Rattle.std.proofs.lemmas.List.{length-replicate, replicate-append-replicate}
use Rattle.std.proofs.Math.Seq.{append_snoc}
use Rattle.chains.specs.Chains.{Part, Chained}
use Rattle.chains.specs.Words.{Word, origin, path, marked, walk, word_of, right, up, chain_from, chain_of, some_left, reads}
use Rattle.chains.specs.Divides.{Above}
use Rattle.chains.proofs.Divides.{same_part_lem, multiple_above}

-- ---- from a chain to its word and back

-- The letters of a path on which b rises i times and then a rises j times.
abbrev rises : ℕ → ℕ → Word
rises i j = replicate i 2 ++ replicate j 0

-- A path that starts at no part leads on to its end, with no part met.
along :
    (i j : ℕ) (q p : Part) (met : List Part) (w : Word) → p.a ≡ j + q.a → p.b ≡ i + q.b
    → chain_from q met (rises i j ++ w) ≡ chain_from p met w
unfolding chain_from right up
along zero zero q p met w ea eb = ap (λ (x : Part). chain_from x met w) (same_part_lem q p (omega arith) (omega arith))
along zero (suc j) q p met w ea eb = along zero j (right q) p met w (omega arith) (omega arith)
along (suc i) j q p met w ea eb = along i j (up q) p met w (omega arith) (omega arith)

-- A path that starts at a part meets that one.
marks :
    (i j : ℕ) (q p : Part) (met : List Part) (w : Word) → p.a ≡ j + q.a → p.b ≡ i + q.b → 0 < i + j
    → chain_from q met (marked (rises i j) ++ w) ≡ chain_from p (q ∷ met) w
unfolding chain_from right up marked
marks zero zero q p met w ea eb h = absurd (omega arith)
marks zero (suc j) q p met w ea eb h = along zero j (right q) p (q ∷ met) w (omega arith) (omega arith)
marks (suc i) j q p met w ea eb h = along i j (up q) p (q ∷ met) w (omega arith) (omega arith)

-- The walk through the parts c to p comes to p with c met.
chain_walk : (p : Part) (c : List Part) (w : Word) → Chained (p ∷ c) → chain_of (walk p c w) ≡ chain_from p c w
unfolding walk chain_of path
chain_walk p [] w h = along (p.b - 0) (p.a - 0) origin p [] w (omega arith) (omega arith)
chain_walk p (q ∷ c) w h =
    let s : Above p q = (multiple_above p q).0 h.0 in
    chain_walk q c (marked (path q p) ++ w) h.1
    ∙ marks (p.b - q.b) (p.a - q.a) q p c w (omega arith) (omega arith) (omega arith)

-- A chain's word leads back to the chain.
pub chain_word_chain : (c : List Part) → Chained c → chain_of (word_of c) ≡ c
unfolding word_of chain_of chain_from
chain_word_chain [] h = refl
chain_word_chain (p ∷ c) h = chain_walk p c (3 ∷ []) h

-- ---- the first reader takes the word of any parts

-- What the second reader takes is not empty, and the first takes it too.
pub second_first : (w : Word) → T (reads false w) → T (some_left w && reads true w)
unfolding reads some_left
second_first [] h = h
second_first (zero ∷ w) h = h
second_first (suc zero ∷ w) h = h
second_first (suc (suc zero) ∷ w) h = absurd h
second_first (suc (suc (suc zero)) ∷ w) h = h
second_first (suc (suc (suc (suc x))) ∷ w) h = h

-- What may stand before that: letters 0; a path that starts at no part; a path that starts at one.
read_zeros : (j : ℕ) (w : Word) → T (reads false w) → T (reads false (replicate j 0 ++ w))
unfolding reads
read_zeros zero w h = h
read_zeros (suc j) w h = read_zeros j w h

read_rises : (i j : ℕ) (w : Word) → T (reads false w) → T (some_left (rises i j ++ w) && reads true (rises i j ++ w))
unfolding reads some_left
read_rises zero zero w h = second_first w h
read_rises zero (suc j) w h = read_zeros j w h
read_rises (suc i) j w h = read_rises i j w h

read_path : (i j : ℕ) (w : Word) → T (reads false w) → T (reads true (rises i j ++ w))
read_path i j w h = and_r (some_left (rises i j ++ w)) (reads true (rises i j ++ w)) (read_rises i j w h)

read_marked : (i j : ℕ) (w : Word) → T (reads false w) → T (reads false (marked (rises i j) ++ w))
unfolding reads marked
read_marked zero zero w h = h
read_marked zero (suc j) w h = read_zeros j w h
read_marked (suc i) j w h = read_path i j w h

read_walk : (p : Part) (c : List Part) (w : Word) → T (reads false w) → T (reads true (walk p c w))
unfolding walk path
read_walk p [] w h = read_path (p.b - 0) (p.a - 0) w h
read_walk p (q ∷ c) w h = read_walk q c (marked (path q p) ++ w) (read_marked (p.b - q.b) (p.a - q.a) w h)

-- The first reader takes the word of any parts, a chain's too.
pub word_reads : (c : List Part) → T (reads true (word_of c))
unfolding word_of reads
word_reads [] = tt
word_reads (p ∷ c) = read_walk p c (3 ∷ []) tt

-- ---- the parts of any word are a chain

-- The next point is above.
right_above : (p : Part) → Above (right p) p
unfolding right
right_above p = omega arith

up_above : (p : Part) → Above (up p) p
unfolding up
up_above p = omega arith

-- A chain's largest part may give way to one above it, and one above it may come before it.
chained_raise : (p r : Part) (c : List Part) → Above r p → Chained (p ∷ c) → Chained (r ∷ c)
chained_raise p r [] s h = tt
chained_raise p r (q ∷ c) s h =
    let t : Above p q = (multiple_above p q).0 h.0 in
    ((multiple_above r q).1 (omega arith), h.1)

chained_add : (p r : Part) (c : List Part) → Above r p → Chained (p ∷ c) → Chained (r ∷ p ∷ c)
chained_add p r c s h = ((multiple_above r p).1 s, h)

chained_rest : (p : Part) (c : List Part) → Chained (p ∷ c) → Chained c
chained_rest p [] h = tt
chained_rest p (q ∷ c) h = h.1

-- The parts met are below the point p: so are those met on from there.
chained_from : (p : Part) (met : List Part) (w : Word) → Chained (p ∷ met) → Chained (chain_from p met w)
unfolding chain_from
chained_from p met [] h = chained_rest p met h
chained_from p met (zero ∷ w) h = chained_from (right p) met w (chained_raise p (right p) met (right_above p) h)
chained_from p met (suc zero ∷ w) h = chained_from (right p) (p ∷ met) w (chained_add p (right p) met (right_above p) h)
chained_from p met (suc (suc zero) ∷ w) h = chained_from (up p) met w (chained_raise p (up p) met (up_above p) h)
chained_from p met (suc (suc (suc zero)) ∷ w) h = chained_from (up p) (p ∷ met) w (chained_add p (up p) met (up_above p) h)
chained_from p met (suc (suc (suc (suc x))) ∷ w) h = chained_from p met w h

-- The parts of any word are a chain.
pub word_chained : (w : Word) → Chained (chain_of w)
unfolding chain_of
word_chained w = chained_from origin [] w tt

-- ---- from a word to its chain and back

-- The part met last, or (0, 0) where none is met: the path to the next part starts there.
last : List Part → Part
last [] = origin
last (q ∷ c) = q

-- It is not beyond the point p.
under : (p : Part) (met : List Part) → Chained (p ∷ met) → ((last met).a ≤ p.a) × ((last met).b ≤ p.b)
unfolding last
under p [] h = omega arith
under p (q ∷ c) h =
    let s : Above p q = (multiple_above p q).0 h.0 in
    omega arith

one_more : (n k x : ℕ) → k ≡ n + 1 → replicate k x ≡ replicate n x ++ (x ∷ [])
one_more n k x e = rw e (sym (replicate-append-replicate n 1 x))

-- A path grows by a letter 0 where a rises, and by a letter 2 where b rises if a has not risen on it.
path_right : (q p : Part) → q.a ≤ p.a → path q (right p) ≡ path q p ++ (0 ∷ [])
unfolding path right
path_right q p h = rw (append_assoc, one_more (p.a - q.a) (suc p.a - q.a) 0 (omega arith))

path_up : (q p : Part) → q.a ≡ p.a → q.b ≤ p.b → path q (up p) ≡ path q p ++ (2 ∷ [])
unfolding path up
path_up q p e h =
    let z : p.a - q.a ≡ 0 = omega arith in
    simp (z, append-nil) (one_more (p.b - q.b) (suc p.b - q.b) 2 (omega arith))

path_self : (p : Part) → path p p ≡ []
unfolding path
path_self p = simp sub_self

-- To mark the first letter of a path leaves one that is added at its end.
mark_more : (u : Word) (l : ℕ) (w : Word) → 0 < length u → marked (u ++ (l ∷ [])) ++ w ≡ marked u ++ (l ∷ w)
unfolding marked
mark_more [] l w h = absurd (omega arith)
mark_more (x ∷ u) l w h = ap (λ (v : Word). suc x ∷ v) (append_snoc u l w)

-- The walk to r through p, where p is no part: its letter l ends the path from the part met last.
walk_on :
    (l : ℕ) (p r : Part) (met : List Part) (w : Word) → Chained (p ∷ met) → path (last met) r ≡ path (last met) p ++ (l ∷ [])
    → walk r met w ≡ walk p met (l ∷ w)
unfolding walk last path
walk_on l p r [] w h e = ap (λ (u : Word). u ++ w) e ∙ append_snoc (path origin p) l w
walk_on l p r (q ∷ c) w h e =
    let s : Above p q = (multiple_above p q).0 h.0 in
    ap (λ (u : Word). walk q c (marked u ++ w)) e
    ∙ ap (walk q c) (mark_more (path q p) l w (simp (length-append, length-replicate) (omega arith)))

-- The walk to r through p, where p is a part.
walk_part : (l : ℕ) (p r : Part) (met : List Part) (w : Word) → path p r ≡ path p p ++ (l ∷ [])
    → walk r (p ∷ met) w ≡ walk p met (suc l ∷ w)
unfolding walk marked
walk_part l p r met w e = rw (e, path_self)

-- At any point p of the walk: the word of the whole chain is the letters up to p, told by the parts met, and those read from p on.
-- The first reader goes on only where a has not risen since the part met last, and a word ends only behind its largest part.
word_walk :
    (w : Word) (f : Bool) (p : Part) (met : List Part) → T (reads f w) → Chained (p ∷ met) → (T f → (last met).a ≡ p.a)
    → (w ≡ [] → word_of met ≡ walk p met []) → word_of (chain_from p met w) ≡ walk p met w
unfolding reads some_left chain_from last up word_of
word_walk [] f p met h k e n = n refl
word_walk (zero ∷ w) f p met h k e n =
    word_walk w false (right p) met h (chained_raise p (right p) met (right_above p) k) absurd (λ i. absurd (rw i at h))
    ∙ walk_on 0 p (right p) met w k (path_right (last met) p (under p met k).0)
word_walk (suc zero ∷ w) f p met h k e n =
    word_walk w false (right p) (p ∷ met) h (chained_add p (right p) met (right_above p) k) absurd (λ i. absurd (rw i at h))
    ∙ walk_part 0 p (right p) met w (path_right p p (le_refl p.a))
word_walk (suc (suc zero) ∷ w) f p met h k e n =
    let t : T f = and_l f (some_left w && reads true w) h in
    let r : T (some_left w && reads true w) = and_r f (some_left w && reads true w) h in
    word_walk w true (up p) met (and_r (some_left w) (reads true w) r) (chained_raise p (up p) met (up_above p) k) (λ _. e t)
    (λ i. absurd (rw i at r))
    ∙ walk_on 2 p (up p) met w k (path_up (last met) p (e t) (under p met k).1)
word_walk (suc (suc (suc zero)) ∷ w) f p met h k e n =
    let s : path p (up p) ≡ path p p ++ (2 ∷ []) = path_up p p refl (le_refl p.b) in
    word_walk w true (up p) (p ∷ met) h (chained_add p (up p) met (up_above p) k) (λ _. refl)
    (λ _. sym (walk_part 2 p (up p) met [] s))
    ∙ walk_part 2 p (up p) met w s
word_walk (suc (suc (suc (suc x))) ∷ w) f p met h k e n = absurd h

-- A word that the first reader takes is the word of its chain.
pub word_chain_word : (w : Word) → T (reads true w) → word_of (chain_of w) ≡ w
unfolding chain_of walk path last word_of
word_chain_word w h = word_walk w true origin [] h tt (λ _. refl) (λ _. refl)
