-- From a tree word to the path word of its chain, and from a path word to its tree word: both ways lead back.
-- In order: a path word by its first letter; from a tree word to its path word (`walked`); from a path word to its tree word
-- (`lettered`); one path word has one tree word at a number (`same_word`).
use Rattle.std.specs.Prelude.{◌≡◌, refl, Bool, true, false, cond, ◌&&◌, ℕ, zero, suc, ◌+◌, ◌-◌, ◌*◌, ◌/◌, ◌%◌, ◌≤◌, ◌<◌, T, ltb, length, drop}
use Rattle.std.proofs.Math.Path.{sym, ap}
use Rattle.std.proofs.Common.{◌∙◌, le_refl, arith, ltb-true, ltb-false}
use mathlib.Core.List.{List, [], ◌∷◌, ◌++◌, map}
use Rattle.std.specs.Float.Ieee.Fits.{and_i, and_l, and_r}
use Rattle.chains.specs.Chains.{Part, value, total}
use Rattle.chains.specs.Words.{Word, right, up, some_left, reads, chain_from, chain_of}
use Rattle.chains.proofs.Weight.{weight}
use Rattle.chains.proofs.Marks.{part_left}
use Rattle.chains.proofs.RoundTrip.{second_first}
use Rattle.trees.specs.Trees.{produced, those, lowest, binary_in, binary, adding, read_back}
use Rattle.trees.specs.TreeOf.{letter_at, number_after, up_next, letters_in, path_from}
use Rattle.trees.proofs.Letters.{rising, Letter, only_one, first_letter, rising_low, with_letter}
use Rattle.trees.proofs.Owed.{Owed, none, Onward, one, two, three, onward, owed_at_one}
use Rattle.trees.proofs.BackLaws.{chain_right, chain_up, adding_more, adding_right, adding_up, adding_none}

-- ---- a path word by its first letter

-- What a rise of a, or of b, makes of the number.
weight_right : (r : ℕ) (v : Word) → r ≤ 1 → weight (r ∷ v) ≡ r + 2 * weight v
unfolding weight
weight_right zero v h = omega arith
weight_right (suc zero) v h = omega arith
weight_right (suc (suc r)) v h = absurd (omega arith)

weight_up : (r : ℕ) (v : Word) → r ≤ 1 → weight (suc (suc r) ∷ v) ≡ r + 3 * weight v
unfolding weight
weight_up zero v h = omega arith
weight_up (suc zero) v h = omega arith
weight_up (suc (suc r)) v h = absurd (omega arith)

pub path_some : (p : ℕ) (t : Word) → T (some_left (path_from p t))
unfolding path_from some_left
path_some p [] = tt
path_some p (zero ∷ t) = path_some p t
path_some p (suc zero ∷ t) = path_some (suc p) t
path_some p (suc (suc zero) ∷ t) = tt
path_some p (suc (suc (suc zero)) ∷ t) = tt
path_some p (suc (suc (suc (suc l))) ∷ t) = path_some p t

-- Where the tree word's first letter that is not 1 is 3, b rises first on the path.
up_right : (r : ℕ) (v : Word) → r ≤ 1 → up_next (r ∷ v) ≡ 0
unfolding up_next
up_right zero v h = refl
up_right (suc zero) v h = refl
up_right (suc (suc r)) v h = absurd (omega arith)

up_path : (p : ℕ) (t : Word) → up_next (path_from p t) ≡ rising t
unfolding path_from up_next rising
up_path p [] = refl
up_path p (zero ∷ t) = up_path p t
up_path p (suc zero ∷ t) = up_path (suc p) t
up_path p (suc (suc zero) ∷ t) = up_right (p % 2) (path_from (p / 2) t) (omega arith)
up_path p (suc (suc (suc zero)) ∷ t) = refl
up_path p (suc (suc (suc (suc l))) ∷ t) = up_path p t

-- ---- from a tree word to its path word

-- The path word where p letters 1 are owed at the number n: its number, its chain, that the reader f takes it, and that the tree word
-- is at most so long.
pub record Walked (p n : ℕ) (t : Word) (f : Bool) (s : ℕ) : Type 0 where
  pub weighs : weight (path_from p t) ≡ n + p
  pub chain : chain_of (path_from p t) ≡ adding p (read_back t)
  pub good : T (reads f (path_from p t))
  pub short : 2 * length t + s ≤ 5 * length (path_from p t)

reads_right : (r : ℕ) (f : Bool) (v : Word) → r ≤ 1 → T (reads false v) → T (reads f (r ∷ v))
unfolding reads
reads_right zero f v h g = g
reads_right (suc zero) f v h g = g
reads_right (suc (suc r)) f v h g = absurd (omega arith)

reads_up : (r : ℕ) (f : Bool) (v : Word) → r ≤ 1 → (r ≡ 0 → T f) → T (some_left v) → T (reads true v) → T (reads f (suc (suc r) ∷ v))
unfolding reads
reads_up zero f v h t s g = and_i f _ (t refl) (and_i (some_left v) _ s g)
reads_up (suc zero) f v h t s g = g
reads_up (suc (suc r)) f v h t s g = absurd (omega arith)

pub falls_at : (t : Word) (m : ℕ) → T (produced t m) → m % 3 ≡ 2 → rising t ≡ 0
falls_at [] m h e = absurd (omega (arith, only_one m h))
falls_at (l ∷ t) m h e = (first_letter m l t h).falls e

first_chain_lem : chain_of (3 ∷ []) ≡ adding 0 (read_back [])
unfolding chain_of chain_from adding read_back binary binary_in lowest those total value
first_chain_lem = refl

walked_end : (p n s : ℕ) (f : Bool) → T (produced [] n) → Owed p n 1 s → Walked p n [] f s
unfolding path_from weight reads
walked_end p n s f h o =
    let e = only_one n h in
    let (z, k) = owed_at_one p 1 s (rw e at o) in
    record { weighs = omega arith; chain = rw z first_chain_lem; good = tt; short = omega arith }

-- A letter before a tree word.
module _ (p n s : ℕ) (t : Word) (f : Bool) where
  walked_one : 1 < n → Walked (suc p) (n - 1) t f (s + 2) → Walked p n (1 ∷ t) f s
  unfolding path_from read_back
  walked_one more k = record {
    weighs = omega (arith, k.weighs);
    chain = k.chain ∙ sym (adding_more p (read_back t));
    good = k.good;
    short = omega (arith, k.short);
  }

  walked_two : n % 2 ≡ 0 → Walked (p / 2) (n / 2) t false (s - 3) → Walked p n (2 ∷ t) f s
  unfolding path_from read_back
  walked_two e k = record {
    weighs = weight_right (p % 2) (path_from (p / 2) t) (omega arith) ∙ omega (arith, k.weighs);
    chain =
        chain_right (p % 2) (path_from (p / 2) t) (omega arith)
        ∙ ap (λ (c : List Part). map right c ++ lowest (p % 2)) k.chain
        ∙ sym (adding_right p (read_back t));
    good = reads_right (p % 2) f (path_from (p / 2) t) (omega arith) k.good;
    short = omega (arith, k.short);
  }

  walked_three : n % 3 ≡ 0 → p ≤ 1 → s ≤ 8 → (p ≡ 0 → T f) → Walked 0 (n / 3) t true 5 → Walked p n (3 ∷ t) f s
  unfolding path_from read_back
  walked_three e h m g k = record {
    weighs = weight_up p (path_from 0 t) h ∙ omega (arith, k.weighs);
    chain =
        chain_up p (path_from 0 t) h
        ∙ ap (λ (c : List Part). map up c ++ lowest p) (k.chain ∙ adding_none t)
        ∙ sym (adding_up p (read_back t) h);
    good = reads_up p f (path_from 0 t) h g (path_some 0 t) k.good;
    short = omega (arith, k.short);
  }

abbrev Walks : Word → Type 0
Walks t = (p n s : ℕ) (f : Bool) → T (produced t n) → Owed p n (rising t) s → (p ≡ 0 → n % 3 ≡ 0 → T f) → Walked p n t f s

walked_letter : (l : ℕ) (t : Word) (p n s : ℕ) (f : Bool) → Letter n l t → (p ≡ 0 → n % 3 ≡ 0 → T f) → Walks t
    → Onward p n (rising (l ∷ t)) s l → Walked p n (l ∷ t) f s
unfolding rising number_after
walked_letter l t p n s f k g on (one e z o) =
    rw e (walked_one p n s t f k.more (on (suc p) (n - 1) (s + 2) f (rw e at k.rest) (rw e at o) (λ y. absurd (omega arith))))
walked_letter l t p n s f k g on (two e z m d h o) =
    let r : T (produced t (n / 2)) = rw e at k.rest in
    rw e
    (walked_two p n s t f m
    (on (p / 2) (n / 2) (s - 3) false r (o (rising t) (falls_at t (n / 2) r)) (λ _ y. absurd (omega arith))))
walked_letter l t p n s f k g on (three e z m h d) =
    rw e
    (walked_three p n s t f m h d (λ y. g y m)
    (on 0 (n / 3) 5 true (rw e at k.rest) (none refl (omega arith)) (λ _ _. tt)))

pub walked : (t : Word) → Walks t
unfolding rising
walked [] p n s f h o g = walked_end p n s f h o
walked (l ∷ t) p n s f h o g =
    let k = first_letter n l t h in
    walked_letter l t p n s f k g (λ p n s f h o g. walked t p n s f h o g)
    (onward n (rising (l ∷ t)) l k.more (rising_low (l ∷ t)) k.falls p s k.is o)

-- ---- from a path word to its tree word

-- A path word on which a rises first, and one on which b does.
record Right (v : Word) : Type 0 where
  letter : ℕ
  later : Word
  starts : v ≡ letter ∷ later
  low : letter ≤ 1
  good : T (reads false later)

rises_a : (f : Bool) (v : Word) → up_next v ≡ 0 → 0 < weight v → T (reads f v) → Right v
unfolding up_next reads weight
rises_a f [] e s h = absurd (omega arith)
rises_a f (zero ∷ v) e s h = record { letter = 0; later = v; starts = refl; low = omega arith; good = h }
rises_a f (suc zero ∷ v) e s h = record { letter = 1; later = v; starts = refl; low = omega arith; good = h }
rises_a f (suc (suc x) ∷ v) e s h = absurd (omega arith)

record Upward (f : Bool) (v : Word) : Type 0 where
  letter : ℕ
  later : Word
  starts : v ≡ suc (suc letter) ∷ later
  low : letter ≤ 1
  good : T (reads true later)
  free : letter ≡ 0 → T f

rises_b : (f : Bool) (v : Word) → up_next v ≡ 1 → 0 < weight v → T (reads f v) → Upward f v
unfolding up_next reads weight
rises_b f [] e s h = absurd (omega arith)
rises_b f (zero ∷ v) e s h = absurd (omega arith)
rises_b f (suc zero ∷ v) e s h = absurd (omega arith)
rises_b f (suc (suc zero) ∷ v) e s h =
    record {
      letter = 0;
      later = v;
      starts = refl;
      low = omega arith;
      good = and_r (some_left v) (reads true v) (and_r f (some_left v && reads true v) h);
      free = λ _. and_l f (some_left v && reads true v) h;
    }
rises_b f (suc (suc (suc zero)) ∷ v) e s h =
    record { letter = 1; later = v; starts = refl; low = omega arith; good = h; free = λ z. absurd (omega arith) }
rises_b f (suc (suc (suc (suc x))) ∷ v) e s h = absurd h

pub up_low : (v : Word) → up_next v ≤ 1
unfolding up_next
up_low [] = omega arith
up_low (zero ∷ v) = omega arith
up_low (suc zero ∷ v) = omega arith
up_low (suc (suc x) ∷ v) = omega arith

-- Where a number is two more than a multiple of three, a rises first, for the reader after a rise of a also where one is owed.
falls_on : (v : Word) (f : Bool) (p m : ℕ) → p ≤ 1 → (p ≡ 1 → f ≡ false) → T (reads f v) → weight v ≡ m + p → 1 ≤ m → m % 3 ≡ 2
    → up_next v ≡ 0
falls_on v f p m h b g e pos r = go (up_next v) refl (up_low v)
  where
    neither : (q x : ℕ) → q ≤ 1 → x ≤ 1 → (2 + q) % 3 ≡ x → (x ≡ 0 → q ≡ 1 → T false) → ⊥
    neither zero x a c d n = omega arith
    neither (suc zero) x a c d n = n (omega arith) refl
    neither (suc (suc q)) x a c d n = omega arith

    go : (x : ℕ) → up_next v ≡ x → x ≤ 1 → x ≡ 0
    go zero d k = refl
    go (suc zero) d k =
        let u = rises_b f v d (omega arith) g in
        let w : weight v ≡ u.letter + 3 * weight u.later = ap weight u.starts ∙ weight_up u.letter u.later u.low in
        absurd (neither p u.letter h u.low (omega arith) (λ z y. rw (b y) at (u.free z)))
    go (suc (suc x)) d k = absurd (omega arith)

lone : (v : Word) (f : Bool) → T (reads f v) → weight v ≡ 1 → v ≡ 3 ∷ []
unfolding reads weight some_left
lone [] f h e = absurd (omega arith)
lone (zero ∷ v) f h e = absurd (omega arith)
lone (suc zero ∷ v) f h e = absurd (omega (arith, (part_left v false h (and_l (some_left v) (reads true v) (second_first v h))).1))
lone (suc (suc zero) ∷ v) f h e = absurd (omega arith)
lone (suc (suc (suc zero)) ∷ []) f h e = refl
lone (suc (suc (suc zero)) ∷ l ∷ v) f h e = absurd (omega (arith, (part_left (l ∷ v) true h tt).1))
lone (suc (suc (suc (suc x))) ∷ v) f h e = absurd h

-- The tree word t is produced from n, and v is its path word where p letters 1 are owed.
pub record Lettered (p n : ℕ) (v t : Word) : Type 0 where
  pub made : T (produced t n)
  pub path : path_from p t ≡ v

-- What is known of a path word v on the way.
record Asks (p n s : ℕ) (v : Word) (f : Bool) : Type 0 where
  pos : 1 ≤ n
  owed : Owed p n (up_next v) s
  good : T (reads f v)
  weighs : weight v ≡ n + p
  falls : n % 3 ≡ 2 → up_next v ≡ 0

module _ (p n s : ℕ) (v : Word) (f : Bool) (a : Asks p n s v f) (more : 1 < n) (t : Word) where
  lettered_one : 1 ≡ letter_at (n % 6) (up_next v) → Lettered (suc p) (n - 1) v t → Lettered p n v (1 ∷ t)
  unfolding path_from rising number_after
  lettered_one e k =
      let same : up_next v ≡ rising t = ap up_next (sym k.path) ∙ up_path (suc p) t in
      record {
        made = with_letter n 1 t
            (record { more = more; is = rw (← same) e; falls = λ z. sym same ∙ a.falls z; rest = k.made });
        path = k.path;
      }

  lettered_two : 2 ≡ letter_at (n % 6) 0 → (r : Right v) → n % 2 ≡ 0 → Lettered (p / 2) (n / 2) r.later t → Lettered p n v (2 ∷ t)
  unfolding path_from rising number_after
  lettered_two e r d k =
      let w : weight v ≡ r.letter + 2 * weight r.later = ap weight r.starts ∙ weight_right r.letter r.later r.low in
      let here : p % 2 ≡ r.letter = omega (arith, r.low, a.weighs) in
      record {
        made = with_letter n 2 t (record { more = more; is = e; falls = λ _. refl; rest = k.made });
        path = rw (k.path, here) (sym r.starts);
      }

  lettered_three : 3 ≡ letter_at (n % 6) 1 → (r : Upward f v) → n % 3 ≡ 0 → p ≤ 1 → Lettered 0 (n / 3) r.later t → Lettered p n v (3 ∷ t)
  unfolding path_from rising number_after
  lettered_three e r d h k =
      let w : weight v ≡ r.letter + 3 * weight r.later = ap weight r.starts ∙ weight_up r.letter r.later r.low in
      let here : p ≡ r.letter = omega (arith, r.low, a.weighs) in
      record {
        made = with_letter n 3 t (record { more = more; is = e; falls = λ z. absurd (omega arith); rest = k.made });
        path = rw (k.path, here) (sym r.starts);
      }

abbrev Letters : ℕ → Type 0
Letters k = (p n s : ℕ) (v : Word) (f : Bool) → n ≤ k → Asks p n s v f → Lettered p n v (letters_in k n v)

lettered_letter : (k p n s : ℕ) (v : Word) (f : Bool) → Letters k → n ≤ suc k → Asks p n s v f → 1 < n → (l : ℕ)
    → l ≡ letter_at (n % 6) (up_next v) → Onward p n (up_next v) s l
    → Lettered p n v (l ∷ letters_in k (number_after l n) (drop (l / 2) v))
unfolding number_after
lettered_letter k p n s v f on h a more l d (one e z o) =
    rw e
    (lettered_one p n s v f a more (letters_in k (n - 1) v) (rw e at d)
    (on (suc p) (n - 1) (s + 2) v f (omega arith)
    (record {
      pos = omega arith;
      owed = o;
      good = a.good;
      weighs = omega (arith, a.weighs);
      falls = λ y. z (omega arith);
    })))
lettered_letter k p n s v f on h a more l d (two e z m q b o) =
    let r = rises_a f v z (omega (arith, a.weighs, a.pos)) a.good in
    let w : weight v ≡ r.letter + 2 * weight r.later = ap weight r.starts ∙ weight_right r.letter r.later r.low in
    let rest : weight r.later ≡ n / 2 + p / 2 = omega (arith, r.low, a.weighs) in
    let falls = falls_on r.later false (p / 2) (n / 2) (omega arith) (λ _. refl) r.good rest (omega arith) in
    let passed : drop (2 / 2) v ≡ r.later = ap (drop 1) r.starts in
    rw (e, passed)
    (lettered_two p n s v f a more (letters_in k (n / 2) r.later) (rw (e, z) at d) r m
    (on (p / 2) (n / 2) (s - 3) r.later false (omega arith)
    (record { pos = omega arith; owed = o (up_next r.later) falls; good = r.good; weighs = rest; falls = falls })))
lettered_letter k p n s v f on h a more l d (three e z m b q) =
    let r = rises_b f v z (omega (arith, a.weighs, a.pos)) a.good in
    let w : weight v ≡ r.letter + 3 * weight r.later = ap weight r.starts ∙ weight_up r.letter r.later r.low in
    let rest : weight r.later ≡ n / 3 + 0 = omega (arith, r.low, a.weighs) in
    let falls = falls_on r.later true 0 (n / 3) (omega arith) (λ y. absurd (omega arith)) r.good rest (omega arith) in
    let passed : drop (3 / 2) v ≡ r.later = ap (drop 1) r.starts in
    rw (e, passed)
    (lettered_three p n s v f a more (letters_in k (n / 3) r.later) (rw (e, z) at d) r m b
    (on 0 (n / 3) 5 r.later true (omega arith)
    (record { pos = omega arith; owed = none refl (omega arith); good = r.good; weighs = rest; falls = falls })))

lettered_end : (p n s : ℕ) (v : Word) (f : Bool) → Asks p n s v f → n ≤ 1 → Lettered p n v []
unfolding produced path_from
lettered_end p n s v f a h =
    let e : n ≡ 1 = omega (arith, a.pos) in
    let (z, _) = owed_at_one p (up_next v) s (rw e at a.owed) in
    record { made = rw e tt; path = sym (lone v f a.good (omega (arith, a.weighs))) }

lettered_on : (k : ℕ) → Letters k
unfolding letters_in
lettered_on zero p n s v f h a = absurd (omega (arith, a.pos))
lettered_on (suc k) p n s v f h a = go (ltb 1 n) refl (λ p n s v f h a. lettered_on k p n s v f h a)
  where
    go : (b : Bool) → ltb 1 n ≡ b → Letters k
        → Lettered p n v
        (cond b (letter_at (n % 6) (up_next v)
        ∷ letters_in k (number_after (letter_at (n % 6) (up_next v)) n) (drop (letter_at (n % 6) (up_next v) / 2) v)) [])
    go true e on =
        let more = ltb-true 1 n e in
        lettered_letter k p n s v f on h a more (letter_at (n % 6) (up_next v)) refl
        (onward n (up_next v) (letter_at (n % 6) (up_next v)) more (up_low v) a.falls p s refl a.owed)
    go false e on = lettered_end p n s v f a (ltb-false 1 n e)

-- A good path word of a number of at least 1.
pub lettered : (n : ℕ) (v : Word) → 1 ≤ n → T (reads true v) → weight v ≡ n → Lettered 0 n v (letters_in n n v)
lettered n v pos g e =
    lettered_on n 0 n 5 v true (le_refl n)
    (record {
      pos = pos;
      owed = none refl (omega arith);
      good = g;
      weighs = omega arith;
      falls = falls_on v true 0 n (omega arith) (λ y. absurd (omega arith)) g (omega arith) pos;
    })

-- ---- one tree word

-- The path words after a letter that two words begin with.
same_rest : (l p : ℕ) (t u : Word) → path_from p (l ∷ t) ≡ path_from p (l ∷ u) → (q : ℕ) × (path_from q t ≡ path_from q u)
unfolding path_from
same_rest zero p t u e = (p, e)
same_rest (suc zero) p t u e = (suc p, e)
same_rest (suc (suc zero)) p t u e = (p / 2, cc)
same_rest (suc (suc (suc zero))) p t u e = (0, cc)
same_rest (suc (suc (suc (suc l)))) p t u e = (p, e)

-- Words that are produced from the same number and have the same path word are the same.
pub same_word : (t u : Word) (n p : ℕ) → T (produced t n) → T (produced u n) → path_from p t ≡ path_from p u → t ≡ u
same_word [] [] n p h g e = refl
same_word [] (m ∷ u) n p h g e = absurd (omega (arith, only_one n h, (first_letter n m u g).more))
same_word (l ∷ t) [] n p h g e = absurd (omega (arith, only_one n g, (first_letter n l t h).more))
same_word (l ∷ t) (m ∷ u) n p h g e =
    let x = first_letter n l t h in
    let y = first_letter n m u g in
    let rises : rising (l ∷ t) ≡ rising (m ∷ u) = sym (up_path p (l ∷ t)) ∙ ap up_next e ∙ up_path p (m ∷ u) in
    let same : m ≡ l = y.is ∙ ap (letter_at (n % 6)) (sym rises) ∙ sym x.is in
    let (q, rest) = same_rest l p t u (rw same at e) in
    rw same (ap (λ (w : Word). l ∷ w) (same_word t u (number_after l n) q x.rest (rw same at y.rest) rest))
