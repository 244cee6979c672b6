-- A tree word letter by letter. At a number above 1 the first letter of a produced word follows from the number's remainder modulo
-- six and from whether 3 is the first letter that is not 1; and the letters after it are produced from the number after it.
-- In order: the definitions; what a line asks of the letters; the law, there and back (`first_letter`, `with_letter`).
use Rattle.std.specs.Prelude.{◌≡◌, refl, ◌⊎◌, Bool, true, false, ◌&&◌, ◌||◌, [], ◌∷◌, ltb, eqb}
use Rattle.std.proofs.Common.{ap, ◌∙◌, inl, inr, arith, eqb→eq, ltb→lt, lt→ltb}
use Rattle.std.proofs.Math.Path.{sym}
use Prim.Native.Nat.{ℕ, zero, suc, ◌-◌, ◌/◌, ◌%◌, ◌≤◌, ◌<◌}
use Rattle.std.proofs.Math.Dec.{T}
use Rattle.std.specs.Float.Ieee.Fits.{and_i, and_l, and_r, eq→eqb}
use Rattle.std.proofs.Math.Facts.{or_yes}
use Rattle.chains.specs.Words.{Word}
use Rattle.trees.specs.Trees.{line, produced, produced_after}
use Rattle.trees.specs.TreeOf.{letter_at, number_after}

-- ---- definitions

-- 1 where the first letter that is not 1 is 3, and at the end of the word; 0 where it is 2. So on the path of the chain b rises next,
-- or a does. Letters outside 1 to 3 are passed over.
unfoldable pub rising : Word → ℕ
rising [] = 1
rising (zero ∷ w) = rising w
rising (suc zero ∷ w) = rising w
rising (suc (suc zero) ∷ w) = 0
rising (suc (suc (suc zero)) ∷ w) = 1
rising (suc (suc (suc (suc l))) ∷ w) = rising w

-- The letter l comes first in a word produced from n, and t are the letters after it.
pub record Letter (n l : ℕ) (t : Word) : Type 0 where
  pub more : 1 < n
  pub is : l ≡ letter_at (n % 6) (rising (l ∷ t))
  pub falls : n % 3 ≡ 2 → rising (l ∷ t) ≡ 0
  pub rest : T (produced t (number_after l n))

-- ---- what a line asks of the letters

is_letter : (l x : ℕ) (b : Bool) → T (eqb l x && b) → (l ≡ x) × T b
is_letter l x b h = (eqb→eq l x (and_l (eqb l x) b h), and_r (eqb l x) b h)

after_letter : (x : ℕ) (w : Word) (n : ℕ) → T (produced_after x w n) → (v : Word) × (w ≡ x ∷ v) × T (produced v n)
unfolding produced
after_letter x [] n h = absurd h
after_letter x (l ∷ w) n h = let (is, rest) = is_letter l x (produced w n) h in (w, ap (λ (y : ℕ). y ∷ w) is, rest)

or_l : (a b : Bool) → T a → T (a || b)
or_l true b h = tt
or_l false b h = absurd h

-- The line of a number above 1.
abbrev On : ℕ → ℕ → ℕ → Word → Type 0
On r n l w = T (line r n l (λ m. produced w m) (λ x m. produced_after x w m))

line_of : (n l : ℕ) (w : Word) → T (produced (l ∷ w) n) → (1 < n) × On (n % 6) n l w
unfolding produced
line_of n l w h =
    let on = line (n % 6) n l (λ m. produced w m) (λ x m. produced_after x w m) in
    (ltb→lt 1 n (and_l (ltb 1 n) on h), and_r (ltb 1 n) on h)

by_line : (r n l : ℕ) (w : Word) → 1 < n → n % 6 ≡ r → On r n l w → T (produced (l ∷ w) n)
unfolding produced
by_line r n l w more e h = and_i (ltb 1 n) _ (lt→ltb 1 n more) (rw e h)

-- ---- the law, there

pub only_one : (n : ℕ) → T (produced [] n) → n ≡ 1
unfolding produced
only_one n h = eqb→eq n 1 h

-- A word from a number with the remainder 5 begins with 1, 2.
five_falls : (t : Word) (m : ℕ) → m % 6 ≡ 5 → T (produced t m) → rising t ≡ 0
unfolding rising line
five_falls [] m e h = absurd (omega (arith, only_one m h))
five_falls (l ∷ t) m e h =
    let (first, rest) = is_letter l 1 (produced_after 2 t ((m - 1) / 2)) (rw e at (line_of m l t h).1) in
    let (v, starts, _) = after_letter 2 t ((m - 1) / 2) rest in
    rw (first, starts) refl

-- The letter at hand, by the remainder.
module _ (n : ℕ) (t : Word) (more : 1 < n) where
  is_three : n % 3 ≡ 0 → letter_at (n % 6) 1 ≡ 3 → T (produced t (n / 3)) → Letter n 3 t
  unfolding rising number_after
  is_three e d h = record { more = more; is = sym d; falls = λ z. absurd (omega arith); rest = h }

  is_two : letter_at (n % 6) 0 ≡ 2 → T (produced t (n / 2)) → Letter n 2 t
  unfolding rising number_after
  is_two d h = record { more = more; is = sym d; falls = λ z. refl; rest = h }

  is_one : (n % 3 ≡ 2 → rising t ≡ 0) → letter_at (n % 6) (rising t) ≡ 1 → T (produced t (n - 1)) → Letter n 1 t
  unfolding rising number_after
  is_one f d h = record { more = more; is = sym d; falls = f; rest = h }

module _ (n : ℕ) (more : 1 < n) where
  at_remainder : (r l : ℕ) (t : Word) → n % 6 ≡ r → On r n l t → Letter n l t
  unfolding line letter_at rising
  at_remainder zero l t e h = go (or_yes (eqb l 3 && produced t (n / 3)) (eqb l 1 && produced t (n - 1)) h)
    where
      go : T (eqb l 3 && produced t (n / 3)) ⊎ T (eqb l 1 && produced t (n - 1)) → Letter n l t
      go (inl k) =
          let (is, rest) = is_letter l 3 (produced t (n / 3)) k in
          rw is (is_three n t more (omega arith) (rw e refl) rest)
      go (inr k) =
          let (is, rest) = is_letter l 1 (produced t (n - 1)) k in
          let f : rising t ≡ 0 = five_falls t (n - 1) (omega arith) rest in
          rw is (is_one n t more (λ _. f) (rw (e, f) refl) rest)
  at_remainder (suc zero) l t e h =
      let (is, rest) = is_letter l 1 (produced t (n - 1)) h in
      rw is (is_one n t more (λ z. absurd (omega arith)) (rw e refl) rest)
  at_remainder (suc (suc zero)) l t e h =
      let (is, rest) = is_letter l 2 (produced t (n / 2)) h in
      rw is (is_two n t more (rw e refl) rest)
  at_remainder (suc (suc (suc zero))) l t e h =
      go (or_yes (eqb l 3 && produced t (n / 3)) (eqb l 1 && produced_after 2 t ((n - 1) / 2)) h)
    where
      go : T (eqb l 3 && produced t (n / 3)) ⊎ T (eqb l 1 && produced_after 2 t ((n - 1) / 2)) → Letter n l t
      go (inl k) =
          let (is, rest) = is_letter l 3 (produced t (n / 3)) k in
          rw is (is_three n t more (omega arith) (rw e refl) rest)
      go (inr k) =
          let (is, rest) = is_letter l 1 (produced_after 2 t ((n - 1) / 2)) k in
          let (v, starts, on) = after_letter 2 t ((n - 1) / 2) rest in
          rw (is, starts)
          (is_one n (2 ∷ v) more (λ z. refl) (rw e refl)
          (by_line 2 (n - 1) 2 v (omega arith) (omega arith) on))
  at_remainder (suc (suc (suc (suc zero)))) l t e h =
      go (or_yes (eqb l 2 && produced t (n / 2)) (eqb l 1 && produced_after 3 t ((n - 1) / 3)) h)
    where
      go : T (eqb l 2 && produced t (n / 2)) ⊎ T (eqb l 1 && produced_after 3 t ((n - 1) / 3)) → Letter n l t
      go (inl k) =
          let (is, rest) = is_letter l 2 (produced t (n / 2)) k in
          rw is (is_two n t more (rw e refl) rest)
      go (inr k) =
          let (is, rest) = is_letter l 1 (produced_after 3 t ((n - 1) / 3)) k in
          let (v, starts, on) = after_letter 3 t ((n - 1) / 3) rest in
          rw (is, starts)
          (is_one n (3 ∷ v) more (λ z. absurd (omega arith)) (rw e refl)
          (by_line 3 (n - 1) 3 v (omega arith) (omega arith) (or_l (produced v ((n - 1) / 3)) _ on)))
  at_remainder (suc (suc (suc (suc (suc r))))) l t e h =
      let (is, rest) = is_letter l 1 (produced_after 2 t ((n - 1) / 2)) h in
      let (v, starts, on) = after_letter 2 t ((n - 1) / 2) rest in
      rw (is, starts)
      (is_one n (2 ∷ v) more (λ z. refl) (rw e refl)
      (by_line 4 (n - 1) 2 v (omega arith) (omega arith) (or_l (produced v ((n - 1) / 2)) _ on)))

pub first_letter : (n l : ℕ) (t : Word) → T (produced (l ∷ t) n) → Letter n l t
first_letter n l t h = let (more, on) = line_of n l t h in at_remainder n more (n % 6) l t refl on

-- ---- the law, back

pub rising_low : (t : Word) → rising t ≤ 1
unfolding rising
rising_low [] = omega arith
rising_low (zero ∷ t) = rising_low t
rising_low (suc zero ∷ t) = rising_low t
rising_low (suc (suc zero) ∷ t) = omega arith
rising_low (suc (suc (suc zero)) ∷ t) = omega arith
rising_low (suc (suc (suc (suc l))) ∷ t) = rising_low t

pub letter_range : (r u : ℕ) → u ≤ 1 → (1 ≤ letter_at r u) × (letter_at r u ≤ 3)
unfolding letter_at
letter_range zero u h = (omega arith, omega arith)
letter_range (suc zero) u h = (omega arith, omega arith)
letter_range (suc (suc zero)) u h = (omega arith, omega arith)
letter_range (suc (suc (suc zero))) u h = (omega arith, omega arith)
letter_range (suc (suc (suc (suc zero)))) u h = (omega arith, omega arith)
letter_range (suc (suc (suc (suc (suc r))))) u h = (omega arith, omega arith)

-- A word produced from m, where m has the remainder q, begins with the letter x of that remainder.
begins : (x q : ℕ) (t : Word) (m : ℕ) → m % 6 ≡ q → 1 < m → letter_at q (rising t) ≡ x → T (produced t m)
    → T (produced_after x t (number_after x m))
unfolding produced
begins x q [] m r more e h = absurd (omega (arith, only_one m h))
begins x q (l ∷ t) m r more e h =
    let k = first_letter m l t h in
    let same : l ≡ x = k.is ∙ rw r e in
    and_i (eqb l x) (produced t (number_after x m)) (eq→eqb same) (rw same at k.rest)

pub with_letter : (n l : ℕ) (t : Word) → Letter n l t → T (produced (l ∷ t) n)
unfolding letter_at rising number_after line
with_letter n zero t k = absurd (omega (arith, k.is, letter_range (n % 6) (rising t) (rising_low t)))
with_letter n (suc zero) t k = go (n % 6) refl (sym k.is)
  where
    go : (r : ℕ) → n % 6 ≡ r → letter_at r (rising t) ≡ 1 → T (produced (1 ∷ t) n)
    go zero e d = by_line 0 n 1 t k.more e k.rest
    go (suc zero) e d = by_line 1 n 1 t k.more e k.rest
    go (suc (suc zero)) e d = absurd (omega arith)
    go (suc (suc (suc zero))) e d = by_line 3 n 1 t k.more e (begins 2 2 t (n - 1) (omega arith) (omega arith) refl k.rest)
    go (suc (suc (suc (suc zero)))) e d =
        by_line 4 n 1 t k.more e (begins 3 3 t (n - 1) (omega arith) (omega arith) (omega arith) k.rest)
    go (suc (suc (suc (suc (suc r))))) e d =
        let f : rising t ≡ 0 = k.falls (omega arith) in
        by_line 5 n 1 t k.more (omega arith) (begins 2 4 t (n - 1) (omega arith) (omega arith) (omega arith) k.rest)
with_letter n (suc (suc zero)) t k = go (n % 6) refl (sym k.is)
  where
    go : (r : ℕ) → n % 6 ≡ r → letter_at r 0 ≡ 2 → T (produced (2 ∷ t) n)
    go zero e d = absurd (omega arith)
    go (suc zero) e d = absurd (omega arith)
    go (suc (suc zero)) e d = by_line 2 n 2 t k.more e k.rest
    go (suc (suc (suc zero))) e d = absurd (omega arith)
    go (suc (suc (suc (suc zero)))) e d = by_line 4 n 2 t k.more e (or_l (produced t (n / 2)) _ k.rest)
    go (suc (suc (suc (suc (suc r))))) e d = absurd (omega arith)
with_letter n (suc (suc (suc zero))) t k = go (n % 6) refl (sym k.is)
  where
    go : (r : ℕ) → n % 6 ≡ r → letter_at r 1 ≡ 3 → T (produced (3 ∷ t) n)
    go zero e d = by_line 0 n 3 t k.more e (or_l (produced t (n / 3)) _ k.rest)
    go (suc zero) e d = absurd (omega arith)
    go (suc (suc zero)) e d = absurd (omega arith)
    go (suc (suc (suc zero))) e d = by_line 3 n 3 t k.more e (or_l (produced t (n / 3)) _ k.rest)
    go (suc (suc (suc (suc zero)))) e d = absurd (omega arith)
    go (suc (suc (suc (suc (suc r))))) e d = absurd (omega arith)
with_letter n (suc (suc (suc (suc l)))) t k = absurd (omega (arith, k.is, letter_range (n % 6) (rising t) (rising_low t)))
