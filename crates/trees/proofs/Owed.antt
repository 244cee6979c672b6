-- The letters 1 that are owed on the way along a tree word. Reading from the front, a letter 1 adds one to what the letters after it
-- stand for. It is paid at the next letters 2 and 3, where a point of the path comes.
-- The lines allow few cases of what is owed at which number: these are the cases (`Owed`), and every letter leads from one to
-- another (`onward`).
use Rattle.std.specs.Prelude.{◌≡◌}
use Rattle.std.proofs.Math.Path.{refl}
use Prim.Native.Nat.{ℕ, zero, suc, ◌+◌, ◌-◌, ◌*◌, ◌/◌, ◌%◌, ◌≤◌, ◌<◌}
use Rattle.std.proofs.Common.{arith}
use Rattle.trees.specs.TreeOf.{letter_at}

-- p letters 1 are owed at the number n, and u tells whether 3 is the next letter that is not 1. If each point of the path allows for
-- two letters and a half, at least s half letters are left over here: the length of a tree word follows from that.
pub data Owed (p n u s : ℕ) : Type 0 where
  -- Nothing is owed.
  none : p ≡ 0 → s ≤ 5 → Owed p n u s
  -- The number is one less than a multiple of three.
  less : p ≡ 1 → n % 3 ≡ 2 → u ≡ 0 → s ≤ 8 → Owed p n u s
  -- The other cases, by the remainder modulo six.
  at_zero : p ≡ 1 → n % 6 ≡ 0 → s ≤ 7 → Owed p n u s
  at_three : p ≡ 1 → n % 6 ≡ 3 → u ≡ 1 → s ≤ 8 → Owed p n u s
  at_four : 1 ≤ p → p ≤ 3 → n % 6 ≡ 4 → u ≡ 0 → s ≤ 8 + 3 * (p / 2) → Owed p n u s
  at_five : p ≡ 2 → n % 6 ≡ 5 → u ≡ 0 → s ≤ 9 → Owed p n u s

-- What the letter l leads to.
pub data Onward (p n u s l : ℕ) : Type 0 where
  one : l ≡ 1 → (n % 3 ≡ 0 → u ≡ 0) → Owed (suc p) (n - 1) u (s + 2) → Onward p n u s l
  two : l ≡ 2 → u ≡ 0 → n % 2 ≡ 0 → 1 ≤ n / 2 % 3 → p ≤ 3
      → ((v : ℕ) → (n / 2 % 3 ≡ 2 → v ≡ 0) → Owed (p / 2) (n / 2) v (s - 3)) → Onward p n u s l
  three : l ≡ 3 → u ≡ 1 → n % 3 ≡ 0 → p ≤ 1 → s ≤ 8 → Onward p n u s l

-- The half of a number by its remainder modulo six.
half_rest : (n q : ℕ) → n % 6 ≡ 2 * q → q ≤ 2 → n / 2 % 3 ≡ q
half_rest n q e h = let k : n / 2 ≡ 3 * (n / 6) + q = omega arith in omega arith

module _ (n u l : ℕ) (more : 1 < n) (low : u ≤ 1) (falls : n % 3 ≡ 2 → u ≡ 0) where
  by_three : (p s : ℕ) → l ≡ 1 + 2 * u → n % 3 ≡ 0 → p ≤ 1 → s ≤ 8 → (u ≡ 0 → Owed (suc p) (n - 1) u (s + 2)) → Onward p n u s l
  by_three p s e r h k on = go u refl
    where
      go : (v : ℕ) → u ≡ v → Onward p n u s l
      go zero d = one (omega arith) (λ _. d) (on d)
      go (suc zero) d = three (omega arith) d r h k
      go (suc (suc v)) d = absurd (omega arith)

  owing_none : (s r : ℕ) → n % 6 ≡ r → l ≡ letter_at r u → s ≤ 5 → Onward 0 n u s l
  unfolding letter_at
  owing_none s zero e d k = by_three 0 s d (omega arith) (omega arith) (omega arith) (λ z. less refl (omega arith) z (omega arith))
  owing_none s (suc zero) e d k = one d (λ z. absurd (omega arith)) (at_zero refl (omega arith) (omega arith))
  owing_none s (suc (suc zero)) e d k =
      let h = half_rest n 1 e (omega arith) in
      two d (falls (omega arith)) (omega arith) (omega arith) (omega arith) (λ v f. none refl (omega arith))
  owing_none s (suc (suc (suc zero))) e d k =
      by_three 0 s d (omega arith) (omega arith) (omega arith) (λ z. less refl (omega arith) z (omega arith))
  owing_none s (suc (suc (suc (suc zero)))) e d k = go u refl
    where
      go : (v : ℕ) → u ≡ v → Onward 0 n u s l
      go zero g =
          let h = half_rest n 2 e (omega arith) in
          two (omega arith) g (omega arith) (omega arith) (omega arith) (λ v f. none refl (omega arith))
      go (suc zero) g = one (omega arith) (λ z. absurd (omega arith)) (at_three refl (omega arith) g (omega arith))
      go (suc (suc v)) g = absurd (omega arith)
  owing_none s (suc (suc (suc (suc (suc r))))) e d k =
      one d (λ z. absurd (omega arith)) (at_four (omega arith) (omega arith) (omega arith) (falls (omega arith)) (omega arith))

  owing_less : (s r : ℕ) → n % 6 ≡ r → n % 3 ≡ 2 → u ≡ 0 → l ≡ letter_at r u → s ≤ 8 → Onward 1 n u s l
  unfolding letter_at
  owing_less s (suc (suc zero)) e m z d k =
      let h = half_rest n 1 e (omega arith) in
      two d z (omega arith) (omega arith) (omega arith) (λ v f. none refl (omega arith))
  owing_less s (suc (suc (suc (suc (suc r))))) e m z d k =
      one d (λ y. absurd (omega arith)) (at_four (omega arith) (omega arith) (omega arith) z (omega arith))
  owing_less s zero e m z d k = absurd (omega arith)
  owing_less s (suc zero) e m z d k = absurd (omega arith)
  owing_less s (suc (suc (suc zero))) e m z d k = absurd (omega arith)
  owing_less s (suc (suc (suc (suc zero)))) e m z d k = absurd (omega arith)

  owing_four : (p s : ℕ) → 1 ≤ p → p ≤ 3 → n % 6 ≡ 4 → u ≡ 0 → l ≡ letter_at 4 u → s ≤ 8 + 3 * (p / 2) → Onward p n u s l
  unfolding letter_at
  owing_four p s a b e z d k =
      let h = half_rest n 2 e (omega arith) in
      two (omega arith) z (omega arith) (omega arith) b (go p a b k h)
    where
      go : (q : ℕ) → 1 ≤ q → q ≤ 3 → s ≤ 8 + 3 * (q / 2) → n / 2 % 3 ≡ 2 → (v : ℕ) → (n / 2 % 3 ≡ 2 → v ≡ 0) → Owed (q / 2) (n / 2) v (s - 3)
      go zero a b k h v f = absurd (omega arith)
      go (suc zero) a b k h v f = none refl (omega arith)
      go (suc (suc zero)) a b k h v f = less refl h (f h) (omega arith)
      go (suc (suc (suc zero))) a b k h v f = less refl h (f h) (omega arith)
      go (suc (suc (suc (suc q)))) a b k h v f = absurd (omega arith)

  pub onward : (p s : ℕ) → l ≡ letter_at (n % 6) u → Owed p n u s → Onward p n u s l
  unfolding letter_at
  onward p s d (none e k) = rw e (owing_none s (n % 6) refl d k)
  onward p s d (less e m z k) = rw e (owing_less s (n % 6) refl m z d k)
  onward p s d (at_zero e m k) =
      by_three p s (rw m at d) (omega arith) (omega arith) (omega arith) (λ z. at_five (omega arith) (omega arith) z (omega arith))
  onward p s d (at_three e m z k) = three (omega (arith, rw m at d)) z (omega arith) (omega arith) k
  onward p s d (at_four a b m z k) = owing_four p s a b m z (rw m at d) k
  onward p s d (at_five e m z k) =
      one (rw m at d) (λ y. absurd (omega arith)) (at_four (omega arith) (omega arith) (omega arith) z (rw e (omega arith)))

-- At the number 1 nothing is owed.
pub owed_at_one : (p u s : ℕ) → Owed p 1 u s → (p ≡ 0) × (s ≤ 5)
owed_at_one p u s (none e k) = (e, k)
owed_at_one p u s (less e m z k) = absurd (omega arith)
owed_at_one p u s (at_zero e m k) = absurd (omega arith)
owed_at_one p u s (at_three e m z k) = absurd (omega arith)
owed_at_one p u s (at_four a b m z k) = absurd (omega arith)
owed_at_one p u s (at_five e m z k) = absurd (omega arith)

-- At most three letters 1 are owed.
pub owed_few : (p n u s : ℕ) → Owed p n u s → p ≤ 3
owed_few p n u s (none e k) = omega arith
owed_few p n u s (less e m z k) = omega arith
owed_few p n u s (at_zero e m k) = omega arith
owed_few p n u s (at_three e m z k) = omega arith
owed_few p n u s (at_four a b m z k) = b
owed_few p n u s (at_five e m z k) = omega arith
