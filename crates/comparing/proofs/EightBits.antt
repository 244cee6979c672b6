-- The test of all letters of a number at once, by their bits, answers as the test of each letter after the one before it.
-- In order: the test; one letter; a letter in front of others; any number of letters; eight letters, with a 3 before the first.
use mathlib.Core.Path.{◌≡◌, refl, sym, ap, ◌∙◌}
use mathlib.Core.Bool.{Bool, true, false, ◌&&◌}
use mathlib.Core.List.{[], ◌∷◌}
use Prim.Native.Nat.{ℕ, zero, suc, ◌+◌, ◌*◌, ◌/◌, ◌%◌, ◌^◌, ◌≤◌, ◌<◌}
use native.Mathlib.Nat.{mul_assoc, mul_comm, add-mul}
use native.Mathlib.Omega.{arith}
use lib.Dec.{eqb, lit<, lit≤}
use lib.Seq.{length-take-le, take_all, take-suc}
use lib.Bits.{bit_and, bit_or, and_block, or_block, and_lt, or_lt, and_le_l, and_le_r}
use lib.ListN.{length, get_or, take, replicate, length-replicate}
use borrow.Author.Tests.{ne_eqb}
use Rattle.chains.specs.Words.{Word}
use Rattle.comparing.specs.Eights.{Bytes, high_first, EightOf, may_follow, all_follow}
use Rattle.comparing.specs.EightLaws.{digit_eq, eights_fit, one_behind}
use Rattle.comparing.proofs.EightAt.{bytes_take}

-- ---- the test

-- The bits that the letters x may have: p are the letters before them, and ones and twos have a 1 and a 2 for each letter.
unfoldable pub allowed : ℕ → ℕ → ℕ → ℕ → ℕ
allowed ones twos x p = bit_or ones (bit_and twos (bit_or (bit_and x ones * 2) p))

-- Whether they have no others.
unfoldable pub passes : ℕ → ℕ → ℕ → ℕ → Bool
passes ones twos x p = eqb (bit_and x (allowed ones twos x p)) x

-- ---- one letter

above_3 : (q x : ℕ) → 4 ≤ x → passes 1 2 x q ≡ false
unfolding passes allowed
above_3 q x h =
    let m = bit_and 2 (bit_or (bit_and x 1 * 2) q) in
    let l = or_lt 2 1 m (lit< tt) (omega (arith, and_le_l 2 (bit_or (bit_and x 1 * 2) q))) in
    ne_eqb (bit_and x (bit_or 1 m)) x (omega (arith, and_le_r x (bit_or 1 m)))

-- A letter q is one of 0 to 3.
by_q : (P : ℕ → Type 0) → P 0 → P 1 → P 2 → P 3 → (q : ℕ) → q ≤ 3 → P q
by_q P p₀ p₁ p₂ p₃ zero h = p₀
by_q P p₀ p₁ p₂ p₃ (suc zero) h = p₁
by_q P p₀ p₁ p₂ p₃ (suc (suc zero)) h = p₂
by_q P p₀ p₁ p₂ p₃ (suc (suc (suc zero))) h = p₃
by_q P p₀ p₁ p₂ p₃ (suc (suc (suc (suc q)))) h = absurd (omega arith)

one_letter : (x q : ℕ) → q ≤ 3 → passes 1 2 x q ≡ may_follow q x
unfolding passes allowed may_follow
one_letter zero q h = by_q (λ k. passes 1 2 0 k ≡ may_follow k 0) refl refl refl refl q h
one_letter (suc zero) q h = by_q (λ k. passes 1 2 1 k ≡ may_follow k 1) refl refl refl refl q h
one_letter (suc (suc zero)) q h = by_q (λ k. passes 1 2 2 k ≡ may_follow k 2) refl refl refl refl q h
one_letter (suc (suc (suc zero))) q h = by_q (λ k. passes 1 2 3 k ≡ may_follow k 3) refl refl refl refl q h
one_letter (suc (suc (suc (suc x)))) q h = above_3 q (suc (suc (suc (suc x)))) (omega arith)

-- ---- a letter in front of others

module _ (k x q r p m₁ m₂ : ℕ) (hr : r < 2 ^ k) (hp : p < 2 ^ k) (h₁ : m₁ * 2 < 2 ^ k) (h₂ : m₂ < 2 ^ k) where
  doubled : (bit_and x 1 * 2 ^ k + bit_and r m₁) * 2 ≡ (bit_and x 1 * 2) * 2 ^ k + bit_and r m₁ * 2
  doubled =
      add-mul (bit_and x 1 * 2 ^ k) (bit_and r m₁) 2
      ∙ ap (λ n. n + bit_and r m₁ * 2)
      (mul_assoc (bit_and x 1) (2 ^ k) 2 ∙ ap (λ n. bit_and x 1 * n) (mul_comm (2 ^ k) 2) ∙ sym (mul_assoc (bit_and x 1) 2 (2 ^ k)))

  in_front : passes (1 * 2 ^ k + m₁) (2 * 2 ^ k + m₂) (x * 2 ^ k + r) (q * 2 ^ k + p) ≡ (passes 1 2 x q && passes m₁ m₂ r p)
  unfolding passes allowed
  in_front =
      let e = bit_or (bit_and x 1 * 2) q in
      let f = bit_or (bit_and r m₁ * 2) p in
      let l : bit_and r m₁ * 2 < 2 ^ k = omega (arith, and_le_r r m₁) in
      let o = or_lt k (bit_and r m₁ * 2) p l hp in
      let a = and_lt k m₂ f h₂ o in
      let w = or_lt k m₁ (bit_and m₂ f) (omega arith) a in
      rw (
        and_block k x 1 r m₁ hr (omega arith),
        doubled,
        or_block k (bit_and x 1 * 2) q (bit_and r m₁ * 2) p l hp,
        and_block k 2 e m₂ f h₂ o,
        or_block k 1 (bit_and 2 e) m₁ (bit_and m₂ f) (omega arith) a,
        and_block k x (bit_or 1 (bit_and 2 e)) r (bit_or m₁ (bit_and m₂ f)) hr w,
      )
      (digit_eq (2 ^ k) (bit_and x (bit_or 1 (bit_and 2 e))) x (bit_and r (bit_or m₁ (bit_and m₂ f))) r
      (and_lt k r (bit_or m₁ (bit_and m₂ f)) hr w) hr)

-- ---- any number of letters

-- The letters without the last.
without_last : (n : ℕ) (w : Word) → length w ≡ suc n → high_first w ≡ high_first (take n w) * 256 + get_or w n 0
without_last n w e =
    ap high_first (sym (take_all (suc n) w (omega arith)) ∙ take-suc w n 0 (omega arith)) ∙ one_behind (take n w) (get_or w n 0)

abbrev all : ℕ → ℕ → ℕ
all n x = high_first (replicate n x)

pub bytes_all : (n x : ℕ) → x < 256 → Bytes (replicate n x)
bytes_all zero x h i = lit< tt
bytes_all (suc n) x h zero = h
bytes_all (suc n) x h (suc i) = bytes_all n x h i

all_below : (n x : ℕ) → x < 256 → all n x < 2 ^ (8 * n)
all_below n x h = rw (length-replicate n x) at (eights_fit (replicate n x) (bytes_all n x h))

twos : (n : ℕ) → all n 1 * 2 ≡ all n 2
unfolding high_first
twos zero = refl
twos (suc n) = rw (length-replicate {A = ℕ} n 1, length-replicate {A = ℕ} n 2) (omega (arith, twos n))

none : passes 0 0 0 0 ≡ true
unfolding passes allowed
none = refl

-- A letter above 3 may follow none, and what comes after it does not matter.
low_rest : (q x : ℕ) (s t : Bool) → (x ≤ 3 → s ≡ t) → (may_follow q x && s) ≡ (may_follow q x && t)
unfolding may_follow
low_rest q zero s t h = h (omega arith)
low_rest q (suc zero) s t h = h (omega arith)
low_rest q (suc (suc zero)) s t h = rw (h (omega arith))
low_rest q (suc (suc (suc zero))) s t h = h (omega arith)
low_rest q (suc (suc (suc (suc x)))) s t h = refl

-- The letters before those of u are q and u without its last.
passes_all : (q : ℕ) (u : Word) → q ≤ 3 → Bytes u
    → passes (all (length u) 1) (all (length u) 2) (high_first u) (high_first (take (length u) (q ∷ u))) ≡ all_follow q u
unfolding high_first all_follow
passes_all q [] h b = none
passes_all q (x ∷ u) h b =
    let n = length u in
    let c : Bytes u = λ i. b (suc i) in
    let p = high_first (take n (x ∷ u)) in
    let l : length (take n (x ∷ u)) ≡ n = length-take-le n (x ∷ u) (omega arith) in
    let hp : p < 2 ^ (8 * n) = rw l at (eights_fit (take n (x ∷ u)) (bytes_take n (x ∷ u) b)) in
    let h₂ = all_below n 2 (lit< tt) in
    rw (length-replicate {A = ℕ} n 1, length-replicate {A = ℕ} n 2, l)
    (in_front (8 * n) x q (high_first u) p (all n 1) (all n 2) (eights_fit u c) hp (rw (twos n) h₂) h₂
    ∙ ap (λ t. t && passes (all n 1) (all n 2) (high_first u) p) (one_letter x q h)
    ∙ low_rest q x (passes (all n 1) (all n 2) (high_first u) p) (all_follow x u) (λ k. passes_all x u k c))

-- ---- eight letters

module _ (u : Word) (x : ℕ) (o : EightOf u x) where
  pub follow_by_bits :
      passes 0x0101_0101_0101_0101 0x0202_0202_0202_0202 x (0x0300_0000_0000_0000 + x / 256) ≡ all_follow 3 u
  unfolding high_first
  follow_by_bits =
      let l = rw o.long at (without_last 8 (3 ∷ u) (ap suc o.long)) in
      let p : high_first (take 8 (3 ∷ u)) ≡ 0x0300_0000_0000_0000 + high_first u / 256 = omega (arith, l, o.bytes 7) in
      rw (o.number, ← p) (rw o.long at (passes_all 3 u (lit≤ tt) o.bytes))

  pub last_letter : x % 256 ≡ get_or u 7 0
  last_letter = omega (arith, o.number, without_last 7 u o.long, o.bytes 7)
