-- Bytes as one number, the first highest: two such numbers stand to each other as their bytes do in the dictionary. The definitions are
-- in Eights.
-- In order: a digit in front of a number below the base; the number of bytes and its bound (`eights_fit`); bytes with anything behind
-- them stand in the dictionary as one letter would, their number (`before_one`, `order_one`); two words of as many bytes
-- (`bytes_order`); the theorem of record, for eight (`eights_order`).
use Rattle.std.specs.Prelude.{◌≡◌, ◌↔◌, ◌⊎◌, Bool, ◌&&◌, ◌||◌, ℕ, suc, ◌+◌, ◌*◌, ◌^◌, ◌<◌, T, ltb, eqb, length}
use Rattle.std.proofs.Math.Path.{refl, ap₂}
use Rattle.std.proofs.Common.{sym, ap, ◌∙◌, inl, inr, le_refl, suc-mul, mul-suc, mul_comm, mul_assoc, mul-le-mul_right, arith, lit<, ltb→lt, lt→ltb, pow-add, length-append, lt-ltb, le-ltb, eq-eqb, ne_eqb, ltb-true, ltb-false, eqb-true}
use Rattle.std.proofs.Math.Bool.{true, false}
use mathlib.Core.List.{[], ◌∷◌, ◌++◌, append-nil}
use Rattle.std.proofs.Math.Decide.{dec_lt}
use Rattle.std.proofs.lemmas.Bool.{eqb-false}
use Rattle.chains.specs.Words.{Word}
use Rattle.chains.specs.Listing.{before}
use Rattle.chains.proofs.Order.{before_cases}
use Rattle.comparing.specs.Answers.{order_of}
use Rattle.comparing.specs.Eights.{Bytes, high_first, EightOf}

-- ---- a digit in front of a number below the base

module _ (b x y r s : ℕ) (hr : r < b) (hs : s < b) where
  lower : x < y → x * b + r < y * b + s
  lower h = omega (arith, mul-le-mul_right b h, suc-mul x b)

  higher : y < x → y * b + s < x * b + r
  higher h = omega (arith, mul-le-mul_right b h, suc-mul y b)

  three : (x < y) ⊎ ((x ≡ y) ⊎ (y < x))
  three = go (dec_lt x y) (dec_lt y x)
    where
      go : Dec (x < y) → Dec (y < x) → (x < y) ⊎ ((x ≡ y) ⊎ (y < x))
      go (yes h) k = inl h
      go (no h) (yes k) = inr (inr k)
      go (no h) (no k) = inr (inl (omega arith))

  -- The higher digits decide, and where they are the same the lower ones.
  digit_lt : ltb (x * b + r) (y * b + s) ≡ (ltb x y || (eqb x y && ltb r s))
  digit_lt = go three
    where
      tails : (t : Bool) → ltb r s ≡ t → ltb (y * b + r) (y * b + s) ≡ t
      tails true e = lt-ltb (y * b + r) (y * b + s) (omega (arith, ltb-true r s e))
      tails false e = le-ltb (y * b + r) (y * b + s) (omega (arith, ltb-false r s e))

      go : (x < y) ⊎ ((x ≡ y) ⊎ (y < x)) → ltb (x * b + r) (y * b + s) ≡ (ltb x y || (eqb x y && ltb r s))
      go (inl h) = rw (lt-ltb x y h, lt-ltb (x * b + r) (y * b + s) (lower h))
      go (inr (inl e)) = rw (e, le-ltb y y (le_refl y), eq-eqb y y refl) (tails (ltb r s) refl)
      go (inr (inr h)) =
          rw (le-ltb x y (omega arith), ne_eqb x y (omega arith), le-ltb (x * b + r) (y * b + s) (omega (arith, higher h)))

  pub digit_eq : eqb (x * b + r) (y * b + s) ≡ (eqb x y && eqb r s)
  digit_eq = go three
    where
      tails : (t : Bool) → eqb r s ≡ t → eqb (y * b + r) (y * b + s) ≡ t
      tails true e = eq-eqb (y * b + r) (y * b + s) (omega (arith, eqb-true r s e))
      tails false e = ne_eqb (y * b + r) (y * b + s) (λ d. eqb-false r s e (omega arith))

      go : (x < y) ⊎ ((x ≡ y) ⊎ (y < x)) → eqb (x * b + r) (y * b + s) ≡ (eqb x y && eqb r s)
      go (inl h) = rw (ne_eqb x y (omega arith), ne_eqb (x * b + r) (y * b + s) (omega (arith, lower h)))
      go (inr (inl e)) = rw (e, eq-eqb y y refl) (tails (eqb r s) refl)
      go (inr (inr h)) = rw (ne_eqb x y (omega arith), ne_eqb (x * b + r) (y * b + s) (omega (arith, higher h)))

-- ---- the number of some bytes

-- One byte more.
base_suc : (n : ℕ) → 2 ^ (8 * suc n) ≡ 256 * 2 ^ (8 * n)
base_suc n = rw (mul-suc 8 n, pow-add 2 (8 * n) 8) (omega arith)

-- The number of n bytes is below 2^(8n); so that of eight bytes has 64 bits.
pub eights_fit : (w : Word) → Bytes w → high_first w < 2 ^ (8 * length w)
unfolding high_first
eights_fit [] b = lit< tt
eights_fit (x ∷ w) b =
    let h = eights_fit w (λ i. b (suc i)) in
    let m = mul-le-mul_right {m = suc x} {n = 256} (2 ^ (8 * length w)) (b 0) in
    rw (base_suc (length w)) (omega (arith, h, m, suc-mul x (2 ^ (8 * length w))))

-- A byte behind others.
pub one_behind : (w : Word) (x : ℕ) → high_first (w ++ (x ∷ [])) ≡ high_first w * 256 + x
unfolding high_first
one_behind [] x = omega arith
one_behind (y ∷ w) x =
    let b = 2 ^ (8 * length w) in
    let c : y * (256 * b) ≡ y * b * 256 = ap (λ n. y * n) (mul_comm 256 b) ∙ sym (mul_assoc y b 256) in
    let l : length (w ++ (x ∷ [])) ≡ suc (length w) = length-append w (x ∷ []) ∙ omega arith in
    rw (l, base_suc (length w)) (omega (arith, c, one_behind w x))

-- ---- bytes with anything behind them stand as one letter would, their number

regroup : (l e m f c : Bool) → (l || (e && (m || (f && c)))) ≡ ((l || (e && m)) || ((e && f) && c))
regroup true e m f c = refl
regroup false true m f c = refl
regroup false false m f c = refl

pub before_one : (u v s t : Word) → length u ≡ length v → Bytes u → Bytes v
    → before (u ++ s) (v ++ t) ≡ before (high_first u ∷ s) (high_first v ∷ t)
unfolding before high_first
before_one [] [] s t e p q = refl
before_one [] (y ∷ v) s t e p q = absurd (omega arith)
before_one (x ∷ u) [] s t e p q = absurd (omega arith)
before_one (x ∷ u) (y ∷ v) s t e p q =
    let d : length u ≡ length v = omega arith in
    let hu : high_first u < 2 ^ (8 * length v) = rw (← d) (eights_fit u (λ i. p (suc i))) in
    let hv = eights_fit v (λ i. q (suc i)) in
    rw (
      before_one u v s t d (λ i. p (suc i)) (λ i. q (suc i)),
      d,
      digit_lt (2 ^ (8 * length v)) x y (high_first u) (high_first v) hu hv,
      digit_eq (2 ^ (8 * length v)) x y (high_first u) (high_first v) hu hv,
    )
    (regroup (ltb x y) (eqb x y) (ltb (high_first u) (high_first v)) (eqb (high_first u) (high_first v)) (before s t))

pub order_one : (u v s t : Word) → length u ≡ length v → Bytes u → Bytes v
    → order_of (u ++ s) (v ++ t) ≡ order_of (high_first u ∷ s) (high_first v ∷ t)
unfolding order_of
order_one u v s t e p q = rw (before_one u v s t e p q, before_one v u t s (sym e) q p)

-- ---- two words of as many bytes

module _ (u v : Word) (e : length u ≡ length v) (p : Bytes u) (q : Bytes v) where
  before_is : before u v ≡ ltb (high_first u) (high_first v)
  unfolding before
  before_is =
      ap₂ before (sym (append-nil u)) (sym (append-nil v))
      ∙ before_one u v [] [] e p q
      ∙ alone (ltb (high_first u) (high_first v)) (eqb (high_first u) (high_first v))
    where
      alone : (a b : Bool) → (a || (b && false)) ≡ a
      alone true b = refl
      alone false true = refl
      alone false false = refl

  bytes_less : (high_first u < high_first v) ↔ T (before u v)
  bytes_less = (
    λ h. rw before_is (lt→ltb (high_first u) (high_first v) h),
    λ t. ltb→lt (high_first u) (high_first v) (rw before_is at t),
  )

-- One number is below the other exactly if its word is earlier, and the numbers are equal exactly if the words are.
pub bytes_order : (u v : Word) → length u ≡ length v → Bytes u → Bytes v
    → ((high_first u < high_first v) ↔ T (before u v)) × ((high_first u ≡ high_first v) ↔ (u ≡ v))
bytes_order u v e p q = (bytes_less u v e p q, (same (before_cases u v), ap high_first))
  where
    same : T (before u v) ⊎ ((u ≡ v) ⊎ T (before v u)) → high_first u ≡ high_first v → u ≡ v
    same (inl t) h = absurd (omega (arith, (bytes_less u v e p q).1 t))
    same (inr (inl d)) h = d
    same (inr (inr t)) h = absurd (omega (arith, (bytes_less v u (sym e) q p).1 t))

-- ---- the theorem of record

-- The same of two numbers x and y of eight letters.
pub eights_order : (u v : Word) (x y : ℕ) → EightOf u x → EightOf v y → ((x < y) ↔ T (before u v)) × ((x ≡ y) ↔ (u ≡ v))
eights_order u v x y p q = rw (p.number, q.number) (bytes_order u v (p.long ∙ sym q.long) p.bytes q.bytes)
