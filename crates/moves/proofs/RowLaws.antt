-- Laws of rows (Rows).
--
-- In this order: powers of 2; the chain condition; rows without a part; two rows side by side; every row below or above one;
-- sums. The laws of a move on rows are in RowMoveLaws, those of `rows_of` in Layouts.
use Rattle.std.specs.Prelude.{◌≡◌, refl, [], ◌∷◌, ◌++◌, ℕ, zero, suc, ◌+◌, ◌-◌, ◌*◌, ◌^◌, ◌≤◌, ◌<◌, length, get_or, set, take, drop}
use Rattle.std.proofs.Common.{ap, ap₂, ◌∙◌, lt_of_not-le, arith, drop-cons, take_at, drop_at, pow_mono, pow-add}
use Rattle.std.specs.Int.{◌∣◌}
use Rattle.std.proofs.Math.Nat.{dvd_trans, dvd-mul_left, dvd-zero}
use Rattle.std.specs.Int.Count.{ones}
use Rattle.std.proofs.lemmas.List.{length-replicate}
use Rattle.moves.specs.Rows.{Rows, amount, count, All, Over, Laid, Zeros, zeros}

-- ---- powers of 2

pub pow_dvd : {i j : ℕ} → i ≤ j → 2 ^ i ∣ 2 ^ j
pow_dvd {i} {j} h = let e : j ≡ (j - i) + i = omega arith in rw (e, pow-add) (dvd-mul_left (2 ^ i) (2 ^ (j - i)))

-- A smaller power has a smaller exponent.
pub exp_lt : (i j : ℕ) → 2 ^ i < 2 ^ j → i < j
exp_lt i j h = lt_of_not-le (λ (g : j ≤ i). omega (arith, pow_mono g))

-- ---- the chain condition

pub over_less : {e f : ℕ} (l : Rows) → f ≤ e → Over e l → Over f l
over_less [] h o = tt
over_less {e} {f} (y ∷ l) h o = (dvd_trans (2 ^ f) (pow_dvd h) o.0, over_less l h o.1)

-- What bounds rows put together bounds both, and back.
pub over_append : (e : ℕ) (u l : Rows) → Over e (u ++ l) → Over e u × Over e l
over_append e [] l o = (tt, o)
over_append e (w ∷ u) l o = let r = over_append e u l o.1 in ((o.0, r.0), r.1)

pub over_join : (e : ℕ) (u l : Rows) → Over e u → Over e l → Over e (u ++ l)
over_join e [] l o p = p
over_join e (w ∷ u) l o p = (o.0, over_join e u l o.1 p)

-- The rows above some rows of a chain have the chain condition too.
pub laid_tail : (u l : Rows) → Laid (u ++ l) → Laid l
laid_tail [] l h = h
laid_tail (w ∷ u) l h = laid_tail u l h.1

-- ---- rows without a part

pub zeros_over : (e : ℕ) (z : Rows) → Zeros z → Over e z
zeros_over e [] h = tt
zeros_over e (y ∷ z) h = (rw h.0 (dvd-zero (2 ^ e)), zeros_over e z h.1)

pub zeros_zeros : (k : ℕ) → Zeros (zeros k)
unfolding zeros
zeros_zeros zero = tt
zeros_zeros (suc k) = (refl, zeros_zeros k)

pub zeros_is : (z : Rows) → Zeros z → z ≡ zeros (length z)
unfolding zeros
zeros_is [] h = refl
zeros_is (x ∷ z) h = ap₂ (λ (i : ℕ) (l : Rows). i ∷ l) h.0 (zeros_is z h.1)

pub length_zeros : (k : ℕ) → length (zeros k) ≡ k
unfolding zeros
length_zeros k = length-replicate k 0

pub zeros_amount : (z : Rows) → Zeros z → amount z ≡ 0
unfolding amount
zeros_amount [] h = refl
zeros_amount (x ∷ z) h = omega (arith, h.0, zeros_amount z h.1)

pub zeros_count : (z : Rows) → Zeros z → count z ≡ 0
unfolding count ones
zeros_count [] h = refl
zeros_count (x ∷ z) h = rw h.0 (omega (arith, zeros_count z h.1))

-- ---- two rows side by side

-- Rows are those below b, the rows b and b + 1, and those above.
pub split_at : (b : ℕ) (R : Rows) → suc b < length R → R ≡ take b R ++ (get_or R b 0 ∷ get_or R (suc b) 0 ∷ drop (suc (suc b)) R)
split_at b [] h = absurd (omega arith)
split_at b (x ∷ []) h = absurd (omega arith)
split_at zero (x ∷ y ∷ R) h = refl
split_at (suc b) (x ∷ y ∷ R) h = ap (λ (l : Rows). x ∷ l) (split_at b (y ∷ R) (omega arith))

-- So are they with other numbers written in the two rows, as a move does.
pub set_at :
    (b : ℕ) (R : Rows) (p q : ℕ)
    → suc b < length R → set (set R b p) (suc b) q ≡ take b R ++ (p ∷ q ∷ drop (suc (suc b)) R)
set_at b [] p q h = absurd (omega arith)
set_at b (x ∷ []) p q h = absurd (omega arith)
set_at zero (x ∷ y ∷ R) p q h = refl
set_at (suc b) (x ∷ y ∷ R) p q h = ap (λ (l : Rows). x ∷ l) (set_at b (y ∷ R) p q (omega arith))

-- `take` and `drop` cut rows put together where u ends.
pub cut : (u l : Rows) (b : ℕ) → length u ≡ b → (take b (u ++ l) ≡ u) × (drop b (u ++ l) ≡ l)
cut u l b h = (take_at u l b h, drop_at u l b h)

-- The two rows after u, and the rows above these, are read back.
pub get_or_cut :
    (u : Rows) (x y : ℕ) (l : Rows) (b : ℕ)
    → length u ≡ b
    → (get_or (u ++ (x ∷ y ∷ l)) b 0 ≡ x) × (get_or (u ++ (x ∷ y ∷ l)) (suc b) 0 ≡ y) × (drop (suc (suc b)) (u ++ (x ∷ y ∷ l)) ≡ l)
get_or_cut [] x y l zero h = (refl, refl, refl)
get_or_cut [] x y l (suc b) h = absurd (omega arith)
get_or_cut (w ∷ u) x y l zero h = absurd (omega arith)
get_or_cut (w ∷ u) x y l (suc b) h = get_or_cut u x y l b (omega arith)

-- The rows above the first row after u are read back.
pub drop_past : (u : Rows) (x : ℕ) (l : Rows) (b : ℕ) → length u ≡ b → drop (suc b) (u ++ (x ∷ l)) ≡ l
drop_past [] x l zero h = refl
drop_past [] x l (suc b) h = absurd (omega arith)
drop_past (w ∷ u) x l zero h = absurd (omega arith)
drop_past (w ∷ u) x l (suc b) h = drop_past u x l b (omega arith)

-- ---- every row below or above one

pub all_map : {P Q : ℕ → Type 0} (l : Rows) → ((x : ℕ) → P x → Q x) → All P l → All Q l
all_map [] f a = tt
all_map (x ∷ l) f a = (f x a.0, all_map l f a.1)

-- What holds of each row below b, by its index, is `All`, and back.
pub all_take : (P : ℕ → Type 0) (b : ℕ) (R : Rows) → b ≤ length R → ((k : ℕ) → k < b → P (get_or R k 0)) → All P (take b R)
all_take P zero R h f = tt
all_take P (suc b) [] h f = absurd (omega arith)
all_take P (suc b) (x ∷ R) h f = (f 0 (omega arith), all_take P b R (omega arith) (λ k l. f (suc k) (omega arith)))

pub take_all : (P : ℕ → Type 0) (b : ℕ) (R : Rows) → b ≤ length R → All P (take b R) → (k : ℕ) → k < b → P (get_or R k 0)
take_all P zero R h a k l = absurd (omega arith)
take_all P (suc b) [] h a k l = absurd (omega arith)
take_all P (suc b) (x ∷ R) h a zero l = a.0
take_all P (suc b) (x ∷ R) h a (suc k) l = take_all P b R (omega arith) a.1 k (omega arith)

-- What holds of each row from b on, by its index, is `All`, and back.
pub all_drop : (P : ℕ → Type 0) (b : ℕ) (R : Rows) → ((k : ℕ) → b ≤ k → k < length R → P (get_or R k 0)) → All P (drop b R)
all_drop P zero [] f = tt
all_drop P zero (x ∷ R) f = (f 0 (omega arith) (omega arith), all_drop P zero R (λ k l h. f (suc k) (omega arith) (omega arith)))
all_drop P (suc b) [] f = tt
all_drop P (suc b) (x ∷ R) f = all_drop P b R (λ k l h. f (suc k) (omega arith) (omega arith))

pub drop_all : (P : ℕ → Type 0) (b : ℕ) (R : Rows) → All P (drop b R) → (k : ℕ) → b ≤ k → k < length R → P (get_or R k 0)
drop_all P zero [] a k l h = absurd (omega arith)
drop_all P zero (x ∷ R) a zero l h = a.0
drop_all P zero (x ∷ R) a (suc k) l h = drop_all P zero R a.1 k (omega arith) (omega arith)
drop_all P (suc b) [] a k l h = absurd (omega arith)
drop_all P (suc b) (x ∷ R) a zero l h = absurd (omega arith)
drop_all P (suc b) (x ∷ R) a (suc k) l h = drop_all P b R a k (omega arith) (omega arith)

-- ---- sums

-- Rows of the same sum may follow the rows u.
pub amount_append : (u l l' : Rows) → amount l ≡ amount l' → amount (u ++ l) ≡ amount (u ++ l')
unfolding amount
amount_append [] l l' e = e
amount_append (w ∷ u) l l' e = omega (arith, amount_append u l l' e)

-- A row and three times the row above it are no more than the sum.
pub row_amount : (b : ℕ) (R : Rows) → suc b < length R → get_or R b 0 + 3 * get_or R (suc b) 0 ≤ amount R
unfolding amount
row_amount b [] h = absurd (omega arith)
row_amount b (x ∷ []) h = absurd (omega arith)
row_amount zero (x ∷ y ∷ R) h = omega arith
row_amount (suc b) (x ∷ y ∷ R) h = omega (arith, row_amount b (y ∷ R) (omega arith))

-- The rows from i on sum to no more than all.
pub amount_drop : (i : ℕ) (l : Rows) → amount (drop i l) ≤ amount l
unfolding amount
amount_drop zero l = omega arith
amount_drop (suc i) [] = omega arith
amount_drop (suc i) (x ∷ l) = omega (arith, amount_drop i l)

-- The sum from row i on is row i and three times the rest. The loop that adds the rows up starts at the end and asks for
-- `amount_back`.
amount_on : (i : ℕ) (R : Rows) → i < length R → amount (drop i R) ≡ get_or R i 0 + 3 * amount (drop (suc i) R)
unfolding amount
amount_on i R h = rw (drop-cons R i 0 h)

pub amount_back : (i : ℕ) (R : Rows) → 0 < i → i ≤ length R → amount (drop (i - 1) R) ≡ get_or R (i - 1) 0 + 3 * amount (drop i R)
amount_back i R p h =
    let e : suc (i - 1) ≡ i = omega arith in
    amount_on (i - 1) R (omega arith) ∙ ap (λ (j : ℕ). get_or R (i - 1) 0 + 3 * amount (drop j R)) e
