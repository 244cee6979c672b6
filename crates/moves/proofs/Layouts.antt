-- Chains and rows with the chain condition correspond: a chain has its rows, and such rows are those of one chain.
--
-- In this order: the lengths; a part added above all others; the rows of a chain have the chain condition, its sum and its number
-- of parts; rows with the chain condition are those of a chain; they are those of one chain only.
use Rattle.std.specs.Prelude.{◌≡◌, refl, ◌⊎◌, List, [], ◌∷◌, ℕ, zero, suc, ◌+◌, ◌-◌, ◌*◌, ◌^◌, ◌≤◌, ◌<◌, length, get_or}
use Rattle.std.proofs.Common.{sym, ap, ap₂, ◌∙◌, inl, inr, pow-suc, mul_assoc, arith, pow_pos, pow_mono}
use Rattle.std.proofs.Math.Nat.{dvd-add, dvd-add_iff_left, le_of_dvd, pow-zero}
use Rattle.std.proofs.Math.Decide.{dec_lt}
use Rattle.std.specs.Int.Count.{ones}
use Rattle.std.proofs.lemmas.Nat.{ones_cat}
use Rattle.chains.specs.Chains.{Part, value, Chained, total}
use Rattle.chains.specs.Divides.{Above}
use Rattle.chains.proofs.Divides.{multiple_above, value_pos, same_part_lem}
use Rattle.moves.proofs.Chaining.{chained_rest}
use Rattle.moves.specs.Rows.{Rows, amount, count, Over, Laid, Zeros, zeros, add_at, rows_of}
use Rattle.moves.proofs.RowLaws.{pow_dvd, exp_lt, over_less, zeros_over, zeros_zeros, zeros_is, length_zeros, zeros_amount}
use Rattle.moves.proofs.RowLaws.{zeros_count}
use Rattle.moves.proofs.BitLaws.{has_top}

-- ---- lengths

pub length_add : (b v : ℕ) (l : Rows) → length (add_at b v l) ≡ length l
unfolding add_at
length_add b v [] = refl
length_add zero v (x ∷ l) = refl
length_add (suc b) v (x ∷ l) = ap suc (length_add b v l)

pub length_rows : (k : ℕ) (c : List Part) → length (rows_of k c) ≡ k
unfolding rows_of
length_rows k [] = length_zeros k
length_rows k (p ∷ c) = length_add p.b (2 ^ p.a) (rows_of k c) ∙ length_rows k c

-- ---- a part added above all others

-- (a, b) is above every part of the rows.
unfoldable pub Room : ℕ → ℕ → Rows → Type 0
Room a b [] = ⊥
Room a zero (x ∷ l) = (x < 2 ^ a) × Zeros l
Room a (suc b) (x ∷ l) = (x < 2 ^ suc a) × Room a b l

pub room_within : (a b : ℕ) (l : Rows) → Room a b l → b < length l
unfolding Room
room_within a b [] r = absurd r
room_within a zero (x ∷ l) r = omega arith
room_within a (suc b) (x ∷ l) r = omega (arith, room_within a b l r.1)

-- Rows without a part have room everywhere.
zeros_room : (a b : ℕ) (l : Rows) → Zeros l → b < length l → Room a b l
unfolding Room
zeros_room a b [] h k = absurd (omega arith)
zeros_room a zero (x ∷ l) h k = (omega (arith, h.0, pow_pos a), h.1)
zeros_room a (suc b) (x ∷ l) h k = (omega (arith, h.0, pow_pos (suc a)), zeros_room a b l h.1 (omega arith))

over_add : (e a b : ℕ) (l : Rows) → e ≤ a → Over e l → Over e (add_at b (2 ^ a) l)
unfolding add_at
over_add e a b [] h o = tt
over_add e a zero (x ∷ l) h o = (dvd-add (2 ^ e) o.0 (pow_dvd h), o.1)
over_add e a (suc b) (x ∷ l) h o = (o.0, over_add e a b l h o.1)

-- A part added where there is room keeps the chain condition.
room_laid : (a b : ℕ) (l : Rows) → Laid l → Room a b l → Laid (add_at b (2 ^ a) l)
unfolding add_at Room
room_laid a b [] h r = absurd r
room_laid a zero (x ∷ l) h r = ((a, omega (arith, r.0, pow-suc 2 a), zeros_over a l r.1), h.1)
room_laid a (suc b) (x ∷ l) h r = (go (dec_lt a h.0.0), room_laid a b l h.1 r.1)
  where
    go : Dec (a < h.0.0) → (e : ℕ) × (x < 2 ^ suc e) × Over e (add_at b (2 ^ a) l)
    go (yes g) = (a, r.0, over_add a a b l (omega arith) (over_less l (omega arith) h.0.2))
    go (no g) = (h.0.0, h.0.1, over_add h.0.0 a b l (omega arith) h.0.2)

-- After the part (a, b), there is room for a part above it.
room_next :
    (a b a' b' : ℕ) (l : Rows)
    → Room a b l
    → a ≤ a'
    → b ≤ b'
    → a + b < a' + b'
    → b' < length l
    → Room a' b' (add_at b (2 ^ a) l)
unfolding add_at Room
room_next a b a' b' [] r p q s k = absurd r
room_next a zero a' zero (x ∷ l) r p q s k =
    (omega (arith, r.0, pow-suc 2 a, pow_mono {i = suc a} {j = a'} (omega arith)), r.1)
room_next a zero a' (suc b') (x ∷ l) r p q s k =
    (omega (arith, r.0, pow-suc 2 a, pow-suc 2 a', pow_mono p), zeros_room a' b' l r.1 (omega arith))
room_next a (suc b) a' zero (x ∷ l) r p q s k = absurd (omega arith)
room_next a (suc b) a' (suc b') (x ∷ l) r p q s k = (
  omega (arith, r.0, pow_mono {i = suc a} {j = suc a'} (omega arith)),
  room_next a b a' b' l r.1 p (omega arith) (omega arith) (omega arith),
)

-- A row with a part is not empty.
not_empty : (a b : ℕ) (l : Rows) → b < length l → Zeros (add_at b (2 ^ a) l) → ⊥
unfolding add_at
not_empty a b [] h z = omega arith
not_empty a zero (x ∷ l) h z = omega (arith, z.0, pow_pos a)
not_empty a (suc b) (x ∷ l) h z = not_empty a b l (omega arith) z.1

-- A part with room is above the part added last.
room_above : (a b a' b' : ℕ) (l : Rows) → b' < length l → Room a b (add_at b' (2 ^ a') l) → (a' ≤ a) × (b' ≤ b) × (a' + b' < a + b)
unfolding add_at Room
room_above a b a' b' [] h r = absurd r
room_above a zero a' zero (x ∷ l) h r =
    let g : a' < a = exp_lt a' a (omega (arith, r.0)) in
    (omega arith, omega arith, omega arith)
room_above a (suc b) a' zero (x ∷ l) h r =
    let g : a' < suc a = exp_lt a' (suc a) (omega (arith, r.0)) in
    (omega arith, omega arith, omega arith)
room_above a zero a' (suc b') (x ∷ l) h r = absurd (not_empty a' b' l (omega arith) r.1)
room_above a (suc b) a' (suc b') (x ∷ l) h r =
    let v = room_above a b a' b' l (omega arith) r.1 in
    (v.0, omega (arith, v.1), omega (arith, v.2))

-- The sum and the number of parts grow by the part added.
amount_add : (b v : ℕ) (l : Rows) → b < length l → amount (add_at b v l) ≡ amount l + v * 3 ^ b
unfolding add_at amount
amount_add b v [] h = absurd (omega arith)
amount_add zero v (x ∷ l) h = omega (arith, pow-zero 3)
amount_add (suc b) v (x ∷ l) h =
    let q : v * 3 ^ suc b ≡ v * 3 ^ b * 3 = rw (pow-suc 3 b) (sym (mul_assoc v (3 ^ b) 3)) in
    omega (arith, amount_add b v l (omega arith))

one_one : ones 1 ≡ 1
unfolding ones
one_one = refl

count_add : (a b : ℕ) (l : Rows) → Room a b l → count (add_at b (2 ^ a) l) ≡ suc (count l)
unfolding add_at Room count
count_add a b [] r = absurd r
count_add a zero (x ∷ l) r =
    let q : x + 2 ^ a ≡ 1 * 2 ^ a + x = omega arith in
    rw (q, ones_cat a 1 x r.0) (omega (arith, one_one))
count_add a (suc b) (x ∷ l) r = omega (arith, count_add a b l r.1)

-- A row with v more is no more than the sum.
pub add_least : (b v : ℕ) (l : Rows) → b < length l → get_or l b 0 + v ≤ amount (add_at b v l)
unfolding add_at amount
add_least b v [] h = absurd (omega arith)
add_least zero v (x ∷ l) h = omega arith
add_least (suc b) v (x ∷ l) h = omega (arith, add_least b v l (omega arith))

-- ---- from a chain to rows

-- What the k rows of a chain have.
pub record LaidOut (k : ℕ) (c : List Part) : Type 0 where
  pub laid : Laid (rows_of k c)
  pub sums : amount (rows_of k c) ≡ total c
  pub counts : count (rows_of k c) ≡ length c

zeros_laid : (k : ℕ) → Laid (zeros k)
unfolding zeros
zeros_laid zero = tt
zeros_laid (suc k) = ((0, omega (arith, pow_pos 1), zeros_over 0 (zeros k) (zeros_zeros k)), zeros_laid k)

pub laid_out_none : (k : ℕ) → LaidOut k []
unfolding rows_of total
laid_out_none k =
    let z = zeros_zeros k in
    record { laid = zeros_laid k; sums = zeros_amount (zeros k) z; counts = zeros_count (zeros k) z }

-- A part more keeps this, where there is room.
laid_out_more : (k : ℕ) (p : Part) (c : List Part) → LaidOut k c → Room p.a p.b (rows_of k c) → LaidOut k (p ∷ c)
unfolding rows_of total value
laid_out_more k p c o r =
    let w = room_within p.a p.b (rows_of k c) r in
    record {
      laid = room_laid p.a p.b (rows_of k c) o.laid r;
      sums = omega (arith, amount_add p.b (2 ^ p.a) (rows_of k c) w, o.sums);
      counts = count_add p.a p.b (rows_of k c) r ∙ ap suc o.counts;
    }

-- A chain without its first part is laid out, and there is room for that part.
pub laid_out_room :
    (k : ℕ) (p : Part) (c : List Part)
    → Chained (p ∷ c)
    → p.b < k
    → LaidOut k c × Room p.a p.b (rows_of k c)
unfolding rows_of
laid_out_room k p [] h l =
    (laid_out_none k, zeros_room p.a p.b (zeros k) (zeros_zeros k) (omega (arith, length_zeros k)))
laid_out_room k p (q ∷ c) h l =
    let s : Above p q = (multiple_above p q).0 h.0 in
    let (o, r) = laid_out_room k q c h.1 (omega (arith, s.upward)) in
    let n : p.b < length (rows_of k c) = omega (arith, length_rows k c) in (
      laid_out_more k q c o r,
      room_next q.a q.b p.a p.b (rows_of k c) r s.across s.upward s.apart n,
    )

-- A chain whose largest part is below row k is laid out in k rows.
pub laid_out : (k : ℕ) (p : Part) (c : List Part) → Chained (p ∷ c) → p.b < k → LaidOut k (p ∷ c)
laid_out k p c h l = let (o, r) = laid_out_room k p c h l in laid_out_more k p c o r

-- The binary chain of n has as many parts as n has one bits.
pub count_binary : (n k : ℕ) → count (n ∷ zeros k) ≡ ones n
unfolding count
count_binary n k = omega (arith, zeros_count (zeros k) (zeros_zeros k))

-- ---- from rows to a chain

-- `rest` is the rows without their largest part, 2^a × 3^b.
record Peeled (l : Rows) : Type 0 where
  a : ℕ
  b : ℕ
  rest : Rows
  is : l ≡ add_at b (2 ^ a) rest
  room : Room a b rest
  laid : Laid rest
  over : (e : ℕ) → Over e l → (e ≤ a) × Over e rest

-- There is no part, or the largest can be taken off.
zero_or : (l : Rows) → Laid l → Zeros l ⊎ Peeled l
unfolding add_at Room
zero_or [] h = inl tt
zero_or (x ∷ l) h = go (zero_or l h.1) (dec_lt 0 x)
  where
    go : Zeros l ⊎ Peeled l → Dec (0 < x) → Zeros (x ∷ l) ⊎ Peeled (x ∷ l)
    go (inl z) (no p) = inl (omega arith, z)
    go (inl z) (yes p) =
        let t = has_top x p in
        let a = t.0 in
        let q : x ≡ x - 2 ^ a + 2 ^ a = omega (arith, t.1) in
        inr (record {
          a = a;
          b = 0;
          rest = (x - 2 ^ a) ∷ l;
          is = ap (λ (i : ℕ). i ∷ l) q;
          room = (omega (arith, t.1, t.2, pow-suc 2 a), z);
          laid = ((a, omega (arith, t.2), zeros_over a l z), h.1);
          over = λ e o.
              let g : e < suc a = exp_lt e (suc a) (omega (arith, le_of_dvd p o.0, t.2)) in
              (omega arith, ((dvd-add_iff_left (2 ^ e) (pow_dvd {i = e} {j = a} (omega arith))).1 (rw q at o.0), o.1));
        })
    go (inr r) d =
        let v = r.over h.0.0 h.0.2 in
        inr (record {
          a = r.a;
          b = suc r.b;
          rest = x ∷ r.rest;
          is = ap (λ (k : Rows). x ∷ k) r.is;
          room = (omega (arith, h.0.1, pow_mono {i = suc h.0.0} {j = suc r.a} (omega (arith, v.0))), r.room);
          laid = ((h.0.0, h.0.1, v.1), r.laid);
          over = λ e o. let w = r.over e o.1 in (w.0, (o.0, w.1));
        })

-- A part with room, put before a chain, makes a chain.
room_chained :
    (k : ℕ) (p : Part) (c : List Part)
    → Chained c
    → ((q : Part) (d : List Part) → c ≡ q ∷ d → q.b < k)
    → Room p.a p.b (rows_of k c)
    → Chained (p ∷ c)
unfolding rows_of
room_chained k p [] h f r = tt
room_chained k p (q ∷ c) h f r =
    let v = room_above p.a p.b q.a q.b (rows_of k c) (omega (arith, f q c refl, length_rows k c)) r in
    ((multiple_above p q).1 (record { across = v.0; upward = v.1; apart = v.2 }), h)

-- A chain whose k rows are l; all its parts are below row k.
pub record ChainFor (k : ℕ) (l : Rows) : Type 0 where
  pub chain : List Part
  pub chained : Chained chain
  pub low : (q : Part) (d : List Part) → chain ≡ q ∷ d → q.b < k
  pub is : rows_of k chain ≡ l

-- By the sum: each part taken off makes it less than f.
from_rows : (f : ℕ) (l : Rows) → amount l < f → Laid l → ChainFor (length l) l
unfolding rows_of value
from_rows zero l h g = absurd (omega arith)
from_rows (suc f) l h g = go (λ m b k. from_rows f m b k) (zero_or l g)
  where
    go : ((m : Rows) → amount m < f → Laid m → ChainFor (length m) m) → Zeros l ⊎ Peeled l → ChainFor (length l) l
    go rec (inl z) =
        record {
          chain = [];
          chained = tt;
          is = sym (zeros_is l z);
          low = λ q d e. let z : ◌≡◌ {A = ℕ} 0 1 = cc in absurd (omega arith);
        }
    go rec (inr r) =
        let p : Part = record { a = r.a; b = r.b } in
        let n : length l ≡ length r.rest = ap length r.is ∙ length_add r.b (2 ^ r.a) r.rest in
        let w = room_within r.a r.b r.rest r.room in
        let m = ap amount r.is ∙ amount_add r.b (2 ^ r.a) r.rest w in
        let i = rec r.rest (omega (arith, m, value_pos p)) r.laid in
        rw n
        (record {
          chain = p ∷ i.chain;
          chained = room_chained (length r.rest) p i.chain i.chained i.low (rw i.is r.room);
          low = λ q d e. let f : p ≡ q = cc in omega (arith, w, ap (λ (t : Part). t.b) f);
          is = ap (add_at r.b (2 ^ r.a)) i.is ∙ sym r.is;
        })

-- Every layout with the chain condition is that of a chain.
pub chain_for : (l : Rows) → Laid l → ChainFor (length l) l
chain_for l h = from_rows (suc (amount l)) l (omega arith) h

-- ---- one chain for each layout

-- The highest one bit is known from the number.
same_top : (a a' x x' : ℕ) → x < 2 ^ a → x' < 2 ^ a' → x + 2 ^ a ≡ x' + 2 ^ a' → a ≡ a'
same_top a a' x x' h h' e =
    let p : a < suc a' = exp_lt a (suc a') (omega (arith, pow-suc 2 a')) in
    let q : a' < suc a = exp_lt a' (suc a) (omega (arith, pow-suc 2 a)) in
    omega arith

record Same (a b a' b' : ℕ) (l l' : Rows) : Type 0 where
  same_a : a ≡ a'
  same_b : b ≡ b'
  same_l : l ≡ l'

-- The part added last is known from the rows.
add_unique :
    (a b a' b' : ℕ) (l l' : Rows)
    → Room a b l
    → Room a' b' l'
    → add_at b (2 ^ a) l ≡ add_at b' (2 ^ a') l'
    → Same a b a' b' l l'
unfolding add_at Room
add_unique a b a' b' [] l' r r' e = absurd r
add_unique a b a' b' (x ∷ l) [] r r' e = absurd r'
add_unique a zero a' zero (x ∷ l) (x' ∷ l') r r' e =
    let h : x + 2 ^ a ≡ x' + 2 ^ a' = cc in
    let t : l ≡ l' = cc in
    let q = same_top a a' x x' r.0 r'.0 h in
    let y : x ≡ x' = omega (arith, ap (λ (i : ℕ). 2 ^ i) q) in
    record { same_a = q; same_b = refl; same_l = cc }
add_unique a zero a' (suc b') (x ∷ l) (x' ∷ l') r r' e =
    let t : l ≡ add_at b' (2 ^ a') l' = cc in
    absurd (not_empty a' b' l' (room_within a' b' l' r'.1) (rw t at r.1))
add_unique a (suc b) a' zero (x ∷ l) (x' ∷ l') r r' e =
    let t : l' ≡ add_at b (2 ^ a) l = cc in
    absurd (not_empty a b l (room_within a b l r.1) (rw t at r'.1))
add_unique a (suc b) a' (suc b') (x ∷ l) (x' ∷ l') r r' e =
    let h : x ≡ x' = cc in
    let t : add_at b (2 ^ a) l ≡ add_at b' (2 ^ a') l' = cc in
    let s = add_unique a b a' b' l l' r.1 r'.1 t in
    record { same_a = s.same_a; same_b = ap suc s.same_b; same_l = ap₂ (λ (i : ℕ) (k : Rows). i ∷ k) h s.same_l }

-- The parts after the first are below row k too.
low_tail : (k : ℕ) (p : Part) (c : List Part) → Chained (p ∷ c) → p.b < k → (q : Part) (e : List Part) → c ≡ q ∷ e → q.b < k
low_tail k p [] h l q e z = let n : ◌≡◌ {A = ℕ} 0 1 = cc in absurd (omega arith)
low_tail k p (q ∷ c) h l q' e z =
    let s : Above p q = (multiple_above p q).0 h.0 in
    let f : q ≡ q' = cc in
    omega (arith, s.upward, ap (λ (t : Part). t.b) f)

-- Chains with the same rows are the same.
pub rows_unique :
    (k : ℕ) (c d : List Part)
    → Chained c
    → Chained d
    → ((q : Part) (e : List Part) → c ≡ q ∷ e → q.b < k)
    → ((q : Part) (e : List Part) → d ≡ q ∷ e → q.b < k)
    → rows_of k c ≡ rows_of k d
    → c ≡ d
unfolding rows_of
rows_unique k [] [] h g l m e = refl
rows_unique k [] (q ∷ d) h g l m e =
    absurd (omega (arith, ap count e, (laid_out_none k).counts, (laid_out k q d g (m q d refl)).counts))
rows_unique k (p ∷ c) [] h g l m e =
    absurd (omega (arith, ap count e, (laid_out_none k).counts, (laid_out k p c h (l p c refl)).counts))
rows_unique k (p ∷ c) (q ∷ d) h g l m e =
    let r = (laid_out_room k p c h (l p c refl)).1 in
    let r' = (laid_out_room k q d g (m q d refl)).1 in
    let s = add_unique p.a p.b q.a q.b (rows_of k c) (rows_of k d) r r' e in
    let l' = low_tail k p c h (l p c refl) in
    let m' = low_tail k q d g (m q d refl) in
    ap₂ (λ (i : Part) (j : List Part). i ∷ j) (same_part_lem p q s.same_a s.same_b)
    (rows_unique k c d (chained_rest p c h) (chained_rest q d g) l' m' s.same_l)
