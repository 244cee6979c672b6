-- Reading back in terms of path words: what a letter before a path word makes of its chain, and what adding to the sum of the
-- powers of two makes of a chain whose parts were multiplied.
-- In order: the chain of a path word by its first letter; the parts that pass a test; the powers of two that sum to a number; adding.
use Rattle.std.specs.Prelude.{◌≡◌, Bool, true, false, not, cond}
use Rattle.std.proofs.Math.Path.{refl}
use Rattle.std.proofs.Common.{ap, sym, ◌∙◌, le_refl, arith, ne_eqb}
use mathlib.Core.List.{List, [], ◌∷◌, ◌++◌, map, map-append, append_assoc, append-nil}
use Prim.Native.Nat.{ℕ, zero, suc, ◌+◌, ◌*◌, ◌/◌, ◌%◌, ◌≤◌}
use Rattle.chains.specs.Chains.{Part, value, total}
use Rattle.chains.specs.Words.{Word, origin, right, up, chain_from, chain_of}
use Rattle.chains.proofs.Weight.{value_right}
use Rattle.chains.proofs.Steps.{by_rest}
use Rattle.trees.specs.Trees.{those, is_power, is_other, lowest, binary_in, binary, adding, read_back}

-- ---- the chain of a path word by its first letter

-- The parts marked from a point further right, or further up, are those marked from the point itself, moved.
module _ (move : Part → Part) (along : (p : Part) → move (right p) ≡ right (move p)) (above : (p : Part) → move (up p) ≡ up (move p)) where
  moved : (w : Word) (p : Part) (met d : List Part) → chain_from (move p) (map move met ++ d) w ≡ map move (chain_from p met w) ++ d
  unfolding chain_from
  moved [] p met d = refl
  moved (zero ∷ w) p met d = rw (sym (along p)) (moved w (right p) met d)
  moved (suc zero ∷ w) p met d = rw (sym (along p)) (moved w (right p) (p ∷ met) d)
  moved (suc (suc zero) ∷ w) p met d = rw (sym (above p)) (moved w (up p) met d)
  moved (suc (suc (suc zero)) ∷ w) p met d = rw (sym (above p)) (moved w (up p) (p ∷ met) d)
  moved (suc (suc (suc (suc x))) ∷ w) p met d = moved w p met d

-- The letters 0 and 1 double every part, 2 and 3 multiply it by three; 1 and 3 add the part 1.
pub chain_right : (r : ℕ) (w : Word) → r ≤ 1 → chain_of (r ∷ w) ≡ map right (chain_of w) ++ lowest r
unfolding chain_of chain_from lowest right up
chain_right zero w h = moved right (λ p. refl) (λ p. refl) w origin [] []
chain_right (suc zero) w h = moved right (λ p. refl) (λ p. refl) w origin [] (origin ∷ [])
chain_right (suc (suc r)) w h = absurd (omega arith)

pub chain_up : (r : ℕ) (w : Word) → r ≤ 1 → chain_of (suc (suc r) ∷ w) ≡ map up (chain_of w) ++ lowest r
unfolding chain_of chain_from lowest right up
chain_up zero w h = moved up (λ p. refl) (λ p. refl) w origin [] []
chain_up (suc zero) w h = moved up (λ p. refl) (λ p. refl) w origin [] (origin ∷ [])
chain_up (suc (suc r)) w h = absurd (omega arith)

-- ---- the parts that pass a test

cond_map : (f : List Part → List Part) (b : Bool) (c d : List Part) → f (cond b c d) ≡ cond b (f c) (f d)
cond_map f true c d = refl
cond_map f false c d = refl

module _ (f : Part → Bool) where
  those_append : (c d : List Part) → those f (c ++ d) ≡ those f c ++ those f d
  unfolding those
  those_append [] d = refl
  those_append (p ∷ c) d = rw (those_append c d, cond_map (λ x. x ++ those f d))

  -- Of parts that a step moves: the test says the same of each as before; it passes all; it passes none.
  those_moved : (move : Part → Part) → ((p : Part) → f (move p) ≡ f p) → (c : List Part) → those f (map move c) ≡ map move (those f c)
  unfolding those
  those_moved move h [] = refl
  those_moved move h (p ∷ c) = rw (h p, those_moved move h c, cond_map (map move))

  those_all : (move : Part → Part) → ((p : Part) → f (move p) ≡ true) → (c : List Part) → those f (map move c) ≡ map move c
  unfolding those
  those_all move h [] = refl
  those_all move h (p ∷ c) = rw (h p, those_all move h c)

  those_none : (move : Part → Part) → ((p : Part) → f (move p) ≡ false) → (c : List Part) → those f (map move c) ≡ []
  unfolding those
  those_none move h [] = refl
  those_none move h (p ∷ c) = rw (h p, those_none move h c)

-- Of parts that are no powers of two: none is one, and all are others.
powers_others : (c : List Part) → those is_power (those is_other c) ≡ []
unfolding those
powers_others [] = refl
powers_others (p ∷ c) = go (is_power p) refl (powers_others c)
  where
    go : (b : Bool) → is_power p ≡ b → those is_power (those is_other c) ≡ []
        → those is_power (cond (not b) (p ∷ those is_other c) (those is_other c)) ≡ []
    go true e h = h
    go false e h = rw (e, h)

others_others : (c : List Part) → those is_other (those is_other c) ≡ those is_other c
unfolding those
others_others [] = refl
others_others (p ∷ c) = go (is_power p) refl (others_others c)
  where
    go : (b : Bool) → is_power p ≡ b → those is_other (those is_other c) ≡ those is_other c
        → those is_other (cond (not b) (p ∷ those is_other c) (those is_other c)) ≡ cond (not b) (p ∷ those is_other c) (those is_other c)
    go true e h = h
    go false e h = rw (e, h)

total_append : (c d : List Part) → total (c ++ d) ≡ total c + total d
unfolding total
total_append [] d = omega arith
total_append (p ∷ c) d = omega (arith, total_append c d)

total_right : (c : List Part) → total (map right c) ≡ 2 * total c
unfolding total
total_right [] = refl
total_right (p ∷ c) = omega (arith, total_right c, value_right p)

-- ---- the powers of two that sum to a number

-- The number of steps allowed makes no difference once it is enough.
enough : (k j m : ℕ) → m ≤ k → m ≤ j → binary_in k m ≡ binary_in j m
unfolding binary_in lowest
enough zero zero m h i = refl
enough zero (suc j) m h i =
    let e : m ≡ 0 = omega arith in
    rw e (ap (λ (x : List Part). map right x ++ []) (enough zero j 0 (omega arith) (omega arith)))
enough (suc k) zero m h i =
    let e : m ≡ 0 = omega arith in
    rw e (ap (λ (x : List Part). map right x ++ []) (enough k zero 0 (omega arith) (omega arith)))
enough (suc k) (suc j) m h i =
    ap (λ (x : List Part). map right x ++ lowest (m % 2)) (enough k j (m / 2) (omega arith) (omega arith))

binary_step : (m : ℕ) → binary m ≡ map right (binary (m / 2)) ++ lowest (m % 2)
unfolding binary binary_in
binary_step m =
    enough m (suc m) m (le_refl m) (omega arith)
    ∙ ap (λ (x : List Part). map right x ++ lowest (m % 2)) (enough m (m / 2) (m / 2) (omega arith) (le_refl (m / 2)))

-- All of its parts are powers of two, and their sum is m.
record Binary (m : ℕ) (c : List Part) : Type 0 where
  powers : those is_power c ≡ c
  others : those is_other c ≡ []
  sums : total c ≡ m

binary_lowest : (r : ℕ) → r ≤ 1 → Binary r (lowest r)
unfolding lowest those total value
binary_lowest zero h = record { powers = refl; others = refl; sums = refl }
binary_lowest (suc zero) h = record { powers = refl; others = refl; sums = refl }
binary_lowest (suc (suc r)) h = absurd (omega arith)

binary_more : (m : ℕ) (c : List Part) → Binary (m / 2) c → Binary m (map right c ++ lowest (m % 2))
unfolding right
binary_more m c h =
    let low = binary_lowest (m % 2) (omega arith) in
    record {
      powers = rw (those_append, those_moved is_power right (λ p. refl), h.powers, low.powers);
      others = rw (those_append, those_moved is_other right (λ p. refl), h.others, low.others);
      sums = rw (total_append, total_right) (omega (arith, h.sums, low.sums));
    }

binary_is : (m : ℕ) → Binary m (binary m)
unfolding binary binary_in those total
binary_is =
    by_rest (λ (m : ℕ). Binary m (binary m)) (record { powers = refl; others = refl; sums = refl })
    (λ m pos half third. rw (binary_step m) (binary_more m (binary (m / 2)) half))

-- ---- adding to the sum of the powers of two

pub adding_more : (p : ℕ) (c : List Part) → adding p (adding 1 c) ≡ adding (suc p) c
unfolding adding
adding_more p c =
    let m = 1 + total (those is_power c) in
    let e : suc p + total (those is_power c) ≡ p + m = omega arith in
    let b = binary_is m in
    rw (e, those_append is_other, others_others, b.others, append-nil, those_append is_power, powers_others, b.powers, b.sums)

pub adding_right : (p : ℕ) (c : List Part) → adding p (map right c) ≡ map right (adding (p / 2) c) ++ lowest (p % 2)
unfolding adding right
adding_right p c =
    let s = total (those is_power c) in
    let q : (p + 2 * s) / 2 ≡ p / 2 + s = omega arith in
    let r : (p + 2 * s) % 2 ≡ p % 2 = omega arith in
    rw (
      those_moved is_other right (λ x. refl),
      those_moved is_power right (λ x. refl),
      total_right,
      binary_step (p + 2 * s),
      q,
      r,
      map-append,
      append_assoc,
    )

binary_one : (p : ℕ) → p ≤ 1 → binary (p + 0) ≡ lowest p
unfolding binary binary_in lowest
binary_one zero k = refl
binary_one (suc zero) k = refl
binary_one (suc (suc p)) k = absurd (omega arith)

pub adding_up : (p : ℕ) (c : List Part) → p ≤ 1 → adding p (map up c) ≡ map up c ++ lowest p
unfolding adding up total
adding_up p c h =
    let no_power : (x : Part) → is_power (up x) ≡ false = λ x. ne_eqb (suc x.b) 0 (λ e. omega arith) in
    rw (those_all is_other up (λ x. ap not (no_power x)), those_none is_power up no_power)
    (ap (λ (x : List Part). map up c ++ x) (binary_one p h))

-- Adding nothing to a chain that was read back leaves it as it is.
first : adding 0 (origin ∷ []) ≡ origin ∷ []
unfolding adding binary binary_in lowest those total value
first = refl

pub adding_none : (w : Word) → adding 0 (read_back w) ≡ read_back w
unfolding read_back lowest
adding_none [] = first
adding_none (zero ∷ w) = adding_none w
adding_none (suc zero ∷ w) = adding_more 0 (read_back w)
adding_none (suc (suc zero) ∷ w) = adding_right 0 (read_back w) ∙ append-nil _ ∙ ap (map right) (adding_none w)
adding_none (suc (suc (suc zero)) ∷ w) = adding_up 0 (read_back w) (omega arith) ∙ append-nil _
adding_none (suc (suc (suc (suc l))) ∷ w) = adding_none w
