-- A move up on a chain gives a chain with the same sum.
use Rattle.std.specs.Prelude.{◌≡◌, refl, List, [], ◌∷◌, ◌++◌, ℕ, zero, suc, ◌+◌, ◌*◌, ◌^◌, ◌≤◌, ◌<◌}
use Rattle.std.proofs.Common.{sym, ap, mul_assoc, mul_left_comm, arith}
use Rattle.std.proofs.Math.Nat.{pow-succ'}
use Rattle.std.proofs.Math.Decide.{dec_lt}
use Rattle.chains.specs.Chains.{Part, value, Chained, total}
use Rattle.chains.specs.Divides.{Above}
use Rattle.moves.specs.Moves.{part, Every, run, Up, first, second}
use Rattle.moves.proofs.Chaining.{chained_cons, chained_rest, chained_every, chained_after, chained_replace, chained_lift}
use Rattle.moves.proofs.Chaining.{every_map, every_append, before_row}

-- Parts side by side before the part below them.
pub run_chained : (k c b : ℕ) (w : List Part) → Chained (part c b ∷ w) → Chained (run k c b ++ (part c b ∷ w))
unfolding run
run_chained zero c b w h = h
run_chained (suc zero) c b w h =
    chained_cons (part (c + 1) b) (part c b) w (record { across = omega arith; upward = omega arith; apart = omega arith }) h
run_chained (suc (suc k)) c b w h =
    chained_cons (part (c + suc (suc k)) b) (part (c + suc k) b) (run k c b ++ (part c b ∷ w))
    (record { across = omega arith; upward = omega arith; apart = omega arith })
    (run_chained (suc k) c b w h)

-- The first of them.
run_head :
    (k c b : ℕ) (w : List Part) (p : Part) (v : List Part)
    → run k c b ++ (part c b ∷ w) ≡ p ∷ v
    → (p.a ≤ c + k) × (p.b ≡ b)
unfolding run
run_head zero c b w p v e = let q : part c b ≡ p = cc in (omega (arith, ap (λ (r : Part). r.a) q), sym (ap (λ (r : Part). r.b) q))
run_head (suc k) c b w p v e =
    let q : part (c + suc k) b ≡ p = cc in (omega (arith, ap (λ (r : Part). r.a) q), sym (ap (λ (r : Part). r.b) q))

-- The gap may be filled: what comes after it stands below it.
pub gap_chained :
    (c b : ℕ) (t v : List Part) (p : Part)
    → Chained (p ∷ (t ++ v))
    → p.b ≡ b
    → Every (λ q. q.b ≡ b → q.a < c) v
    → Every (λ q. q.b < b → q.a ≤ c) v
    → Chained (part c b ∷ v)
gap_chained c b t [] p h e gap free = tt
gap_chained c b t (q ∷ v) p h e gap free =
    let o = (every_append (Above p) t (q ∷ v) (chained_every p (t ++ (q ∷ v)) h)).1.0 in
    chained_cons (part c b) q v (go o (dec_lt q.b b)) (chained_after t (q ∷ v) (chained_rest p (t ++ (q ∷ v)) h))
  where
    go : Above p q → Dec (q.b < b) → Above (part c b) q
    go o (yes l) = record { across = free.0 l; upward = omega arith; apart = omega (arith, free.0 l) }
    go o (no l) =
        let s : q.b ≡ b = omega (arith, o.upward) in
        record { across = omega (arith, gap.0 s); upward = omega arith; apart = omega (arith, gap.0 s) }

first_chained :
    (a b : ℕ) (u v : List Part)
    → Every (λ p. p.b ≡ b → ⊥) u
    → Chained (u ++ (part (suc a) b ∷ part a b ∷ v))
    → Chained (u ++ (part a (suc b) ∷ v))
first_chained a b u v f h =
    chained_replace u (part (suc a) b ∷ part a b ∷ v) (part a (suc b) ∷ v) h
    (chained_lift (part a b) (part a (suc b)) v
    (λ q k. record { across = k.across; upward = omega (arith, k.upward); apart = omega (arith, k.apart) })
    (chained_rest (part (suc a) b) (part a b ∷ v) (chained_after u (part (suc a) b ∷ part a b ∷ v) h)))
    (every_map u
    (λ q k p w e. let r : part a (suc b) ≡ p = cc in
    let ea = ap (λ (s : Part). s.a) r in
    let eb = ap (λ (s : Part). s.b) r in
    record { across = omega (arith, k.0); upward = omega (arith, k.1); apart = omega (arith, k.0, k.1) })
    (before_row u (part (suc a) b) (part a b ∷ v) h f))

second_chained :
    (c k b : ℕ) (u v : List Part)
    → Every (λ p. p.b ≡ b → ⊥) u
    → Every (λ p. p.b ≡ b → p.a < c) v
    → Every (λ p. p.b < b → p.a ≤ c) v
    → Chained (u ++ (part (suc (suc (c + k))) b ∷ (run k c b ++ v)))
    → Chained (u ++ (run k c (suc b) ++ (part c (suc b) ∷ part c b ∷ v)))
second_chained c k b u v f gap free h =
    let top = part (suc (suc (c + k))) b in
    let low = gap_chained c b (run k c b) v top (chained_after u (top ∷ (run k c b ++ v)) h) refl gap free in
    chained_replace u (top ∷ (run k c b ++ v)) (run k c (suc b) ++ (part c (suc b) ∷ part c b ∷ v)) h
    (run_chained k c (suc b) (part c b ∷ v)
    (chained_cons (part c (suc b)) (part c b) v (record { across = omega arith; upward = omega arith; apart = omega arith }) low))
    (every_map u
    (λ q o p w e.
    let r = run_head k c (suc b) (part c b ∷ v) p w e in
    record { across = omega (arith, o.0, r.0); upward = omega (arith, o.1, r.1); apart = omega (arith, o.0, o.1, r.0, r.1) })
    (before_row u top (run k c b ++ v) h f))

pub up_chained : {kind b : ℕ} {c d : List Part} → Up kind b c d → Chained c → Chained d
up_chained {kind} {b} (first a u v f) h = first_chained a b u v f h
up_chained {kind} {b} (second c k u v f gap free) h = second_chained c k b u v f gap free h

-- ---- the sum

total_append : (u w : List Part) → total (u ++ w) ≡ total u + total w
unfolding total
total_append [] w = omega arith
total_append (p ∷ u) w = omega (arith, total_append u w)

-- Twice and three times a part.
twice : (a b : ℕ) → value (part (suc a) b) ≡ 2 * value (part a b)
unfolding value
twice a b = rw (pow-succ' 2 a) (mul_assoc 2 (2 ^ a) (3 ^ b))

thrice : (a b : ℕ) → value (part a (suc b)) ≡ 3 * value (part a b)
unfolding value
thrice a b = rw (pow-succ' 3 b) (mul_left_comm (2 ^ a) 3 (3 ^ b))

run_total : (k c b : ℕ) → total (run k c b) + value (part (suc c) b) ≡ value (part (suc (c + k)) b)
unfolding run total
run_total zero c b = omega (arith, ap (λ (i : ℕ). value (part (suc i) b)) {x = c} {y = c + 0} (omega arith))
run_total (suc k) c b =
    let e : value (part (c + suc k) b) ≡ value (part (suc (c + k)) b) =
    ap (λ (i : ℕ). value (part i b)) {x = c + suc k} {y = suc (c + k)} (omega arith) in
    let f : value (part (suc (c + suc k)) b) ≡ value (part (suc (suc (c + k))) b) =
    ap (λ (i : ℕ). value (part (suc i) b)) {x = c + suc k} {y = suc (c + k)} (omega arith) in
    omega (arith, run_total k c b, twice (suc (c + k)) b)

-- A move keeps the sum.
pub up_total : {kind b : ℕ} {c d : List Part} → Up kind b c d → total c ≡ total d
unfolding total
up_total {kind} {b} (first a u v f) =
    omega (
      arith,
      total_append u (part (suc a) b ∷ part a b ∷ v),
      total_append u (part a (suc b) ∷ v),
      twice a b,
      thrice a b,
    )
up_total {kind} {b} (second c k u v f gap free) =
    omega (
      arith,
      total_append u (part (suc (suc (c + k))) b ∷ (run k c b ++ v)),
      total_append u (run k c (suc b) ++ (part c (suc b) ∷ part c b ∷ v)),
      total_append (run k c b) v,
      total_append (run k c (suc b)) (part c (suc b) ∷ part c b ∷ v),
      run_total k c b,
      run_total k c (suc b),
      twice (suc (c + k)) b,
      twice c b,
      thrice c b,
      thrice (suc c) b,
      thrice (suc (c + k)) b,
    )
