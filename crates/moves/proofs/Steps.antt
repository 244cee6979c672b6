-- A move down takes the smallest part of its upper row: 003, theorem 1. Of which kind it is depends on the part below that one.
-- Then 4 and 12, document 02's example of the stricter condition.
use Rattle.std.specs.Prelude.{◌≡◌, refl, ◌⊎◌, Bool, List, [], ◌∷◌, ◌++◌, ℕ, zero, suc, ◌+◌, ◌≤◌}
use Rattle.std.proofs.Common.{sym, ap, inl, inr, append_assoc, arith}
use Rattle.chains.specs.Chains.{Part, value, Chained, total, ChainOf}
use Rattle.chains.specs.Divides.{Above}
use Rattle.chains.proofs.Divides.{multiple_above}
use Rattle.moves.specs.Moves.{part, Every, run, Up, first, second, Move, Step}
use Rattle.moves.proofs.Chaining.{every_map, every_append, every_join, chained_every, chained_rest, chained_after}
use Rattle.moves.proofs.Chaining.{before_above}
use Rattle.moves.proofs.MoveLaws.{move_keeps}

-- The part 2^a × 3^(b+1) is the smallest of row b + 1 of the chain c, and no part of d. The kind is the first if 2^a × 3^b is no part
-- of c, and the second if it is.
pub record Smallest (kind b : ℕ) (c d : List Part) : Type 0 where
  pub a : ℕ
  pub before : List Part
  pub after : List Part
  pub is : c ≡ before ++ (part a (suc b) ∷ after)
  pub smallest : Every (λ p. p.b ≤ b) after
  pub gone : Every (λ p. p ≡ part a (suc b) → ⊥) d
  pub kinds : (kind ≡ 1) ⊎ (kind ≡ 2)
  pub kind_1 : kind ≡ 1 → Every (λ p. p ≡ part a b → ⊥) c
  pub kind_2 : kind ≡ 2 → (v : List Part) × (after ≡ part a b ∷ v)

-- A part above q is not q, and a part in a row up to b is not in row b + 1.
above_not : (q : Part) (c : List Part) → Every (λ p. Above p q) c → Every (λ p. p ≡ q → ⊥) c
above_not q c h = every_map {P = λ p. Above p q} c (λ p k e. omega (arith, k.apart, ap (λ (r : Part). r.a + r.b) e)) h

lower_not : (a b : ℕ) (c : List Part) → Every (λ p. p.b ≤ b) c → Every (λ p. p ≡ part a (suc b) → ⊥) c
lower_not a b c h = every_map {P = λ p. p.b ≤ b} c (λ p k e. omega (arith, k, ap (λ (r : Part). r.b) e)) h

higher_not : (a b : ℕ) (c : List Part) → Every (λ p. Above p (part a (suc b))) c → Every (λ p. p ≡ part a b → ⊥) c
higher_not a b c h = every_map {P = λ p. Above p (part a (suc b))} c (λ p k e. omega (arith, k.upward, ap (λ (r : Part). r.b) e)) h

below_row : (a b : ℕ) (c : List Part) → Chained (part a b ∷ c) → Every (λ p. p.b ≤ b) c
below_row a b c h = every_map {P = Above (part a b)} c (λ p k. k.upward) (chained_every (part a b) c h)

run_row : (k c b : ℕ) → Every (λ p. p.b ≤ b) (run k c b)
unfolding run
run_row zero c b = tt
run_row (suc k) c b = (omega arith, run_row k c b)

-- The move down takes the smallest part.
down_smallest : {kind b : ℕ} {c d : List Part} → Chained c → Chained d → Up kind b d c → Smallest kind b c d
down_smallest {kind} {b} hc hd (first a u v f) =
    let t = chained_rest (part (suc a) b) (part a b ∷ v) (chained_after u (part (suc a) b ∷ part a b ∷ v) hd) in
    let low = below_row a b v t in
    let over = before_above u (part a (suc b)) v hc in
    record {
      a = a;
      before = u;
      after = v;
      is = refl;
      smallest = low;
      gone = every_join (λ p. p ≡ part a (suc b) → ⊥) u (part (suc a) b ∷ part a b ∷ v)
          (above_not (part a (suc b)) u over)
          (lower_not a b (part (suc a) b ∷ part a b ∷ v) (omega arith, (omega arith, low)));
      kinds = inl refl;
      kind_1 = λ e. every_join (λ p. p ≡ part a b → ⊥) u (part a (suc b) ∷ v)
          (higher_not a b u over) (
            (λ q. omega (arith, ap (λ (r : Part). r.b) q)),
            every_map {P = Above (part a b)} v (λ p k q. omega (arith, k.apart, ap (λ (r : Part). r.a + r.b) q)) (chained_every (part a b) v t),
          );
      kind_2 = λ e. absurd (omega arith);
    }
down_smallest {kind} {b} hc hd (second g k u v f gap free) =
    let top = part (suc (suc (g + k))) b in
    let up = run k g (suc b) in
    let last = part g b ∷ v in
    let e : u ++ (up ++ (part g (suc b) ∷ last)) ≡ (u ++ up) ++ (part g (suc b) ∷ last) =
    sym (append_assoc u up (part g (suc b) ∷ last)) in
    let w = chained_every top (run k g b ++ v) (chained_after u (top ∷ (run k g b ++ v)) hd) in
    let low : Every (λ p. p.b ≤ b) v =
    every_map {P = Above top} v (λ p j. j.upward) (every_append (Above top) (run k g b) v w).1 in
    let over = before_above (u ++ up) (part g (suc b)) last (rw e at hc) in
    record {
      a = g;
      before = u ++ up;
      after = last;
      is = e;
      smallest = (omega arith, low);
      gone = every_join (λ p. p ≡ part g (suc b) → ⊥) u (top ∷ (run k g b ++ v))
          (above_not (part g (suc b)) u (every_append (λ p. Above p (part g (suc b))) u up over).0)
          (lower_not g b (top ∷ (run k g b ++ v)) (omega arith, every_join (λ p. p.b ≤ b) (run k g b) v (run_row k g b) low));
      kinds = inr refl;
      kind_1 = λ q. absurd (omega arith);
      kind_2 = λ q. (v, refl);
    }

-- A step of the walk takes the smallest part of the highest row that has one.
pub step_smallest : (c d : List Part) → Chained c → (s : Step c d) → Smallest s.kind s.b c d
unfolding Move
step_smallest c d h s = down_smallest h s.down.0 s.down.1

-- ---- 4 and 12

abbrev pub twelve_four : List Part
twelve_four = part 2 1 ∷ part 2 0 ∷ []

-- They are a chain of 16. A move of them leads to no parts of which some are 4 and 3, in whatever order: no chain has both.
pub no_move_to_nine :
    (kind b : ℕ) (up : Bool) (d : List Part)
    → Move kind up b twelve_four d
    → (u v w : List Part)
    → (d ≡ u ++ (part 2 0 ∷ (v ++ (part 0 1 ∷ w))) → ⊥)
    × (d ≡ u ++ (part 0 1 ∷ (v ++ (part 2 0 ∷ w))) → ⊥)
unfolding total value
no_move_to_nine kind b up d m u v w = (
  λ e. let o = both (part 2 0) (part 0 1) e in omega (arith, o.upward),
  λ e. let o = both (part 0 1) (part 2 0) e in omega (arith, o.across),
)
  where
    k : ChainOf 16 twelve_four
    k =
        record {
          chained = ((multiple_above (part 2 1) (part 2 0)).1 (record { across = omega arith; upward = omega arith; apart = omega arith }), tt);
          sums = refl;
        }

    both : (p q : Part) → d ≡ u ++ (p ∷ (v ++ (q ∷ w))) → Above p q
    both p q e =
        let r = move_keeps 16 (omega arith) kind b up twelve_four d k m in
        let h : Chained (p ∷ (v ++ (q ∷ w))) = chained_after u (p ∷ (v ++ (q ∷ w))) (rw e at r.chained) in
        (every_append (Above p) v (q ∷ w) (chained_every p (v ++ (q ∷ w)) h)).1.0
