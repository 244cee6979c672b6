-- Chains cut in two and put together: what a move asks of the chain condition.
-- In this order: parts that stand above each other; every part before and after a cut; a chain with other parts after a cut.
use Rattle.std.specs.Prelude.{◌≡◌, refl, List, [], ◌∷◌, ◌++◌, ◌≤◌, ◌<◌}
use Rattle.std.proofs.Common.{arith}
use Rattle.chains.specs.Chains.{Part, Chained}
use Rattle.chains.specs.Divides.{Above}
use Rattle.chains.proofs.Divides.{multiple_above}
use Rattle.moves.specs.Moves.{Every}

-- ---- above

pub above_trans : {p q r : Part} → Above p q → Above q r → Above p r
above_trans h k =
    record {
      across = omega (arith, h.across, k.across);
      upward = omega (arith, h.upward, k.upward);
      apart = omega (arith, h.apart, k.apart);
    }

-- The first two parts of a chain.
pub chained_first : (p q : Part) (c : List Part) → Chained (p ∷ q ∷ c) → Above p q
chained_first p q c h = (multiple_above p q).0 h.0

pub chained_cons : (p q : Part) (c : List Part) → Above p q → Chained (q ∷ c) → Chained (p ∷ q ∷ c)
chained_cons p q c h k = ((multiple_above p q).1 h, k)

pub chained_rest : (p : Part) (c : List Part) → Chained (p ∷ c) → Chained c
chained_rest p [] h = tt
chained_rest p (q ∷ c) h = h.1

-- ---- every part

pub every_map : {P Q : Part → Type 0} (c : List Part) → ((p : Part) → P p → Q p) → Every P c → Every Q c
every_map [] f h = tt
every_map (p ∷ c) f h = (f p h.0, every_map c f h.1)

pub every_append : (P : Part → Type 0) (u w : List Part) → Every P (u ++ w) → Every P u × Every P w
every_append P [] w h = (tt, h)
every_append P (p ∷ u) w h = let r = every_append P u w h.1 in ((h.0, r.0), r.1)

-- The first part of a chain is above every other.
pub chained_every : (p : Part) (c : List Part) → Chained (p ∷ c) → Every (Above p) c
chained_every p [] h = tt
chained_every p (q ∷ c) h =
    let f = chained_first p q c h in
    (f, every_map c (λ r k. above_trans f k) (chained_every q c h.1))

-- The parts before p are above it.
pub before_above : (u : List Part) (p : Part) (w : List Part) → Chained (u ++ (p ∷ w)) → Every (λ q. Above q p) u
before_above [] p w h = tt
before_above (q ∷ u) p w h =
    ((every_append (Above q) u (p ∷ w) (chained_every q (u ++ (p ∷ w)) h)).1.0, before_above u p w (chained_rest q (u ++ (p ∷ w)) h))

pub chained_after : (u w : List Part) → Chained (u ++ w) → Chained w
chained_after [] w h = h
chained_after (q ∷ u) w h = chained_after u w (chained_rest q (u ++ w) h)

-- ---- other parts after a cut

-- Where the parts of u are above the first of w' too, w' may follow u in place of w.
pub chained_replace :
    (u w w' : List Part)
    → Chained (u ++ w)
    → Chained w'
    → Every (λ q. (p : Part) (v : List Part) → w' ≡ p ∷ v → Above q p) u
    → Chained (u ++ w')
chained_replace [] w w' h k f = k
chained_replace (q ∷ []) w [] h k f = tt
chained_replace (q ∷ []) w (p ∷ v) h k f = chained_cons q p v (f.0 p v refl) k
chained_replace (q ∷ r ∷ u) w w' h k f =
    (h.0, chained_replace (r ∷ u) w w' h.1 k f.1)

-- Another first part, above all that the first was above.
pub chained_lift : (p p' : Part) (v : List Part) → ((q : Part) → Above p q → Above p' q) → Chained (p ∷ v) → Chained (p' ∷ v)
chained_lift p p' [] f h = tt
chained_lift p p' (q ∷ v) f h = chained_cons p' q v (f q (chained_first p q v h)) h.1

pub every_with :
    {P Q R : Part → Type 0} (c : List Part) → ((p : Part) → P p → Q p → R p) → Every P c → Every Q c → Every R c
every_with [] f h k = tt
every_with (p ∷ c) f h k = (f p h.0 k.0, every_with c f h.1 k.1)

-- Parts before p that are not in its row are in rows above.
pub before_row :
    (u : List Part) (p : Part) (w : List Part)
    → Chained (u ++ (p ∷ w))
    → Every (λ q. q.b ≡ p.b → ⊥) u
    → Every (λ q. (p.a ≤ q.a) × (p.b < q.b)) u
before_row u p w h f =
    every_with {P = λ q. Above q p} {Q = λ q. q.b ≡ p.b → ⊥} u
    (λ q k e. (k.across, omega (arith, k.upward, e)))
    (before_above u p w h) f

pub every_join : (P : Part → Type 0) (u w : List Part) → Every P u → Every P w → Every P (u ++ w)
every_join P [] w h k = k
every_join P (p ∷ u) w h k = (h.0, every_join P u w h.1 k)
