-- Eight letters stand as one letter would, their number: while both words have eight left, the order is that of what is left behind
-- equal eights; then the tails decide.
use mathlib.Core.Path.{◌≡◌, sym, ap, ◌∙◌}
use Prim.Native.Nat.{ℕ, ◌+◌, ◌*◌, ◌/◌}
use native.Mathlib.Omega.{arith}
use lib.ListN.{take, drop}
use Rattle.std.specs.Ordering.{nat_cmp, ordering_then}
use Rattle.chains.specs.Words.{Word}
use Rattle.comparing.specs.Answers.{order_of}
use Rattle.comparing.specs.Eights.{EightOf}
use Rattle.comparing.proofs.FirstLetters.{order_first, decided, passed}
use Rattle.comparing.proofs.EightAt.{order_eight}
use Rattle.comparing.proofs.order.in_order.Goals as goal

-- Behind the k-th eights, with the numbers x and y.
step : (u v : Word) (k x y : ℕ) → EightOf (take 8 (drop (8 * k) u)) x → EightOf (take 8 (drop (8 * k) v)) y
    → order_of (drop (8 * k) u) (drop (8 * k) v) ≡ ordering_then (nat_cmp x y) (order_of (drop (8 * (k + 1)) u) (drop (8 * (k + 1)) v))
step u v k x y p q =
    let e : 8 * (k + 1) ≡ 8 * k + 8 = omega arith in
    rw e (order_eight u v (8 * k) x y p q ∙ order_first x y (drop (8 * k + 8) u) (drop (8 * k + 8) v))

pub loop-k-preserved : goal.loop-k-preserved
loop-k-preserved c =
    c.loop-k.invariant
    ∙ step _ _ c.loop-k.k _ _ c.eight_at-eight_u.ensures c.eight_at-eight_v.ensures
    ∙ ap (λ o. ordering_then o (order_of (drop (8 * (c.loop-k.k + 1)) c.args.u.now) (drop (8 * (c.loop-k.k + 1)) c.args.v.now)))
    (sym c.number_order-order.ensures)
    ∙ passed c.number_order-order.result _ (sym c.ne.ensures ∙ c.if-ne.false)

pub returns-then-ne : goal.returns-then-ne
returns-then-ne c =
    decided c.number_order-order.result _ (sym c.ne.ensures ∙ c.if-ne.true)
    ∙ ap (λ o. ordering_then o (order_of (drop (8 * (c.loop-k.k + 1)) c.args.u.now) (drop (8 * (c.loop-k.k + 1)) c.args.v.now))) c.number_order-order.ensures
    ∙ sym (c.loop-k.invariant ∙ step _ _ c.loop-k.k _ _ c.eight_at-eight_u.ensures c.eight_at-eight_v.ensures)

pub singly-requires : goal.singly-requires
singly-requires c = (omega arith, omega arith)

pub returns : goal.returns
returns c =
    let e : c.min-both.result / 8 ≡ c.loop-k.k = omega arith in
    rw e at c.singly.ensures ∙ sym c.loop-k.invariant
