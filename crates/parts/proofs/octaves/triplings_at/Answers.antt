-- `triplings_at` meets its contract. The loop's invariant: what is found in the groups that are left is what is found in all.
use Rattle.std.proofs.Common.{◌≡◌, refl, Bool, true, false, cond, ℕ, suc, ◌+◌, ◌-◌, ◌/◌, ◌≤◌, ◌<◌, ltb, arith}
use borrow.Author.Tests.{ltb-true}
use Rattle.parts.specs.Octaves.{next_group, in_group, in_groups, triplings_at}
use Rattle.parts.proofs.octaves.triplings_at.Invariants.{Tried}
use Rattle.parts.proofs.octaves.triplings_at.Goals as goal

next_below : (r : ℕ) → r < 12 → next_group r < 12
unfolding next_group
next_below r h = go (ltb r 5) refl
  where
    go : (f : Bool) → ltb r 5 ≡ f → cond f (r + 7) (r - 5) < 12
    go true e = omega (arith, ltb-true r 5 e)
    go false e = omega arith

more : {most j b r start : ℕ} (left b' r' : ℕ) → most ≤ 40 → b' ≡ in_group j r start b → r' ≡ next_group r
    → Tried most j b r start (suc left) → Tried most j b' r' (start + (most + 12 - r) / 12) left
unfolding in_groups
more left b' r' m e f t =
    rw (e, f) (record { group = next_below _ t.group; low = omega (arith, t.low); found = t.found })

pub loop-init : goal.loop-init
unfolding triplings_at
loop-init c = record { group = omega arith; low = omega arith; found = refl }

pub in_group-b-requires : goal.in_group-b-requires
in_group-b-requires c = (c.requires.1, c.loop.invariant.group)

pub overflow_sub-start : goal.overflow_sub-start
overflow_sub-start c = omega (arith, c.loop.invariant.group)

pub overflow_add-start-in-loop : goal.overflow_add-start-in-loop
overflow_add-start-in-loop c = omega (arith, c.loop.invariant.low)

pub next_group-r-requires : goal.next_group-r-requires
next_group-r-requires c = c.loop.invariant.group

pub loop-preserved : goal.loop-preserved
loop-preserved c =
    let one_more : 12 - c.loop.counter ≡ suc (12 - (c.loop.counter + 1)) = omega arith in
    more _ _ _ c.requires.0 c.in_group-b.ensures c.next_group-r.ensures (rw one_more at c.loop.invariant)

pub returns : goal.returns
unfolding in_groups
returns c =
    let none_left : 12 - c.loop.counter ≡ 0 = omega arith in
    (rw none_left at c.loop.invariant).found
