-- `last_from` meets its contract. The loop's invariant: what is found in the octaves that are left is what is found in all.
use Rattle.std.proofs.Common.{◌≡◌, refl, ℕ, suc, ◌+◌, ◌-◌, ◌≤◌, arith}
use Rattle.parts.specs.Octaves.{later_of, last_of, last_from}
use Rattle.parts.proofs.octaves.last_from.Invariants.{Tried}
use Rattle.parts.proofs.octaves.last_from.Goals as goal

more : {first step number l next : ℕ} (left m : ℕ) → step ≤ 8 → m ≡ later_of number next l → Tried first step number l next (suc left)
    → Tried first step number m (next + step) left
unfolding last_of
more left m s e t = rw e (record { low = omega (arith, t.low); found = t.found })

pub loop-init : goal.loop-init
unfolding last_from
loop-init c = record { low = omega (arith, c.requires); found = refl }

pub later_of-l-requires : goal.later_of-l-requires
later_of-l-requires c = omega (arith, c.loop.invariant.low)

pub overflow_add-next-in-loop : goal.overflow_add-next-in-loop
overflow_add-next-in-loop c = omega (arith, c.loop.invariant.low)

pub loop-preserved : goal.loop-preserved
loop-preserved c =
    let one_more : 7 - c.loop.counter ≡ suc (7 - (c.loop.counter + 1)) = omega arith in
    more _ _ c.requires.1 c.later_of-l.ensures (rw one_more at c.loop.invariant)

pub returns : goal.returns
unfolding last_of
returns c =
    let none_left : 7 - c.loop.counter ≡ 0 = omega arith in
    (rw none_left at c.loop.invariant).found
