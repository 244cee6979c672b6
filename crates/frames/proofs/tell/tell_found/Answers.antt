-- `tell_found` tells the chain whose part numbers are the first k in the places, or the refusal.
use native.Mathlib.Omega.{arith}
use lib.ListN.{length-take}
use Rattle.frames.proofs.CallLaws.{found_chain, found_refused}
use Rattle.frames.proofs.tell.tell_found.Goals as goal

pub slice_bounds-numbers-end : goal.slice_bounds-numbers-end
slice_bounds-numbers-end c =
    omega (arith, (found_chain _ c.args.places.now _ c.in-Ok.is).0)

pub tell_chain-requires : goal.tell_chain-requires
tell_chain-requires c =
    let k = (found_chain _ c.args.places.now _ c.in-Ok.is).0 in
    (rw length-take (omega arith), c.largest_of.ensures)

pub returns-in-Ok : goal.returns-in-Ok
returns-in-Ok c =
    rw (found_chain _ _ _ c.in-Ok.is).1 c.tell_chain.ensures

pub returns-in-Err : goal.returns-in-Err
returns-in-Err c =
    rw (found_refused _ _ _ c.in-Err.is) c.tell_refusal.ensures
