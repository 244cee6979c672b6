-- `best_chain` tells what choosing and then placing tell, put together. Choosing gives at most 64 parts, and they stand in the places.
use Rattle.std.proofs.Common.{sym, length-take-le}
use Rattle.std.proofs.lemmas.Result.{err_from_is_err_and}
use Rattle.best.specs.Chosen.{limits_of, prices_of}
use Rattle.best.specs.Placing.{together, refused_told, numbers_stand, placed_told}
use Rattle.best.proofs.best_chain.Goals as goal

pub returns-in_err-k : goal.returns-in_err-k
returns-in_err-k c =
    let a = c.args in
    let e = c.choose_chain.ensures in
    let p = err_from_is_err_and c.from_residual.result c.from_residual.ensures.1 in
    rw (p.1, p.2)
    (record {
      answer = refused_told a.n (limits_of a.limits) (prices_of a.prices) c.ranges.n.fits _ _ e.answer e.places e.scratch c.in_err-k.was;
      places = e.places;
      scratch = e.scratch;
    })

pub slice_bounds-place_record-end : goal.slice_bounds-place_record-end
slice_bounds-place_record-end c =
    let a = c.args in
    let e = c.choose_chain.ensures in
    numbers_stand a.n (limits_of a.limits) (prices_of a.prices) c.ranges.n.fits _ _ e.answer e.places e.scratch c.in_ok-k.was

pub slice_bounds-place_record-end-2 : goal.slice_bounds-place_record-end-2
slice_bounds-place_record-end-2 c =
    let a = c.args in
    let e = c.choose_chain.ensures in
    sym (length-take-le _ _
    (numbers_stand a.n (limits_of a.limits) (prices_of a.prices) c.ranges.n.fits _ _ e.answer e.places e.scratch c.in_ok-k.was))

pub returns-in_err-position : goal.returns-in_err-position
unfolding together
returns-in_err-position c =
    let a = c.args in
    let e = c.choose_chain.ensures in
    let p = err_from_is_err_and c.from_residual-in_err-position.result c.from_residual-in_err-position.ensures.1 in
    let told = placed_told a.n (limits_of a.limits) (prices_of a.prices) c.ranges.n.fits _ _ e.answer e.places e.scratch c.in_ok-k.was
    c.place_record.ensures.answer c.place_record.ensures.scratch in
    rw (p.1, p.2) (record { answer = rw c.in_err-position.was at told.0; places = told.1.0; scratch = told.1.1 })

pub returns : goal.returns
unfolding together
returns c =
    let a = c.args in
    let e = c.choose_chain.ensures in
    let told = placed_told a.n (limits_of a.limits) (prices_of a.prices) c.ranges.n.fits _ _ e.answer e.places e.scratch c.in_ok-k.was
    c.place_record.ensures.answer c.place_record.ensures.scratch in
    record { answer = rw c.in_ok-position.was at told.0; places = told.1.0; scratch = told.1.1 }
