-- `tell_priced` leaves the digits of the chain and of its price right after them, and zeros from there on.
use mathlib.Core.Path.{sym}
use native.Mathlib.Omega.{arith}
use Rattle.frames.specs.PutLaws.{at_start, more_digits, from_start}
use Rattle.frames.specs.ReplyDigits.{priced_digits}
use Rattle.frames.specs.ReplyDigitLaws.{length_chain}
use Rattle.frames.proofs.CallLaws.{told_served}
use Rattle.frames.proofs.tell.tell_priced.Goals as goal

pub put_price-end-requires : goal.put_price-end-requires
put_price-end-requires c =
    let a = c.args in
    let long = length_chain a.n a.position a.numbers.now in
    omega arith

pub fill-requires : goal.fill-requires
fill-requires c =
    let a = c.args in
    let long = length_chain a.n a.position a.numbers.now in
    omega arith

pub returns : goal.returns
unfolding priced_digits
returns c =
    let a = c.args in
    let out = a.out.now in
    let long = length_chain a.n a.position a.numbers.now in
    let chain = at_start _ _ out _ (sym c.put_chain-k.ensures.value) c.put_chain-k.ensures.out_after in
    let priced = from_start _ _ _ _
    (more_digits 0 _ 8 _ _ _ out _ _ chain (omega arith) c.put_price-end.ensures.value c.put_price-end.ensures.out_after) in
    told_served _ _ _ _ (omega arith) (omega arith) c.fill.ensures _ (sym priced.0) priced.1
