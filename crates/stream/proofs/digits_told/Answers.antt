-- `digits_told` goes by the answer's two cases.
use mathlib.Core.Path.{sym, ap}
use Rattle.stream.specs.Pieces.{digits_told}
use Rattle.stream.proofs.digits_told.Goals as goal

pub returns-in-Ok : goal.returns-in-Ok
unfolding digits_told
returns-in-Ok c = sym (ap digits_told c.in-Ok.is)

pub returns-in-Err : goal.returns-in-Err
unfolding digits_told
returns-in-Err c = sym (ap digits_told c.in-Err.is)
