-- `shape_of` answers the line's shape: each test is that of `shape_of`, in its order.
use Rattle.std.proofs.Common.{◌∙◌, sym, ap, length, Err, arith}
use Rattle.lines.specs.Lines.{Proper}
use Rattle.lines.proofs.LineLaws.{bad_none, bad_odd, bad_long, unfit_length, unfit_character, shape_kind, unfit_kind, unfit_kind_length, fit_kind_length, kind_told, kind_refused}
use Rattle.lines.proofs.shape_of.Goals.{then-n-eq0-via-then-n-eq0, then-n-eq0-via-else-n-eq0+then-n-eq1, then-n-eq0-via-else-n-eq0+else-n-eq1+then-n-gt514}
use Rattle.lines.proofs.shape_of.Goals as goal

pub returns-then-n-eq0 : goal.returns-then-n-eq0
returns-then-n-eq0 c =
    let n = length c.args.line.now in
    sym (unfit_length c.args.line.now (elim c.then-n-eq0.branch [
      | then-n-eq0-via-then-n-eq0 w ↦ bad_none n (omega arith)
      | then-n-eq0-via-else-n-eq0+then-n-eq1 w ↦ bad_odd n (omega arith)
      | then-n-eq0-via-else-n-eq0+else-n-eq1+then-n-gt514 w ↦ bad_long n (omega arith)
    ]))

pub returns-then-not-all_digits : goal.returns-then-not-all_digits
returns-then-not-all_digits c =
    let proper : Proper (length c.args.line.now) = omega arith in
    sym (unfit_character c.args.line.now proper (sym c.all_digits.ensures ∙ c.if-not-all_digits.true))

pub returns-in-Err : goal.returns-in-Err
returns-in-Err c =
    let shape = shape_kind c.args.line.now (omega arith) (sym c.all_digits.ensures ∙ c.if-not-all_digits.false) in
    let (none, why) = kind_refused _ _ (sym c.in-Err.ensures) in
    ap Err why ∙ sym (shape ∙ unfit_kind _ _ none)

pub returns-then-n-bytes_in : goal.returns-then-n-bytes_in
returns-then-n-bytes_in c =
    let shape = shape_kind c.args.line.now (omega arith) (sym c.all_digits.ensures ∙ c.if-not-all_digits.false) in
    sym (shape ∙ unfit_kind_length _ _ _ (kind_told _ _ (sym c.in-Ok.ensures)) (λ e. omega arith))

pub returns : goal.returns
returns c =
    let shape = shape_kind c.args.line.now (omega arith) (sym c.all_digits.ensures ∙ c.if-not-all_digits.false) in
    sym (shape ∙ fit_kind_length _ _ _ (kind_told _ _ (sym c.in-Ok.ensures)) (omega arith))
