-- `plan_up` refuses where the row allows no move up or another kind, and where a row below is in its way; nothing else can be.
use Rattle.std.proofs.Common.{◌≡◌, ap, rules}
use Rattle.std.proofs.lemmas.Bool.Decides.{not_from_Decides}
use Rattle.bench.specs.Planning.{kind_number}
use Rattle.bench.proofs.PlanLoops.{kind_by, kind_some, rose_pos, none_rose, other_rose, blocked_rose, planned_rose}
use Rattle.bench.proofs.moving.plan_up.Goals as goal

pub returns-in_err-allowed : goal.returns-in_err-allowed
returns-in_err-allowed c =
    rw c.from_residual.ensures (none_rose c.args.b c.args.rows.now c.requires c.if-b.false _ (c.in_err-allowed.ensures))

pub returns-then-ne : goal.returns-then-ne
returns-then-ne c =
    let apart : c.in_ok-allowed.allowed.kind ≡ c.args.kind → ⊥ = search rules in
    other_rose c.args.b c.args.rows.now c.requires c.if-b.false _ _ c.in_ok-allowed.ensures _ (λ e. apart (kind_by _ _ e))

pub low_bit-g-requires : goal.low_bit-g-requires
low_bit-g-requires c =
    rose_pos c.args.b c.args.rows.now c.requires c.if-b.false _ _ c.in_ok-allowed.ensures (kind_some c.in_ok-allowed.allowed.kind)

pub returns-then-is_free : goal.returns-then-is_free
returns-then-is_free c =
    let same : c.in_ok-allowed.allowed.kind ≡ c.args.kind = search rules in
    planned_rose c.args.b c.args.rows.now c.requires c.if-b.false _ _ c.in_ok-allowed.ensures _ _ (ap kind_number same)
    c.low_bit-g.ensures (c.is_free.ensures.0 c.if-is_free.true)

pub returns : goal.returns
returns c =
    blocked_rose c.args.b c.args.rows.now c.requires c.if-b.false _ _ c.in_ok-allowed.ensures _ _ c.low_bit-g.ensures
    (not_from_Decides _ c.is_free.ensures c.if-is_free.false)
