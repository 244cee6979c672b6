-- `plan_down` refuses where the two rows allow no move down or another kind, and where a row above is in its way; nothing else can be.
use Rattle.std.proofs.Common.{◌≡◌, ap, arith, rules}
use Rattle.std.proofs.lemmas.Bool.Decides.{not_from_Decides}
use Rattle.bench.specs.Planning.{kind_number}
use Rattle.bench.proofs.PlanLoops.{kind_by, kind_some, above_fits, none_fell, other_fell, past_asked, past_power, blocked_fell, planned_fell}
use Rattle.bench.proofs.moving.plan_down.Goals as goal
use Rattle.bench.proofs.moving.plan_down.Goals.{Else-ne}

same_kind : (c : Else-ne) → kind_number c.in_ok-allowed.allowed.kind ≡ kind_number c.args.kind
same_kind c = let same : c.in_ok-allowed.allowed.kind ≡ c.args.kind = search rules in ap kind_number same

pub fall-requires : goal.fall-requires
fall-requires c = above_fits c.args.b c.args.rows.now c.requires c.if-b.false

pub returns-in_err-allowed : goal.returns-in_err-allowed
returns-in_err-allowed c =
    rw c.from_residual.ensures (none_fell c.args.b c.args.rows.now c.requires c.if-b.false _ (c.in_err-allowed.ensures))

pub returns-then-ne : goal.returns-then-ne
returns-then-ne c =
    let apart : c.in_ok-allowed.allowed.kind ≡ c.args.kind → ⊥ = search rules in
    other_fell c.args.b c.args.rows.now c.requires c.if-b.false _ _ c.in_ok-allowed.ensures _ (λ e. apart (kind_by _ _ e))

pub past-p-requires : goal.past-p-requires
past-p-requires c =
    let r =
    past_asked c.args.b c.args.rows.now c.requires c.if-b.false _ _ c.in_ok-allowed.ensures (kind_some c.in_ok-allowed.allowed.kind)
    _ (same_kind (goal.at.past-p-requires c).Else-ne) in
    (r.0, r.1)

pub is_clear-requires : goal.is_clear-requires
is_clear-requires c = (
  omega (arith, c.requires.rows, c.if-b.false),
  past_power c.args.b c.args.rows.now c.requires c.if-b.false _ _ c.in_ok-allowed.ensures
      (kind_some c.in_ok-allowed.allowed.kind) _ _ (same_kind (goal.at.is_clear-requires c).Else-ne) c.past-p.ensures,
)

pub returns-then-is_clear : goal.returns-then-is_clear
returns-then-is_clear c =
    planned_fell c.args.b c.args.rows.now c.requires c.if-b.false _ _ c.in_ok-allowed.ensures _ _ (same_kind (goal.at.returns-then-is_clear c).Else-ne)
    c.past-p.ensures (c.is_clear.ensures.0 c.if-is_clear.true)

pub returns : goal.returns
returns c =
    blocked_fell c.args.b c.args.rows.now c.requires c.if-b.false _ _ c.in_ok-allowed.ensures _ _ (same_kind (goal.at.returns c).Else-ne)
    c.past-p.ensures (not_from_Decides _ c.is_clear.ensures c.if-is_clear.false)
