-- `is_free` tests each row below b.
use Rattle.std.proofs.Common.{◌/◌, ◌<◌, ◌≤◌, take, rules, tests}
use Rattle.std.proofs.lemmas.Iterator.{cases_from_all, YieldsList-from_slice}
use Rattle.bench.proofs.PlanLoops.{free_tested}
use Rattle.bench.proofs.rows.is_free.Goals as goal

pub returns : goal.returns
returns c =
    let g = c.args.g in
    free_tested c.args.rows.now c.args.b c.requires c.all.result g
    (cases_from_all _ _ _ (λ x. x / 2 < g) (λ x. g ≤ x / 2) c.all.ensures.ran (YieldsList-from_slice (take c.args.b c.args.rows.now) cc)
    (λ x q k. (search (rules, tests), search (rules, tests))) (λ x q k. search (rules, tests)))
