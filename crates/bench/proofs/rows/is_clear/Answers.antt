-- `is_clear` tests each row from b on: the mask p - 1 tells whether it is a multiple of p.
use Rattle.std.proofs.lemmas.Slice.{between_to_end}
use Rattle.std.proofs.Common.{◌∙◌, length, arith, ◌≡◌, ◌-◌, bit_and, drop, rules, tests}
use Rattle.std.proofs.lemmas.Iterator.{cases_from_all, YieldsList-from_slice}
use Rattle.bench.proofs.PlanLoops.{clear_tested}
use Rattle.bench.proofs.rows.is_clear.Goals as goal

pub returns : goal.returns
returns c =
    let p = c.args.p in
    let R = c.args.rows.now in
    clear_tested R c.args.b c.requires.0 c.all.result p c.requires.1
    (cases_from_all _ _ _ (λ x. bit_and x (p - 1) ≡ 0) (λ x. bit_and x (p - 1) ≡ 0 → ⊥) c.all.ensures.ran
    (YieldsList-from_slice (drop c.args.b R) (c.iter.ensures.rest ∙ between_to_end R c.args.b (length R) (omega arith))) (λ x q k. (search (rules, tests), search (rules, tests))) (λ x q k. search (rules, tests)))
