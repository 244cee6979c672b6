-- `past` follows the two kinds of `past_of`; that the result fits bounds what is computed on the way.
use Rattle.std.proofs.Common.{◌≡◌, ◌+◌, ◌*◌, ℕ, sym, arith}
use Rattle.moves.specs.Amounts.{low_bit}
use Rattle.moves.specs.Changes.{past_of}
use Rattle.moves.proofs.ChangeLaws.{past_one, past_two}
use Rattle.bench.specs.declared.amounts.Kind.{Kind}
use Rattle.bench.specs.declared.amounts.Kind.TheVariants.{First, Second}
use Rattle.bench.specs.Planning.{kind_number}
use Rattle.bench.proofs.PlanLoops.{kind_one, kind_two}
use Rattle.bench.proofs.moving.past.Goals as goal

first : (kind : Kind) (by : ℕ) → kind ≡ First → 2 * by ≡ past_of (kind_number kind) by
first kind by e = sym (past_one (kind_number kind) by (kind_one kind e))

second : (kind : Kind) (by g : ℕ) → kind ≡ Second → g ≡ low_bit by → 2 * (by + g) ≡ past_of (kind_number kind) by
second kind by g e q = omega (arith, q, past_two (kind_number kind) by (kind_two kind e))

pub overflow_mul-result : goal.overflow_mul-result
overflow_mul-result c = omega (arith, c.requires.0, first _ c.args.by c.in-First.is)

pub overflow_add-result : goal.overflow_add-result
overflow_add-result c = omega (arith, c.requires.0, second _ c.args.by _ c.in-Second.is c.low_bit.ensures)

pub overflow_mul-result-in-Second : goal.overflow_mul-result-in-Second
overflow_mul-result-in-Second c = omega (arith, c.requires.0, second _ c.args.by _ c.in-Second.is c.low_bit.ensures)

pub returns-in-First : goal.returns-in-First
returns-in-First c = first _ _ c.in-First.is

pub returns-in-Second : goal.returns-in-Second
returns-in-Second c = second _ _ _ c.in-Second.is c.low_bit.ensures
