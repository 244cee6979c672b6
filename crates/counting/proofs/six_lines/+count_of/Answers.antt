-- `count_of` answers the count: each arm of the match is one of the six relations of the count, at u = n / 6.
-- No sum wraps, since a count is at most its number; the difference does not, since it is a count.
use Rattle.std.proofs.Common.{◌≡◌, ℕ, zero, suc, ◌+◌, ◌*◌, ◌/◌, ◌%◌, ◌≤◌, sym, refl, ap, arith}
use Rattle.chains.specs.Listing.{count}
use Rattle.chains.proofs.Counts.{count_at_most, count_0, count_1, count_first_line, count_6U+2, count_6U+3, count_6U+4, count_6U+5}
use Rattle.counting.proofs.six_lines.+count_of.Goals as goal

-- The numbers 0 and 1 themselves.
small : (n : ℕ) → n ≤ 1 → 1 ≡ count n
small zero h = sym count_0
small (suc zero) h = sym count_1
small (suc (suc n)) h = absurd (omega arith)

by_six : (n r : ℕ) → n % 6 ≡ r → count n ≡ count (6 * (n / 6) + r)
by_six n r e = ap count (omega arith)

pub returns-then-n-le1 : goal.returns-then-n-le1
returns-then-n-le1 t c = small c.args.n (omega arith)

pub overflow_add-result : goal.overflow_add-result
overflow_add-result t c = let u = c.args.n / 6 in
    omega (arith, count_at_most (3 * u + 1) (omega arith), count_at_most (2 * u + 1) (omega arith))

pub overflow_add-result-in-4 : goal.overflow_add-result-in-4
overflow_add-result-in-4 t c = let u = c.args.n / 6 in
    omega (arith, count_at_most (3 * u + 2) (omega arith), count_at_most (2 * u + 1) (omega arith))

pub overflow_add-result-in-0 : goal.overflow_add-result-in-0
overflow_add-result-in-0 t c = let u = c.args.n / 6 in
    omega (arith, count_at_most (2 * u) (omega arith), count_at_most (3 * u) (omega arith))

pub overflow_sub-result : goal.overflow_sub-result
overflow_sub-result t c = omega (arith, count_first_line (c.args.n / 6) (c.args.n % 6) (omega arith) (omega arith))

pub returns-in-2 : goal.returns-in-2
returns-in-2 t c = omega (arith, by_six c.args.n 2 (omega arith), count_6U+2 (c.args.n / 6))

pub returns-in-3 : goal.returns-in-3
returns-in-3 t c = omega (arith, by_six c.args.n 3 (omega arith), count_6U+3 (c.args.n / 6))

pub returns-in-4 : goal.returns-in-4
returns-in-4 t c = omega (arith, by_six c.args.n 4 (omega arith), count_6U+4 (c.args.n / 6))

pub returns-in-0 : goal.returns-in-0
returns-in-0 t c = omega (arith, by_six c.args.n (c.args.n % 6) refl, count_first_line (c.args.n / 6) (c.args.n % 6) (omega arith) (omega arith))

pub returns-in_default : goal.returns-in_default
returns-in_default t c = omega (arith, by_six c.args.n 5 (omega arith), count_6U+5 (c.args.n / 6))
