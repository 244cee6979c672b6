-- `cell` meets its contract, case by case: no part is allowed, the rest is 1, and from 2 on by the remainder by three.
use Rattle.std.proofs.Common.{true, false, sym, ◌≤◌, ◌∙◌, arith}
use Rattle.limited.specs.CountCells.{count_none, count_one, count_fits, right_within, after_other, free_other, free_up}
use Rattle.limited.proofs.table.CountsCells.cell.Goals as goal

pub returns-then-k-eq0 : goal.returns-then-k-eq0
returns-then-k-eq0 c =
    let told = count_none c.requires in
    rw c.of_both.ensures (record { free = told true c.if-k-eq0.true; after_a = told false c.if-k-eq0.true })

pub returns-then-at-eq1 : goal.returns-then-at-eq1
returns-then-at-eq1 c =
    let told = count_one c.requires in
    rw c.of_both-then-at-eq1.ensures
    (record { free = told true (omega arith) c.if-at-eq1.true; after_a = told false (omega arith) c.if-at-eq1.true })

pub bounds-part-k : goal.bounds-part-k
bounds-part-k c =
    right_within c.requires (omega arith) (omega (arith, c.requires.some_left))

pub returns-then-r-eq2 : goal.returns-then-r-eq2
returns-then-r-eq2 c =
    let two : 2 ≤ c.args.at.m = omega (arith, c.requires.some_left) in
    let told = after_other c.requires (omega arith) two (omega arith) in
    rw c.of_both-then-r-eq2.ensures (record { free = told ∙ free_other c.requires (omega arith) two (omega arith); after_a = told })

pub overflow_add-free-2 : goal.overflow_add-free-2
overflow_add-free-2 c =
    let told = free_up c.requires (omega arith) (omega (arith, c.requires.some_left)) (omega arith) in
    omega (arith, told, count_fits c.requires true)

pub returns-then-r-eq1 : goal.returns-then-r-eq1
returns-then-r-eq1 c =
    let two : 2 ≤ c.args.at.m = omega (arith, c.requires.some_left) in
    let told = free_up c.requires (omega arith) two (omega arith) in
    rw c.of_both-then-r-eq1.ensures
    (record { free = told; after_a = told ∙ sym (free_other c.requires (omega arith) two (omega arith)) })

pub returns : goal.returns
returns c =
    let two : 2 ≤ c.args.at.m = omega (arith, c.requires.some_left) in
    record {
      free = free_up c.requires (omega arith) two (omega arith);
      after_a = after_other c.requires (omega arith) two (omega arith);
    }
