-- `cell` meets its contract, case by case: there is no word, the rest is 1, and from 2 on by the remainder by three.
use Rattle.std.proofs.Common.{inl, inr, true, false, sym, ◌+◌, ◌-◌, ◌%◌, ◌≤◌, ◌∙◌, refl, arith}
use Rattle.limited.specs.KeyCells.{no_word, last_key, right_fits, above_fits, after_other, free_other, free_up}
use Rattle.limited.proofs.table.TermsCells.cell.Goals as goal
use Rattle.limited.proofs.table.TermsCells.cell.Goals.{then-k-eq0-via-then-k-eq0, then-k-eq0-via-else-k-eq0+then-at-self, then-k-eq0-via-else-k-eq0+else-at-self+then-at-self-2}

pub returns-then-k-eq0 : goal.returns-then-k-eq0
returns-then-k-eq0 c =
    let told = no_word _ _ _ c.requires
    (elim c.then-k-eq0.branch [
      | then-k-eq0-via-then-k-eq0 w ↦ inl w.if-k-eq0.true
      | then-k-eq0-via-else-k-eq0+then-at-self w ↦ inr (inl w.if-at-self.true)
      | then-k-eq0-via-else-k-eq0+else-at-self+then-at-self-2 w ↦ inr (inr w.if-at-self-2.true)
    ]) in
    rw c.of_both.ensures (record { free = told true; after_a = told false })

pub returns-then-at-eq1 : goal.returns-then-at-eq1
returns-then-at-eq1 c =
    let told = last_key _ _ _ c.requires c.args.self.now.low in
    rw c.of_both-then-at-eq1.ensures
    (record {
      free = told true (omega arith) c.if-at-eq1.true (omega arith) (omega arith);
      after_a = told false (omega arith) c.if-at-eq1.true (omega arith) (omega arith);
    })

pub overflow_add-part : goal.overflow_add-part
overflow_add-part c =
    omega (arith, right_fits _ _ _ c.requires (omega arith) (omega (arith, c.requires.some_left)) c.args.self.now.low)

pub returns-then-r-eq2 : goal.returns-then-r-eq2
returns-then-r-eq2 c =
    let two : 2 ≤ c.args.at.m = omega (arith, c.requires.some_left) in
    let told = after_other _ _ _ c.requires (omega arith) two (omega arith) in
    rw (c.of_both-then-r-eq2.ensures, c.min-half.ensures)
    (record { free = told ∙ free_other _ _ _ c.requires (omega arith) two (omega arith); after_a = told })

pub overflow_add-part-2 : goal.overflow_add-part-2
overflow_add-part-2 c =
    let above = above_fits _ _ _ c.requires (omega arith) (omega (arith, c.requires.some_left)) in
    omega
    (arith, c.args.self.now.low.each (2 + c.args.at.m % 3), above (c.args.at.up + c.args.k - c.args.at.m % 3) (c.args.at.m % 3) refl (omega arith) refl)

pub returns-then-r-eq1 : goal.returns-then-r-eq1
returns-then-r-eq1 c =
    let two : 2 ≤ c.args.at.m = omega (arith, c.requires.some_left) in
    let told = free_up _ _ _ c.requires (omega arith) two (omega arith) in
    rw (c.of_both-then-r-eq1.ensures, c.min-free.ensures, c.min-half.ensures)
    (record { free = told; after_a = told ∙ sym (free_other _ _ _ c.requires (omega arith) two (omega arith)) })

pub returns : goal.returns
returns c =
    let two : 2 ≤ c.args.at.m = omega (arith, c.requires.some_left) in
    record {
      free = c.min-free.ensures ∙ rw c.min-half.ensures (free_up _ _ _ c.requires (omega arith) two (omega arith));
      after_a = c.min-half.ensures ∙ after_other _ _ _ c.requires (omega arith) two (omega arith);
    }
