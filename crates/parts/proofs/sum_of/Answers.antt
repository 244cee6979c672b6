-- `parts::sum_of` meets its contract. Where one more entry would pass the largest 64-bit number, the whole does too.
use Rattle.std.proofs.Common.{◌≡◌, List, ℕ, suc, ◌+◌, ◌^◌, ◌<◌, None, length, drop, get_or, drop-cons, add-one, lt-ltb, le-ltb, arith}
use Rattle.std.proofs.Math.ListN.{drop_of_length-le}
use Rattle.parts.specs.Parts.{limit, sum_at, sum_of}
use Rattle.parts.proofs.sum_of.Invariants.{Summed}
use Rattle.parts.proofs.sum_of.Goals as goal

-- One number more, of value v: it passes the limit, or it is added.
module _ {t ns : List ℕ} {s i v : ℕ} (inv : Summed t ns s i) (h : i < length ns) (e : v ≡ get_or t (get_or ns i 0) 0) where
  step : s + v + sum_at t (drop (i + 1) ns) ≡ sum_at t ns
  unfolding sum_at
  step =
      let w : s + (get_or t (get_or ns i 0) 0 + sum_at t (drop (suc i) ns)) ≡ sum_at t ns = rw (drop-cons ns i 0) at inv.whole in
      rw add-one (omega arith)

  over : (s + v < 2 ^ 64 → ⊥) → None ≡ sum_of (sum_at t ns)
  unfolding sum_of
  over l = rw (le-ltb (sum_at t ns) limit (omega (arith, step, l)))

pub returns-in_err-sum : goal.returns-in_err-sum
returns-in_err-sum c =
    cc (c.from_residual.ensures, over c.loop-number.invariant c.loop-number-test.true c.value_of.ensures c.in_err-sum.ensures)

pub loop-number-preserved : goal.loop-number-preserved
loop-number-preserved c =
    record {
      low = omega (arith, c.in_ok-sum.ensures);
      whole = rw (c.in_ok-sum.ensures.1) (step c.loop-number.invariant c.loop-number-test.true c.value_of.ensures);
    }

pub returns : goal.returns
unfolding sum_of sum_at
returns c =
    let all : sum_at c.args.table.now c.args.numbers.now ≡ c.loop-number.sum =
    omega (arith, rw (drop_of_length-le c.args.numbers.now c.loop-number-test.false) at c.loop-number.invariant.whole) in
    rw (all, lt-ltb c.loop-number.sum limit c.loop-number.invariant.low)
