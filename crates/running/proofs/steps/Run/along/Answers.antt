-- The letters read so far, from the last one back, are those that the numbers shifted by i hold, and r is their run: this is the
-- invariant.
use Rattle.std.proofs.Common.{◌≡◌, ℕ, suc, ◌+◌, ◌-◌, ◌*◌, ◌/◌, ◌%◌, ◌^◌, ◌<◌, ◌≤◌, sym, ◌∙◌, pow-suc, div-one, arith, rules}
use native.Mathlib.Nat.{sub_self, sub-zero, pow-zero, div-div-eq-div-mul}
use Rattle.words.specs.Packed.{unpacked}
use Rattle.running.specs.Run.{run}
use Rattle.running.proofs.RunLaws.{run_letter}
use Rattle.running.proofs.steps.Run.along.Invariants.{from}
use Rattle.running.proofs.steps.Run.along.Goals as goal

half : (n i : ℕ) → 0 < i → n / 2 ^ (i - 1) / 2 ≡ n / 2 ^ i
half n i h =
    let e : suc (i - 1) ≡ i = omega arith in
    div-div-eq-div-mul n (2 ^ (i - 1)) 2 ∙ rw (← pow-suc 2 (i - 1), e)

module _ (m x rises marks k : ℕ) where
  none_read : 0 ≡ run m x (from rises marks k k)
  unfolding run unpacked
  none_read = rw (sub_self k)

  -- One letter more, the one before what has been read: t is what it gives.
  more : (r i t : ℕ) → 0 < i → i ≤ k → r ≡ run m x (from rises marks k i)
      → t ≡ ((2 + rises / 2 ^ (i - 1) % 2) * r + marks / 2 ^ (i - 1) % 2 * x) % m
      → t ≡ run m x (from rises marks k (i - 1))
  unfolding unpacked
  more r i t h g e f =
      let n : k - (i - 1) ≡ suc (k - i) = omega arith in
      let step = run_letter m x (rises / 2 ^ (i - 1) % 2) (marks / 2 ^ (i - 1) % 2) (from rises marks k i) (omega arith) (omega arith) in
      rw (n, half rises i h, half marks i h) (rw e at f ∙ sym step)

  all_read : (r i : ℕ) → i ≤ 0 → r ≡ run m x (from rises marks k i) → r ≡ run m x (unpacked k rises marks)
  all_read r i h e =
      let z : i ≡ 0 = omega arith in
      rw (sub-zero, pow-zero, div-one rises, div-one marks) at (rw z at e)

pub loop-i-init : goal.loop-i-init
loop-i-init c = (omega arith, none_read _ _ _ _ _)

pub with_letter-r-requires : goal.with_letter-r-requires
with_letter-r-requires c =
    (search rules, search rules, c.loop-i.invariant.0)

pub loop-i-preserved : goal.loop-i-preserved
loop-i-preserved c =
    let v = c.loop-i.invariant in
    (c.with_letter-r.ensures.1, more _ _ _ _ _ _ _ _ c.loop-i-test.true c.loop-i.auto.i v.1 c.with_letter-r.ensures.0)

pub returns : goal.returns
returns c = all_read _ _ _ _ _ _ _ c.loop-i-test.false c.loop-i.invariant.1
