-- The three sums are one remainder: of twice r, and of once more r where b rises and x at a part.
use Rattle.std.proofs.Common.{◌≡◌, ℕ, ◌+◌, ◌*◌, ◌%◌, ◌<◌, ◌≤◌, sym, ◌∙◌, mul-le-mul_right, arith, rules}
use native.Mathlib.Nat.{add-mod}
use Rattle.running.proofs.steps.Run.with_letter.Goals as goal

-- d and e are the two remainders, t is that of their sum.
at_once : (m x r up part d e t : ℕ) → d ≡ (r + r) % m → e ≡ (up * r + part * x) % m → t ≡ (d + e) % m
    → t ≡ ((2 + up) * r + part * x) % m
at_once m x r up part d e t f g h =
    let all : r + r + (up * r + part * x) ≡ (2 + up) * r + part * x = omega arith in
    h ∙ rw (f, g, ← all) (sym (add-mod (r + r) (up * r + part * x) m))

-- A residue once or not at all is a residue.
once : (k r m : ℕ) → k ≤ 1 → r < m → k * r < m
once k r m h g = omega (arith, mul-le-mul_right r h)

pub overflow_mul-up : goal.overflow_mul-up
overflow_mul-up c =
    omega (arith, once c.args.up c.args.r c.args.self.m c.requires.0 c.requires.2, c.args.self.small.1)

pub overflow_mul-part : goal.overflow_mul-part
overflow_mul-part c =
    omega (
      arith,
      once c.args.part c.args.self.x c.args.self.m c.requires.1 c.args.self.small.0,
      once c.args.part c.args.r c.args.self.m c.requires.1 c.requires.2,
      c.args.self.small.1,
    )

pub sum-more-requires : goal.sum-more-requires
sum-more-requires c =
    search (rules, once)

pub returns : goal.returns
returns c = (
  at_once _ _ _ _ _ _ _ _ c.sum-double.ensures.0 c.sum-more.ensures.0
      c.sum.ensures.0,
  c.sum.ensures.1,
)
