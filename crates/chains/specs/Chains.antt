-- Parts and chains: 003, section 1 with p = 2 and q = 3; document 01, 'Parts and chains'.
-- Definitions only. That a proper multiple by value is one by exponents is in Divides.
use Rattle.std.specs.Prelude.{◌≡◌, List, [], ◌∷◌, ℕ, ◌+◌, ◌*◌, ◌^◌, ◌≤◌}

-- A part is 2^a × 3^b. It is named by its exponents.
pub record Part : Type 0 where
  pub a : ℕ
  pub b : ℕ

-- The number that a part is.
unfoldable pub value : Part → ℕ
value p = 2 ^ p.a * 3 ^ p.b

-- x is a proper multiple of y: y taken twice or more often.
unfoldable pub ProperMultiple : ℕ → ℕ → Type 0
ProperMultiple x y = (k : ℕ) × (2 ≤ k) × (x ≡ k * y)

-- Parts, largest first, each a proper multiple of the next.
abbrev pub Chained : List Part → Type 0
Chained [] = Unit {0}
Chained (p ∷ []) = Unit {0}
Chained (p ∷ q ∷ c) = ProperMultiple (value p) (value q) × Chained (q ∷ c)

-- The sum of the parts.
unfoldable pub total : List Part → ℕ
total [] = 0
total (p ∷ c) = value p + total c

-- c is a chain of n. The empty chain is one of 0 (003, section 2.1).
pub record ChainOf (n : ℕ) (c : List Part) : Type 0 where
  pub chained : Chained c
  pub sums : total c ≡ n
