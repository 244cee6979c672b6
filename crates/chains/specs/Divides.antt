-- A point further up the grid. That this is a proper multiple by value is a theorem, `multiple_above`.
use Rattle.std.specs.Prelude.{◌+◌, ◌≤◌, ◌<◌}
use Rattle.chains.specs.Chains.{Part}

-- The part p stands above q on the grid, and is not q.
pub record Above (p q : Part) : Type 0 where
  pub across : q.a ≤ p.a
  pub upward : q.b ≤ p.b
  pub apart : q.a + q.b < p.a + p.b
