-- The exponents of each part of the part table in one small number, and the powers of 3. With them a part is found without a copy
-- of the table, and no entry has to be taken apart.
-- Definitions only; the laws are in CodeLaws.
use Rattle.std.specs.Prelude.{List, [], ◌∷◌, map, ℕ, zero, suc, ◌+◌, ◌*◌}
use Rattle.parts.specs.Table.{parts}
use Rattle.parts.specs.Parts.{times}

-- The code of the part that is v: 64 × b + a, where a is below 64.
unfoldable pub code_of : ℕ → ℕ
code_of v = 64 * times 64 3 v + times 64 2 v

-- The codes of the parts, by their numbers.
unfoldable pub codes : List ℕ
codes = map code_of parts

-- v, 3 × v, 9 × v and so on, k numbers.
unfoldable pub tripling : ℕ → ℕ → List ℕ
tripling zero v = []
tripling (suc k) v = v ∷ tripling k (3 * v)

-- The powers of 3 below 2^64.
unfoldable pub powers : List ℕ
powers = tripling 41 1
