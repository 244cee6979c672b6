-- Digits written into bytes that are lent, from a place on.
-- Definitions only; what pieces one after the other make is in PutLaws.
use Rattle.std.specs.Prelude.{List, ◌++◌, ℕ, ◌+◌, length, take, drop}

-- l with xs in the place of what stood there, from `at` on.
unfoldable pub put_at : ℕ → List ℕ → List ℕ → List ℕ
put_at at xs l = take at l ++ (xs ++ drop (at + length xs) l)
