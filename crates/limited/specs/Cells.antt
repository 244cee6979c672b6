-- What the blocks of the table hold: how many words have at most k parts, or the least key of the words within the limits that have at
-- most k parts.
--
-- A key is price × 128 + parts, so the least key has the lowest price and among those the fewest parts (document 02, T-10). `no_key` stands
-- for no word: it is above every key of a chain below 2^64.
--
-- In this order: the costs of letters as a list; a cell; what filling a cell asks. Definitions only; the laws are in CountCells, KeyLaws
-- and KeyCells.
use Rattle.std.specs.Prelude.{Bool, true, false, List, [], ◌∷◌, ℕ, suc, ◌+◌, ◌*◌, ◌/◌, ◌≤◌, ◌<◌}
use Rattle.chains.specs.Best.{Prices}
use Rattle.chains.proofs.Marks.{point}
use Rattle.chains.specs.Keys.{limited_by, ways_up_to, least_on}
use Rattle.chains.proofs.BestOfAll.{price_weight}
use Rattle.best.specs.KeyTable.{no_key, costs_by}
use Rattle.limited.specs.Table.{Block, Row, BlockLent}

-- What the letters 0 to 3 cost where they are not the last, and what the last point costs.
abbrev pub cheap_list : Prices → List ℕ
cheap_list π =
    (price_weight * π.d)
    ∷ (price_weight * (π.s2 + π.d) + 1)
    ∷ (price_weight * π.t)
    ∷ (price_weight * (π.s3 + π.t) + 1)
    ∷ 1
    ∷ []

-- ---- a cell

-- How many words a reader can go on with at the rest m, with k parts still allowed. The point makes no difference.
abbrev pub count_in : ℕ → Block
count_in m f k = ways_up_to k f m

-- The same, row by row.
abbrev pub counts : ℕ → Row
counts b a m = count_in m

-- The least key of the words at the point (a, b) and the rest m, with k parts still allowed.
abbrev pub key_in : List ℕ → ℕ → ℕ → ℕ → ℕ → ℕ → Block
key_in costs A B b a m f k = least_on (limited_by A B) no_key (costs_by costs) (point a b, k) f m

-- A table of counts or of keys.
unfoldable pub cell_in : Bool → List ℕ → ℕ → ℕ → ℕ → Row
cell_in true costs A B b a m = count_in m
cell_in false costs A B b a m = key_in costs A B b a m

-- ---- what filling asks

-- A cell for k parts at the point (a, b) and the rest m, where `R b` says what row b means.
pub record CellAsked (R : ℕ → Row) (b a m up k : ℕ) (l : List ℕ) : Type 0 where
  pub lent : BlockLent (R b (suc a) (m / 2)) (R (suc b) a (m / 3)) m up (suc k) l
  pub some_left : 1 ≤ m
  pub few : k < 65
