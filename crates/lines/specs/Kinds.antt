-- The kinds of lines and how a line of each is laid out: document 01, 'Frames', and document 02, T-02, T-04, T-05 and T-06. Nothing
-- else says which kinds there are.
-- Definitions only.
use Rattle.std.specs.Prelude.{true, false, List, [], ◌∷◌, ℕ, eqb, Option, Some, None}
-- The kinds are those of the code, here under the names that a line of each has.
pub use Rattle.lines.specs.declared.Kind.{Kind}
pub use Rattle.lines.specs.declared.Kind.TheVariants.{Count as count_line, Best as best_line, At as at_line, Record as record_line, Word as word_line, Next as next_line, Run as run_line, Tree as tree_line, ToTree as to_tree_line}

-- How a line of a kind is laid out. Items are a record's part numbers or a word's letters. In a kind without items all bytes stand
-- before them, and their width is 0. In a record a and b of its largest part stand between the number of items and the items.
pub record Row : Type 0 where
  -- The first byte of a line.
  pub byte : ℕ
  -- How many bytes stand before the items.
  pub before : ℕ
  -- The byte that holds the number of items.
  pub count_at : ℕ
  -- How many bytes an item has.
  pub width : ℕ

abbrev pub row : ℕ → ℕ → ℕ → ℕ → Row
row byte before count_at width = record { byte = byte; before = before; count_at = count_at; width = width }

unfoldable pub row_of : Kind → Row
row_of count_line = row 1 9 0 0
row_of best_line = row 2 20 0 0
row_of at_line = row 3 17 0 0
row_of record_line = row 4 4 1 2
row_of word_line = row 5 2 1 1
row_of next_line = row 6 2 1 1
row_of run_line = row 7 20 17 2
row_of tree_line = row 8 2 1 1
row_of to_tree_line = row 9 4 1 2

unfoldable pub kinds : List Kind
kinds =
    count_line ∷ best_line ∷ at_line ∷ record_line ∷ word_line ∷ next_line ∷ run_line ∷ tree_line ∷ to_tree_line ∷ []

-- The first of some kinds that has a byte.
unfoldable pub kind_among : List Kind → ℕ → Option Kind
kind_among [] b = None
kind_among (k ∷ ks) b = elim (eqb b (row_of k).byte) [ true ↦ Some k | false ↦ kind_among ks b ]

-- The kind of a line by its first byte.
unfoldable pub kind_of : ℕ → Option Kind
kind_of b = kind_among kinds b
