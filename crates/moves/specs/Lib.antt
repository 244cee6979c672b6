-- The moves of a chain and the walk to the binary chain, as source document 003 defines them; no code. The theory is in proofs/.
--
-- What a reader must believe: Moves (the two kinds of move, the walk and its bound, on chains of parts), and of Rows `rows_of` and
-- `Laying`: a chain as 41 numbers, which is what the bench keeps. Definitions for the theory:
--   RowMoves     the moves of rows
--   Walks        the walk of rows
--   Amounts      how much a move takes, from the highest and lowest bits of rows
--   Changes      the rows after a move
--   Plans        what the code finds out first
pub mod Moves
pub mod Rows
pub mod RowMoves
pub mod Walks
pub mod Amounts
pub mod Changes
pub mod Plans
