-- Choosing and the best chain. What a reader must believe: Chosen (what they answer). The theorems on it:
--   Demand3   the answer and the places are those of the best chain, and 5 comes exactly where none fits
--   Placing   choosing and then placing tell what the best chain tells
-- What the contracts of the private functions name; the laws of X are in XLaws:
--   KeyTable  the least key at a point, what a row of keys holds of it, and the turns of a row
--   KeyRows   what the calls that fill the rows of keys ask and leave
--   Walk      the walk along the turns that finds the best word (TurnLaws: where a row of it turns)
--   Choosing  the word of the best chain within limits
pub mod Chosen
pub mod KeyTable
pub mod KeyTableLaws
pub mod KeyRows
pub mod KeyRowsLaws
pub mod Walk
pub mod TurnLaws
pub mod WalkLaws
pub mod Choosing
pub mod ChoosingLaws
pub mod ChosenLaws
pub mod Demand3
pub mod Placing
