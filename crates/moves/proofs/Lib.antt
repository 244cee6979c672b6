-- The theory of moves and of the walk; the definitions are in specs/. The theorems on moves of chains:
--   MoveLaws     the tie: a move of a chain is a move of its rows, and the other way round; a move keeps a chain of n, a move down is
--                a move up undone, kind, direction and row determine the result
--   Steps        a step of the walk takes the smallest part of the highest row; 4 and 12 do not become 4, 3 and 9
--   WalkLaws     every chain of n has one walk; its bound, and the binary chain at its end
--   Deciding     whether there is a move, and whether rows are those of a chain of n
-- On the way to them, on chains: Chaining (chains cut in two), UpChains (a move up gives a chain), RowsOf (the rows of a list of parts),
-- Layouts (one layout for each chain, and one chain for each), ChainRows (moves up, from the chain to its rows and back).
-- On rows:
--   RowLaws, RowMoveLaws   the moves of rows
--   Phases, Ends           two rows; the whole walk
--   BitLaws, AmountLaws    highest and lowest bits; that the amounts are right
--   ChangeLaws   when there is a move
--   PlanLaws     that what the code finds out first is right
--   TestLaws     the chain condition as a test
--   Points       the bound of the walk, counted row by row
--   WalkLoops    the walk as the code's two loops make it
pub mod MoveLaws
pub mod Steps
pub mod WalkLaws
pub mod Deciding
pub mod Chaining
pub mod UpChains
pub mod RowsOf
pub mod Layouts
pub mod ChainRows
pub mod RowLaws
pub mod RowMoveLaws
pub mod Phases
pub mod Ends
pub mod BitLaws
pub mod AmountLaws
pub mod ChangeLaws
pub mod PlanLaws
pub mod TestLaws
pub mod Points
pub mod WalkLoops
