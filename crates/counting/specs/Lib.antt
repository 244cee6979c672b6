-- What the calls of this crate answer, the rows of counts, and the walks over them.
--   PlainCount  what the plain count answers; PlainLaws has its cases
--   TableCount  what the table count answers; TableLaws has its cases, FewCounts says for which numbers it answers 1 and 2
--   Ranked      what a position and a word at a position answer; RankedLaws has their cases
--   Table       what stands in the rows of counts; CellLaws has the laws of the cells
--   Back        the walk back from a word to its position; its laws in BackLaws
--   Forward     the walk from a position to its word; its laws in ForwardLaws
--   PointLaws   the points of a walk
pub mod PlainCount
pub mod PlainLaws
pub mod Table
pub mod CellLaws
pub mod TableCount
pub mod TableLaws
pub mod FewCounts
pub mod PointLaws
pub mod Back
pub mod BackLaws
pub mod Forward
pub mod ForwardLaws
pub mod Ranked
pub mod RankedLaws
