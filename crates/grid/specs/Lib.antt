-- A table over the points (a, b) in the scratch, filled row by row from the highest b down, over any meaning of its cells.
--   Grid   the blocks of the scratch, rests and rows, what filling them asks and leaves (definitions)
--   Rests  the rests of a row, at a point, and of the rows
--   Masks  the remainders by three of a row's rests, all at once (definitions; MaskLaws has their laws)
--   Fill   how a row and the rows are filled and read
pub mod Grid
pub mod Rests
pub mod Masks
pub mod MaskLaws
pub mod Fill
