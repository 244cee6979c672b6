-- What a reader must believe: Services (what the two services answer and leave). Promises says what follows: the cheapest chain is the
-- cheapest, and the count agrees with the table count. The rest is theory:
--   Table      where the numbers of the table stand, what filling it is lent and gives (definitions), with TableLaws
--   Cells      what a number means, a count or a least key (definitions), with CountCells, KeyLaws and KeyCells
--   Walk       the walk along the keys that finds the cheapest word (definitions), with WalkLaws
--   Choosing   what choosing finds (definitions), with ChoosingLaws
pub mod Services
pub mod Table
pub mod TableLaws
pub mod Cells
pub mod CountCells
pub mod KeyLaws
pub mod KeyCells
pub mod Walk
pub mod WalkLaws
pub mod Choosing
pub mod ChoosingLaws
pub mod Promises
