-- The part table and part numbers. What a reader must believe, in this order: Table (the table), Parts (from a number to its part
-- and back, the largest part of a record, sums), Codes (the exponents of the table's parts); then Octaves (the part of a number by
-- arithmetic). The theory, in proofs/: Tests (from a test of a whole list to each entry), Numbers, CodeLaws, Largest and OctaveLaws.
pub mod Table
pub mod Parts
pub mod Codes
pub mod Octaves
