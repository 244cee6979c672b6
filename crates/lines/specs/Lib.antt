-- Lines of hexadecimal. Kinds and Lines define kinds, fields, shapes and items, proofs/LineLaws.antt is their theory; Stream defines
-- the lines of a file and the replies to them, proofs/StreamLaws.antt is its theory; proofs/CapitalLaws.antt says of lines and files
-- that the case of letters makes no difference.
pub mod Kinds
pub mod Lines
pub mod Stream
