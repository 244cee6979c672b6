-- What the services on words answer and leave behind. What a reader must believe, in this order: Answers (weighing), Records (a burned
-- record), Conversions (from a record to its word, from a word to its parts), Packed (a word in two numbers). How two words compare is in
-- the crate comparing. The theorems on them:
--   TestLaws     what an answer says of the tests that chose it
--   RecordLaws   a record gets its sum exactly if it names a chain
--   Refusals     which refusal a word and a record get: 7, 8, 9, 10
--   WordLaws     chains through records and words
--   PackedLaws   a word and its chain are read back from its two numbers
--   UnpackedLaws the parts that any two numbers hold
-- What the private functions cite:
--   Walks        the walk that writes a word, the one that packs it, and the points of a word in two numbers
pub mod Answers
pub mod Records
pub mod Conversions
pub mod TestLaws
pub mod RecordLaws
pub mod Refusals
pub mod WordLaws
pub mod Walks
pub mod Packed
pub mod UnpackedLaws
pub mod PackedLaws
