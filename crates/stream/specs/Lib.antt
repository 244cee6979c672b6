-- Answering a file block by block. Answers defines what a call answers and leaves, AnswerLaws has the laws of one call, and
-- Sessions the theorem over all calls. CaseBlind says that the case of a file's letters makes no difference. Pieces says what the
-- private steps of a call do.
pub mod Answers
pub mod Pieces
pub mod AnswerLaws
pub mod Sessions
pub mod CaseBlind
