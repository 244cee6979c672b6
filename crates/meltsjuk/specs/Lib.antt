-- The services for C and Rust: the number that each function answers, and what it puts where the caller asks (Answers); what its
-- number says (AnswerLaws).
pub mod Answers
pub mod AnswerLaws
