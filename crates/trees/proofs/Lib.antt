-- Laws that the proofs of several functions cite.
mod PathLaws
mod Remainders
pub mod Letters
pub mod Owed
pub mod BackLaws
pub mod WalkedPaths
pub mod TreeLaws
pub mod Checked
pub mod AnswerLaws
