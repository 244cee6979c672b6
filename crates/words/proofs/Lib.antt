-- What the proofs of several functions use.
pub mod Sized
mod Powers
mod Back
mod Between
mod Judging
