-- Laws that the proofs of several functions cite.
pub mod CallLaws
pub mod Values
