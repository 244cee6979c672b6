-- The laws that the proofs of this crate share.
pub mod Fields
pub mod LineLaws
pub mod StreamLaws
pub mod CapitalLaws
