-- The number of each refusal (Refusals). That no two have the same is in proofs/Numbers.
pub mod Refusals
