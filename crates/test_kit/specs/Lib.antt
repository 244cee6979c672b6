-- The generator's numbers, and the digests that are made with them (Random); what answers are printed as (Printed); runs (Runs).
pub mod Random
pub mod Printed
pub mod Runs
