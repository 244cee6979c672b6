-- Running a chain on residues: document 02, T-02. What a reader must believe, in this order: Run (the run of a chain), Ran (what
-- the service answers). The theorems on them, in proofs/:
--   RunLaws  the run of every chain of n is n × x modulo m
--   RanLaws  when the service tells a residue, and which refusal it gives when
pub mod Run
pub mod Ran
