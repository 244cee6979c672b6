-- The bench. What a reader must believe, in this order: Sound (what a bench holds in its lent numbers), Benches (what each service
-- answers and leaves). The theorems on them, in proofs/:
--   Promises     a call on a sound bench, said of its present chain in 003's words
--   Sequences    any calls one after the other: the bench holds chains of its n, and saving and coming back lead back
-- On the way: Judging (whether a bench is sound), and in proofs/ Kept (what stays where one state changes) and BenchLaws (what a
-- service answers and leaves, as its code finds it out).
-- What the private functions cite, all but Planning and Telling in proofs/:
--   Planning, PlanLoops, MovedRows  moves of rows
--   ChainTest, StateLaws  whether a state is a chain, copying states
--   Opening               opening a bench
--   Telling, TellingLaws  a chain's part numbers from its rows
pub mod Sound
pub mod Judging
pub mod Benches
pub mod Planning
pub mod Telling
