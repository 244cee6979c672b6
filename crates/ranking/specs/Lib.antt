-- What the services that find a chain or its position answer and leave behind.
--
-- What a reader must believe: Services. The theorems on it:
--   Outcomes    each service's outcome for 003's chains, and that it gives nothing else
--   RoundTrips  demand 2, for the services' own answers
--   Refusals    which refusal each service gives: 7, 8, 9, 10, 11
--   FewPositions  the positions of the numbers with one chain and with two
-- What the private functions cite:
--   Giving      what they tell and leave behind
pub mod Services
pub mod Outcomes
pub mod RoundTrips
pub mod Refusals
pub mod FewPositions
pub mod Giving
