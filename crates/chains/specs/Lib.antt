-- Strictly chained (2,3)-ary partitions as source document 003 defines them, and their theory.
--
-- What a reader must believe, in this order: Chains (parts, chains), Words (path words), Listing (the list of n, positions),
-- Best (price, limits, the best chain and the cheapest). Definitions for the theory:
--   Divides    a point further up the grid
--   Neighbours the additions of a chain, part by part
--   OnePrice   the price of document 01
--   Few        the numbers named for one chain and for two
--   Keys       costs of letters, tests that a walk carries along, the best word
-- The theory is in proofs/.
pub mod Chains
pub mod Words
pub mod Listing
pub mod Best
pub mod Divides
pub mod Neighbours
pub mod OnePrice
pub mod Few
pub mod Keys
