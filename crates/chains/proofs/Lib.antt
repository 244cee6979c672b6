-- The theory of chains, words and the list of n; the definitions are in specs/.
--   Steps      the step law of the list, and induction from the half and the third
--   Weight     the number that a word stands for
--   Marks      what a letter does by arithmetic, and how many parts a word marks
--   Readers    the two readers take exactly the good words
--   Order      the dictionary order
--   Members    what the list of n holds, and that it ascends
--   Divides    a proper multiple by value is one by exponents
--   RoundTrip  chains and good words lead to each other and back
--   Listed     the list of n in terms of chains
--   Positions  the word at a position, a word's position, and the walks that find them
--   PositionsOfChains  the same of chains
--   Rest       the rest at a point is the floor of n by the point's value
--   Bounds     how many letters and parts a number below 2^k allows
--   BestLaws   the best chain and the cheapest as functions are the first of all chains: demand 3
--   PriceLaws  the additions of a chain, and how high its price can be
--   OnePrice   where s2 and s3 are the same, the price is the one of document 01
--   Counts     the six relations of the count, and its bounds
--   FewLaws    the numbers named for one chain and for two are exactly those whose count is 1 and 2
--   FewLists   their only chain, their only two, and positions
--   FewNumbers how many of them are below 2^64
--   Leasts     the first of the words of least key in a list
--   Carried    the words that pass such a test, and the best of them, from those of the half and the third
--   Bests      the same for the limits on a and b
--   PartLimit  the same for the limit on parts; the count of chains with at most K parts
--   BestOfAll  the chain of the best word, by two measures packed into a key, is the best or the cheapest chain
--   Checked    the checked numbers of document 01
pub mod Steps
pub mod Weight
pub mod Marks
pub mod Readers
pub mod Order
pub mod Members
pub mod Divides
pub mod RoundTrip
pub mod Listed
pub mod Positions
pub mod PositionsOfChains
pub mod Rest
pub mod Bounds
pub mod BestLaws
pub mod PriceLaws
pub mod OnePrice
pub mod Counts
pub mod FewLaws
pub mod FewLists
pub mod FewNumbers
pub mod Leasts
pub mod Carried
pub mod Bests
pub mod PartLimit
pub mod BestOfAll
pub mod Checked
