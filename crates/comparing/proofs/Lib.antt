-- What the proofs of several functions use.
mod FirstLetters
mod EightAt
mod EightBits
