-- The remainders by three of a row's rests, all at once. A mask is a number of 64 bits. Its bit a tells of the rest of column a,
-- which is m / 2^a where m is the rest of the row's first column; the third of that rest is q / 2^a, where q = m / 3 is the rest of
-- the first column of the row above.
-- Definitions only. What the bits of the masks are is in MaskLaws.
use Rattle.std.specs.Prelude.{ℕ, ◌-◌, ◌^◌, ◌/◌}
use Rattle.std.specs.Int.Bits.{bit_xor, bit_or}

-- Bit a is 1 where the remainder is 1: the rest is three times its third and the remainder, so the last bits of rest and third
-- differ where the remainder is odd.
abbrev pub ones_of : ℕ → ℕ → ℕ
ones_of m q = bit_xor m q

-- Bit a is 1 where the remainder is not 0: the rest is twice the rest right of it and bit a of m, so where the remainder is not 1,
-- it is 2 if bit a + 1 of the ones and bit a of m differ, and 0 if they are the same.
abbrev pub nonzeros_of : ℕ → ℕ → ℕ
nonzeros_of m q = bit_or (ones_of m q) (bit_xor (ones_of m q / 2) m)

-- Bit a is 1 where the remainder is 0.
abbrev pub zeros_of : ℕ → ℕ → ℕ
zeros_of m q = 2 ^ 64 - 1 - nonzeros_of m q

-- Bit a is 1 where the remainder is 2: it is neither 0 nor 1.
abbrev pub twos_of : ℕ → ℕ → ℕ
twos_of m q = bit_xor (nonzeros_of m q) (ones_of m q)
