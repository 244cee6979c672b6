-- A generator by shifts (xorshift), and the digests that the test programs print.
use Rattle.std.specs.Prelude.{ℕ, ◌+◌, ◌*◌, ◌/◌, ◌%◌, ◌^◌, bit_xor}

-- x combined with itself moved up by `by` bits, and moved down.
abbrev pub up : ℕ → ℕ → ℕ
up by x = bit_xor x (x * 2 ^ by % 2 ^ 64)

abbrev pub down : ℕ → ℕ → ℕ
down by x = bit_xor x (x / 2 ^ by)

-- The number after x.
abbrev pub after : ℕ → ℕ
after x = up 17 (down 7 (up 13 x))

-- A digest with one number more.
abbrev pub digest_with : ℕ → ℕ → ℕ
digest_with digest x = after ((digest + (x + 1) % 2 ^ 64) % 2 ^ 64)
