-- From a part number to its part by arithmetic. The octave l has the parts from 2^l up to below 2^(l+1): for each b from 0 up to
-- some bound one, 2^a × 3^b with a = l - 1623 b / 1024.
-- Definitions only: what the functions of src/octaves.rt answer. The laws are in OctaveLaws. `exponents_at` in Parts does not rest
-- on them.
use Rattle.std.specs.Prelude.{cond, ◌≡◌, ℕ, zero, suc, ◌+◌, ◌-◌, ◌*◌, ◌/◌, ◌≤◌, ◌<◌, ltb, leb}

-- ---- the octave of a number

-- How many parts are below 2^l.
unfoldable pub parts_below : ℕ → ℕ
parts_below l = (l * (323 * l + 832) + 400) / 1024

-- The later octave where it starts at number i or before it, else l.
unfoldable pub later_of : ℕ → ℕ → ℕ → ℕ
later_of i later l = cond (leb (parts_below later) i) later l

-- Of k octaves from `next` on, each `step` after the one before, the last that starts at number i or before it; l if none does.
unfoldable pub last_of : ℕ → ℕ → ℕ → ℕ → ℕ → ℕ
last_of zero step i next l = l
last_of (suc k) step i next l = last_of k step i (next + step) (later_of i next l)

unfoldable pub last_from : ℕ → ℕ → ℕ → ℕ
last_from first step i = last_of 7 step i (first + step) first

-- The octave of number i: every eighth is tried, then the seven after the one found.
unfoldable pub octave_at : ℕ → ℕ
octave_at i = last_from (last_from 0 8 i) 1 i

-- The octave l is that of number i, and has at most 41 parts.
pub record InOctave (i l : ℕ) : Type 0 where
  pub octave : l ≡ octave_at i
  pub low : l < 64
  pub from : parts_below l ≤ i
  pub to : i < parts_below (l + 1)
  pub most : parts_below (l + 1) - parts_below l ≤ 41

-- ---- the place in an octave

-- The group of r: r, r + 12, r + 24 and so on. As 3^12 is a little more than 2^19, these are neighbours in the order of the parts.
-- The groups come in the order 0, 7, 2, 9 and so on: always 7 on, modulo 12.
unfoldable pub next_group : ℕ → ℕ
next_group r = cond (ltb r 5) (r + 7) (r - 5)

-- The exponent of 3 at place j, if j is in the group of r, that starts at place `start`, or after it; else b.
unfoldable pub in_group : ℕ → ℕ → ℕ → ℕ → ℕ
in_group j r start b = cond (leb start j) (r + 12 * (j - start)) b

-- The same for k groups, from that of r on, where the exponents of 3 go up to `most`.
unfoldable pub in_groups : ℕ → ℕ → ℕ → ℕ → ℕ → ℕ → ℕ
in_groups zero most j r start b = b
in_groups (suc k) most j r start b = in_groups k most j (next_group r) (start + (most + 12 - r) / 12) (in_group j r start b)

-- The exponent of 3 at place j of an octave.
unfoldable pub triplings_at : ℕ → ℕ → ℕ
triplings_at most j = in_groups 12 most j 0 0 0
