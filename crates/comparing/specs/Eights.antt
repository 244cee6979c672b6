-- Eight letters at once: bytes as one number, and which letters may stand side by side. Definitions only; the theorems on them are in
-- EightLaws and FollowLaws.
use Rattle.std.specs.Prelude.{◌≡◌, Bool, true, false, ◌&&◌, [], ◌∷◌, ℕ, zero, suc, ◌+◌, ◌*◌, ◌^◌, ◌<◌, ltb, length, get_or}
use Rattle.chains.specs.Words.{Word}

-- Every letter is a byte, of any value.
abbrev pub Bytes : Word → Type 0
Bytes w = (i : ℕ) → get_or w i 0 < 256

-- Bytes as one number, the first highest.
unfoldable pub high_first : Word → ℕ
high_first [] = 0
high_first (x ∷ w) = x * 2 ^ (8 * length w) + high_first w

-- x is the number of eight letters u.
pub record EightOf (u : Word) (x : ℕ) : Type 0 where
  pub bytes : Bytes u
  pub long : length u ≡ 8
  pub number : x ≡ high_first u

-- Whether a letter x may stand after a letter q: 0, 1 and 3 after any, 2 not after 0 or 1, and nothing above 3.
unfoldable pub may_follow : ℕ → ℕ → Bool
may_follow q zero = true
may_follow q (suc zero) = true
may_follow q (suc (suc zero)) = ltb 1 q
may_follow q (suc (suc (suc zero))) = true
may_follow q (suc (suc (suc (suc x)))) = false

-- Whether each letter may stand after the one before it, the first after q.
unfoldable pub all_follow : ℕ → Word → Bool
all_follow q [] = true
all_follow q (x ∷ w) = may_follow q x && all_follow x w
