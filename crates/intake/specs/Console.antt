-- What the program keeps of an unfinished line from one call to the next, and what it writes. No contract says which bytes a read
-- brings; these say what is kept after any bytes, given how many they are.
-- Definitions only. The laws are in ConsoleLaws.
use Rattle.std.specs.Prelude.{◌≡◌, List, ℕ, ◌≤◌, length, take, min, Result, Ok, Err}
use Rattle.lent.specs.Lent.{filled}
use Rattle.lines.specs.Stream.{replies_to}
use Rattle.frames.specs.Replies.{reply_of}
use Rattle.stream.specs.Answers.{Lending}

-- The first k places of `kept` are all that it holds: behind them are zeros up to 515.
abbrev pub Alone : List ℕ → ℕ → Type 0
Alone kept k = kept ≡ filled 515 (take k kept) kept

-- What each step asks for: enough is lent, and all that is kept is told, so that a caller who forgets some of it is refused.
pub record Ready (kept : List ℕ) (k : ℕ) (scratch out : List ℕ) : Type 0 where
  pub enough : Lending kept k scratch out
  pub alone : Alone kept k

-- `kept` holds the first 515 characters of a line, and k tells how many these are.
pub record Holds (line kept : List ℕ) (k : ℕ) : Type 0 where
  pub first : take k kept ≡ take 515 line
  pub count : k ≡ length (take 515 line)
  pub most : k ≤ 515
  pub alone : Alone kept k

-- What is handed to the write call: replies to some lines, each with its byte 10, and nothing else.
pub record Replies (bytes : List ℕ) : Type 0 where
  pub lines : List (List ℕ)
  pub list : bytes ≡ replies_to reply_of lines

-- These bytes stand first in `out`.
abbrev pub Begins : List ℕ → List ℕ → Type 0
Begins bytes out = take (length bytes) out ≡ bytes

-- How many bytes a read brought, given what the read call answered: none where it failed, and never more than the block has.
abbrev pub brought : {E : Type 0} → Result ℕ E → ℕ → ℕ
brought (Ok n) most = min n most
brought (Err e) most = 0

-- The first bytes of the block, as many as the read call answered that it brought; none where it failed.
abbrev pub came : {E : Type 0} → Result ℕ E → List ℕ → List ℕ
came got block = take (brought got (length block)) block
