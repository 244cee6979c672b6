-- What the private steps of an answer do: finding the end of a line, keeping a line's first characters, adding one reply, and the
-- replies written so far. Definitions only.
use Rattle.std.specs.Prelude.{◌≡◌, Option, Some, None, Result, Ok, Err, true, List, ◌∷◌, ◌++◌, ℕ, ◌+◌, ◌-◌, ◌≤◌, ◌<◌, length, take, drop, get_or}
use Rattle.lent.specs.Lent.{OnlyFirst}
use Rattle.lines.specs.Stream.{unbroken, replies_to}
use Rattle.frames.specs.Replies.{reply_of}
use Rattle.refusals.specs.declared.Refusal.{Refusal}
use Rattle.stream.specs.Answers.{behind_one, behind}

-- The characters of a block from an index up to another.
abbrev pub piece : ℕ → ℕ → List ℕ → List ℕ
piece from to block = take (to - from) (drop from block)

-- `end` is the index of the first byte 10 from `from` on, or the block's length.
pub record LineEnd (block : List ℕ) (from end : ℕ) : Type 0 where
  pub after : from ≤ end
  pub within : end ≤ length block
  pub unbroken_before : unbroken (piece from end block) ≡ true
  pub ended : end < length block → get_or block end 0 ≡ 10

-- The same of an index that there is; where there is none, no byte 10 is left.
abbrev pub NextEnd : List ℕ → ℕ → Option ℕ → Type 0
NextEnd block from None = unbroken (drop from block) ≡ true
NextEnd block from (Some end) = LineEnd block from end × (end < length block)

-- The first n of `exit` are the first 515 characters of a line; from 515 on nothing changed.
pub record Keeps (line entry exit : List ℕ) (n : ℕ) : Type 0 where
  pub first : take n exit ≡ take 515 line
  pub count : n ≡ length (take 515 line)
  pub most : n ≤ 515
  pub rest : OnlyFirst 515 entry exit

-- A reply and its byte 10 stand at `at`, and end before n.
pub record Adds (reply : List ℕ) (at : ℕ) (entry exit : List ℕ) (n : ℕ) : Type 0 where
  pub list : exit ≡ take at entry ++ (reply ++ (10 ∷ behind_one reply (drop at entry)))
  pub end : n ≡ at + (length reply + 1)
  pub same : length exit ≡ length entry

-- At exit `out` holds the replies to lines, each with its byte 10; n tells how many bytes these are.
pub record Wrote (lines : List (List ℕ)) (entry exit : List ℕ) (n : ℕ) : Type 0 where
  pub replies : exit ≡ replies_to reply_of lines ++ behind lines entry
  pub count : n ≡ length (replies_to reply_of lines)

-- How many digits an answer tells: a refusal's number has two.
unfoldable pub digits_told : Result ℕ Refusal → ℕ
digits_told (Ok n) = n
digits_told (Err r) = 2
