-- What a call on a block of a file, and one at the end of a file, answers and leaves: document 01, 'Frames'. The lines of a file
-- and the replies to them are defined in the crate lines (Stream), the reply to one line in the crate frames (Replies).
--
-- In this order: whether too little is lent; the replies in `out`; a block; the end of a file.
-- Definitions only. The laws of one call are in AnswerLaws; what all calls write together is in Sessions.
use Rattle.std.specs.Prelude.{Result, Ok, Err, Bool, true, false, cond, ◌||◌, List, [], ◌∷◌, ◌++◌, ℕ, ◌+◌, ◌≤◌, ◌<◌, ltb, length, take, drop}
use Rattle.lent.specs.Lent.{filled, too_little, Enough}
use Rattle.lines.specs.Stream.{finished, unfinished, last_line, replies_to}
use Rattle.frames.specs.Replies.{reply_of}
use Rattle.refusals.specs.declared.Refusal.{Refusal}
use Rattle.refusals.specs.declared.Refusal.TheVariants.{LittleLent}
use Rattle.stream.specs.declared.Progress.{Progress}

-- ---- what must be lent

-- Too little is lent to a call: the scratch is too small, `out` has fewer than the 515 places that a reply and its byte 10 take,
-- `kept` has fewer than 515, or k, the number of characters that were kept of a line, is above 515.
unfoldable pub little : List ℕ → ℕ → List ℕ → List ℕ → Bool
little kept k scratch out = too_little 515 scratch out || (ltb (length kept) 515 || ltb 515 k)

-- Enough is lent to a call: `little` decides it.
pub record Lending (kept : List ℕ) (k : ℕ) (scratch out : List ℕ) : Type 0 where
  pub kept_lent : 515 ≤ length kept
  pub line_kept : k ≤ 515
  pub memory : Enough 515 scratch out

-- ---- the replies in `out`

-- What stands behind a reply and its byte 10, where `entry` stood: a reply is written over 514 places, its digits and then zeros.
unfoldable pub behind_one : List ℕ → List ℕ → List ℕ
behind_one reply entry = drop (length reply + 1) (filled 514 reply entry)

-- The same behind the replies to lines, written one after the other.
unfoldable pub behind : List (List ℕ) → List ℕ → List ℕ
behind [] entry = entry
behind (line ∷ ls) entry = behind ls (behind_one (reply_of line) entry)

-- `out` at exit: untouched where too little is lent, else the replies to lines, each with its byte 10, and what that leaves behind
-- them.
unfoldable pub replies_left : Bool → List (List ℕ) → List ℕ → List ℕ
replies_left little lines entry = cond little entry (replies_to reply_of lines ++ behind lines entry)

-- ---- a block

-- `line` was read before the block. How far a call goes in the block is left to it, and told as `used`. This is a law and no
-- equation: it stops before the end of the block only where `out` has no room for another reply. All else that the call answers and
-- leaves is an equation in `used`.
pub record Goes (line block out : List ℕ) (used : ℕ) : Type 0 where
  pub within : used ≤ length block
  pub stops : used < length block → length out < length (replies_to reply_of (finished line (take used block))) + 515

-- How much of the block is used, by the answer: nothing where the call is refused.
unfoldable pub used_of : Result Progress Refusal → ℕ
used_of (Ok gone) = gone.used
used_of (Err r) = 0

-- The answer: `used`, how many characters are kept of the line that does not end, and how many bytes of replies are written; or
-- refusal 1.
unfoldable pub fed_of : Bool → List ℕ → List ℕ → ℕ → Result Progress Refusal
fed_of true line block used = Err LittleLent
fed_of false line block used =
    Ok (record {
      used = used;
      kept = length (take 515 (unfinished line (take used block)));
      written = length (replies_to reply_of (finished line (take used block)));
    })

-- `kept` at exit: untouched where too little is lent, else the first 515 characters of the line that does not end, then zeros up to
-- 515, and later places untouched.
unfoldable pub kept_left : Bool → List ℕ → List ℕ → List ℕ
kept_left little line entry = cond little entry (filled 515 (take 515 line) entry)

-- What a caller's loop rests on: a call uses some of a block that is not empty, and the numbers that it tells are within bounds.
pub record Moves (block out_exit : List ℕ) (used left n : ℕ) : Type 0 where
  pub within : used ≤ length block
  pub some : 0 < length block → 0 < used
  pub most_kept : left ≤ 515
  pub fits : n ≤ length out_exit

-- ---- the end of a file

-- The answer: `line` was read before the end and is the last line, unless it is empty. How many bytes are written; or refusal 1.
unfoldable pub ended_of : Bool → List ℕ → Result ℕ Refusal
ended_of true line = Err LittleLent
ended_of false line = Ok (length (replies_to reply_of (last_line line)))
