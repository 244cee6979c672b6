-- The calls that serve a line: what they ask for and what they leave.
--
-- In this order: the reply and the scratch; a chain that a service found; the items of a line.
-- Definitions only. How the answers of the services lead to the reply is in proofs/CallLaws.
use Rattle.std.specs.Prelude.{Result, Ok, Err}
use Rattle.std.specs.Prelude.{◌≡◌, List, [], ℕ, take}
use Rattle.lent.specs.Lent.{filled, scratch_size}
use Rattle.refusals.specs.declared.Refusal.{Refusal}
use Rattle.ranking.specs.declared.Found.{Found}
use Rattle.lines.specs.declared.Kind.{Kind}
use Rattle.lines.specs.Lines.{shape_of}
use Rattle.frames.specs.ReplyDigits.{chain_digits}
use Rattle.frames.specs.Replies.{Reply, refused_as, served_with, digits_in, replied_of}

-- ---- the reply and the scratch

-- The answer r tells of the reply x, and its digits stand in the bytes for the reply.
pub record Told (x : Reply) (r : Result ℕ Refusal) (out out' : List ℕ) : Type 0 where
  pub answer : r ≡ replied_of x
  pub digits : out' ≡ filled 514 (digits_in x) out

-- A line is replied to with x, and the scratch zeroed.
pub record Handled (x : Reply) (r : Result ℕ Refusal) (scratch scratch' out out' : List ℕ) : Type 0 where
  pub told : Told x r out out'
  pub zeroed : scratch' ≡ filled scratch_size [] scratch

-- The line is fit, of a kind.
abbrev pub FitAs : Kind → List ℕ → Type 0
FitAs kind line = shape_of line ≡ Ok kind

-- ---- a chain that a service found

-- How many parts an answer tells of.
unfoldable pub parts_in : Result Found Refusal → ℕ
parts_in (Ok found) = found.k
parts_in (Err r) = 0

-- The reply for an answer, where the part numbers stand in the places.
unfoldable pub found_reply : Result Found Refusal → List ℕ → Reply
found_reply (Ok found) places = served_with (chain_digits found.n found.position (take found.k places))
found_reply (Err r) places = refused_as r

-- ---- the items of a line

-- The items that were read, and none where they were not.
unfoldable pub read_only : Result (List ℕ) Refusal → List ℕ
read_only (Err r) = []
read_only (Ok xs) = xs
