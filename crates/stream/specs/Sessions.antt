-- All calls on a file together: however the file is cut into blocks, and however much of a block each call uses, what the calls
-- write is one reply for each line of the file, in order.
--
-- In this order: the calls on a file; the theorem; what is written, line by line.
use Rattle.std.specs.Prelude.{◌≡◌, Ok, refl, ℕ, zero, suc, ◌<◌, length, take, get_or}
use Rattle.std.proofs.Common.{ap, ◌∙◌, arith}
use mathlib.Core.List.{List, [], ◌∷◌, ◌++◌, flatten, map}
use Rattle.std.proofs.lemmas.List.{length-map}
use Rattle.lines.specs.Stream.{finished, unfinished, last_line, lines_of, replies_to, answers_to}
use Rattle.lines.proofs.StreamLaws.{replies_lines, answers_lines}
use Rattle.frames.specs.Replies.{reply_of}
use Rattle.frames.specs.ReplyLaws.{first_515, reply_unbroken}
use Rattle.stream.specs.Answers.{little, replies_left, fed_of, kept_left, ended_of}
use Rattle.stream.specs.AnswerLaws.{what_wrote, served, what_kept, end_served}

-- ---- the calls on a file

-- The line that was kept before; what each call uses of its block; what all of them write. Each call is served, and the equations
-- are those of its contract. A call on a block hands what it keeps to the next one; the last call is at the end of the file.
pub data Session : List ℕ → List (List ℕ) → List ℕ → Type 0 where
  end_call : (kept : List ℕ) (k : ℕ) (scratch out out_exit : List ℕ) (n : ℕ)
      → Ok n ≡ ended_of (little kept k scratch out) (take k kept)
      → out_exit ≡ replies_left (little kept k scratch out) (last_line (take k kept)) out
      → Session (take k kept) [] (take n out_exit)
  block_call : (block kept : List ℕ) (k : ℕ) (scratch out kept_exit out_exit : List ℕ) (used left n : ℕ)
      (pieces : List (List ℕ)) (written : List ℕ)
      → Ok (record { used = used; kept = left; written = n }) ≡ fed_of (little kept k scratch out) (take k kept) block used
      → kept_exit ≡ kept_left (little kept k scratch out) (unfinished (take k kept) (take used block)) kept
      → out_exit ≡ replies_left (little kept k scratch out) (finished (take k kept) (take used block)) out
      → Session (take left kept_exit) pieces written
      → Session (take k kept) (take used block ∷ pieces) (take n out_exit ++ written)

session_answers : {line : List ℕ} {pieces : List (List ℕ)} {written : List ℕ} → Session line pieces written
    → written ≡ answers_to reply_of 515 line pieces
unfolding answers_to
session_answers (end_call kept k scratch out out_exit n e o) =
    what_wrote _ out out_exit n (end_served _ (take k kept) out out_exit n e o)
session_answers (block_call block kept k scratch out kept_exit out_exit used left n pieces written e l o s) =
    let c = served _ (take k kept) block kept kept_exit out out_exit used left n e l o in
    rw (
      what_wrote _ out out_exit n c.wrote,
      ← what_kept (take k kept) block kept kept_exit out out_exit used left n c,
      ← session_answers s,
    )

-- ---- the theorem

-- From the start of a file, which the pieces make: the replies to its lines.
pub session_replies : (pieces : List (List ℕ)) (written : List ℕ) → Session [] pieces written
    → written ≡ replies_to reply_of (lines_of (flatten pieces))
session_replies pieces written s = session_answers s ∙ answers_lines reply_of 515 (omega arith) first_515 pieces

-- ---- what is written, line by line

get_d_map : {A B : Type 0} (f : A → B) (l : List A) (i : ℕ) (a : A) (b : B) → i < length l → get_or (map f l) i b ≡ f (get_or l i a)
get_d_map f [] i a b h = absurd (omega arith)
get_d_map f (x ∷ l) zero a b h = refl
get_d_map f (x ∷ l) (suc i) a b h = get_d_map f l i a b (omega arith)

module _ (pieces : List (List ℕ)) (written : List ℕ) (s : Session [] pieces written) where
  -- Taken apart into lines, what is written is the reply to each line of the file, in order.
  pub line_by_line : lines_of written ≡ map reply_of (lines_of (flatten pieces))
  line_by_line = rw (session_replies pieces written s) (replies_lines reply_of reply_unbroken (lines_of (flatten pieces)))

  -- There are as many lines of replies as lines of the file.
  pub as_many_lines : length (lines_of written) ≡ length (lines_of (flatten pieces))
  as_many_lines = ap length line_by_line ∙ length-map (lines_of (flatten pieces)) reply_of

  -- The i-th line of replies is the reply to the i-th line of the file.
  pub reply_at : (i : ℕ) → i < length (lines_of (flatten pieces))
      → get_or (lines_of written) i [] ≡ reply_of (get_or (lines_of (flatten pieces)) i [])
  reply_at i h = rw line_by_line (get_d_map reply_of (lines_of (flatten pieces)) i [] [] h)
