-- Small letters in whole files (document 02, T-01): a file and the same file with its small letters a to f as capitals get the same
-- replies, however each of them is cut into blocks. For one line this is `case_blind` in the crate frames.
--
-- In this order: a file; the calls on a file, all together; one call on a block; one call at the end of a file.
use Rattle.std.specs.Prelude.{◌≡◌, ◌↔◌, Bool, ℕ, length, take}
use Rattle.std.proofs.Math.Path.{refl}
use Rattle.std.proofs.Common.{sym, ap, ◌∙◌, arith}
use Rattle.std.proofs.Math.Bool.{true, false}
use mathlib.Core.List.{List, [], ◌∷◌, map, flatten}
use Rattle.std.proofs.Math.ListN.{length-map}
use Rattle.digits.specs.Digits.{capital, capitals}
use Rattle.lines.specs.Stream.{finished, unfinished, last_line, lines_of, replies_to}
use Rattle.lines.proofs.CapitalLaws.{take_map, finished_capitals, unfinished_capitals, last_capitals, lines_of_capitals}
use Rattle.lines.proofs.CapitalLaws.{replies_of_capitals}
use Rattle.frames.specs.Replies.{reply_of}
use Rattle.frames.specs.CaseBlind.{digits_case_blind}
use Rattle.stream.specs.Answers.{behind_one, behind, replies_left, Goes, fed_of, ended_of}
use Rattle.stream.specs.Sessions.{Session, session_replies}

-- ---- a file

replies_same : (lines : List (List ℕ)) → replies_to reply_of (map capitals lines) ≡ replies_to reply_of lines
replies_same = replies_of_capitals reply_of digits_case_blind

-- A file and the same file in capitals get the same replies.
pub file_case_blind : (file : List ℕ) → replies_to reply_of (lines_of (capitals file)) ≡ replies_to reply_of (lines_of file)
file_case_blind file = rw (lines_of_capitals file) (replies_same (lines_of file))

-- So do two files that differ only in the case of letters a to f.
pub files_but_for_case : (a b : List ℕ) → capitals a ≡ capitals b
    → replies_to reply_of (lines_of a) ≡ replies_to reply_of (lines_of b)
files_but_for_case a b e =
    sym (file_case_blind a) ∙ ap (λ (f : List ℕ). replies_to reply_of (lines_of f)) e ∙ file_case_blind b

-- ---- the calls on a file, all together

-- The calls on two such files write the same, whichever blocks each of the files came in.
pub session_case_blind : {pieces pieces' : List (List ℕ)} {written written' : List ℕ} → Session [] pieces written
    → Session [] pieces' written' → capitals (flatten pieces) ≡ capitals (flatten pieces') → written ≡ written'
session_case_blind {pieces} {pieces'} {written} {written'} s t e =
    session_replies pieces written s
    ∙ files_but_for_case (flatten pieces) (flatten pieces') e
    ∙ sym (session_replies pieces' written' t)

-- ---- one call on a block

-- The places behind the replies, then the replies with these places.
behind_same : (lines : List (List ℕ)) (entry : List ℕ) → behind (map capitals lines) entry ≡ behind lines entry
unfolding behind
behind_same [] entry = refl
behind_same (line ∷ ls) entry =
    ap (λ (reply : List ℕ). behind (map capitals ls) (behind_one reply entry)) (digits_case_blind line)
    ∙ behind_same ls (behind_one (reply_of line) entry)

left_same : (b : Bool) (lines : List (List ℕ)) (out : List ℕ) → replies_left b (map capitals lines) out ≡ replies_left b lines out
unfolding replies_left
left_same b lines out = rw (replies_same lines, behind_same lines out)

-- One call on a block, and one on the block in capitals, that go equally far: up to `used`. `line` was kept before, in capitals for
-- the second call. b says whether too little is lent.
module _ (line block : List ℕ) (used : ℕ) where
  finished_same : finished (capitals line) (take used (capitals block)) ≡ map capitals (finished line (take used block))
  finished_same = rw (take_map capital used block) (finished_capitals line (take used block))

  written_same : replies_to reply_of (finished (capitals line) (take used (capitals block)))
      ≡ replies_to reply_of (finished line (take used block))
  written_same = rw finished_same (replies_same (finished line (take used block)))

  -- What they keep of a line that does not end differs only in case.
  pub kept_capitals : take 515 (unfinished (capitals line) (take used (capitals block)))
      ≡ capitals (take 515 (unfinished line (take used block)))
  kept_capitals =
      rw (take_map capital used block, unfinished_capitals line (take used block))
      (take_map capital 515 (unfinished line (take used block)))

  -- They answer the same, and write the same.
  pub fed_case_blind : (b : Bool) → fed_of b (capitals line) (capitals block) used ≡ fed_of b line block used
  unfolding fed_of
  fed_case_blind true = refl
  fed_case_blind false =
      rw (kept_capitals, length-map (take 515 (unfinished line (take used block))) capital, written_same)

  pub out_case_blind : (b : Bool) (out : List ℕ)
      → replies_left b (finished (capitals line) (take used (capitals block))) out
      ≡ replies_left b (finished line (take used block)) out
  out_case_blind b out = rw finished_same (left_same b (finished line (take used block)) out)

  -- One may go so far exactly if the other may.
  pub goes_case_blind : (out : List ℕ) → Goes (capitals line) (capitals block) out used ↔ Goes line block out used
  goes_case_blind out =
      let long = length-map block capital in
      let written = ap length written_same in (
        λ g. record { within = omega (arith, long, g.within); stops = λ h. omega (arith, written, g.stops (omega arith)) },
        λ g. record { within = omega (arith, long, g.within); stops = λ h. omega (arith, written, g.stops (omega arith)) },
      )

-- ---- one call at the end of a file

module _ (line : List ℕ) where
  pub ended_case_blind : (b : Bool) → ended_of b (capitals line) ≡ ended_of b line
  unfolding ended_of
  ended_case_blind true = refl
  ended_case_blind false = rw (last_capitals line, replies_same (last_line line))

  pub last_case_blind : (b : Bool) (out : List ℕ) → replies_left b (last_line (capitals line)) out ≡ replies_left b (last_line line) out
  last_case_blind b out = rw (last_capitals line) (left_same b (last_line line) out)
