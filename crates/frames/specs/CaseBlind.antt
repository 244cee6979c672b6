-- Small letters (document 02, T-01): the case of a line's letters makes no difference to its reply, and replies keep capitals.
--
-- In this order: the reply to a line (`case_blind`), and to two lines that differ only in the case of letters a to f
-- (`same_but_for_case`); a call of `reply`; the characters of a reply (`reply_written`). A line with another letter gets 2 or 3 by
-- its length, whichever case the letter has (`other_character` in Refusals). Whole files are in the crate stream, CaseBlind.
use Rattle.std.specs.Prelude.{Result, Ok, Err}
use Rattle.std.specs.Prelude.{◌≡◌, refl, Bool, true, false, List, ℕ}
use Rattle.std.proofs.Common.{sym, ap, ◌∙◌}
use Rattle.refusals.specs.declared.Refusal.{Refusal}
use Rattle.digits.specs.Digits.{is_written, every, capitals}
use Rattle.digits.proofs.CapitalLaws.{capitals_written}
use Rattle.lines.specs.declared.Kind.{Kind}
use Rattle.lines.specs.declared.Kind.TheVariants.{Count as count_line, Best as best_line, At as at_line, Record as record_line, Word as word_line, Next as next_line, Run as run_line}
use Rattle.lines.specs.declared.Kind.TheVariants.{Tree as tree_line, ToTree as to_tree_line}
use Rattle.lines.specs.Lines.{shape_of}
use Rattle.lines.proofs.CapitalLaws.{field_of_capitals, items_of_capitals, shape_of_capitals}
use Rattle.frames.specs.Replies.{digits_in, limits_in, prices_in, exponents_from, served, reply_by_shape, reply_to, reply_of, replied_of}
use Rattle.frames.specs.Replies.{answer_to, out_left}
use Rattle.frames.specs.ReplyLaws.{reply_frame}

-- ---- the reply to a line

-- What a line of each kind asks for.
served_of_capitals : (k : Kind) (line : List ℕ) → served k (capitals line) ≡ served k line
unfolding served limits_in prices_in exponents_from
served_of_capitals count_line line = simp (field_of_capitals line)
served_of_capitals best_line line = simp (field_of_capitals line)
served_of_capitals at_line line = simp (field_of_capitals line)
served_of_capitals record_line line = simp (items_of_capitals line, field_of_capitals line)
served_of_capitals word_line line = simp (items_of_capitals line)
served_of_capitals next_line line = simp (items_of_capitals line)
served_of_capitals run_line line = simp (items_of_capitals line, field_of_capitals line)
served_of_capitals tree_line line = simp (items_of_capitals line)
served_of_capitals to_tree_line line = simp (items_of_capitals line, field_of_capitals line)

-- A line and the same line with its small letters a to f as capitals get the same reply, and it has the same digits.
pub case_blind : (line : List ℕ) → reply_to (capitals line) ≡ reply_to line
unfolding reply_to reply_by_shape
case_blind line = rw (shape_of_capitals line) (go (shape_of line))
  where
    go : (s : Result Kind Refusal) → reply_by_shape s (capitals line) ≡ reply_by_shape s line
    go (Err r) = refl
    go (Ok k) = served_of_capitals k line

pub digits_case_blind : (line : List ℕ) → reply_of (capitals line) ≡ reply_of line
unfolding reply_of
digits_case_blind line = ap digits_in (case_blind line)

-- So do two lines that differ only in the case of letters a to f.
pub same_but_for_case : (a b : List ℕ) → capitals a ≡ capitals b → reply_to a ≡ reply_to b
same_but_for_case a b e = sym (case_blind a) ∙ ap reply_to e ∙ case_blind b

-- ---- a call of `reply`

-- By its contract the line decides the answer and what is left in the bytes for the reply. Both are the same for the line in
-- capitals. What is left in the scratch does not depend on the line (`scratch_left`).
pub answer_case_blind : (little : Bool) (line : List ℕ) → answer_to little (capitals line) ≡ answer_to little line
unfolding answer_to
answer_case_blind true line = refl
answer_case_blind false line = ap replied_of (case_blind line)

pub left_case_blind : (little : Bool) (line entry : List ℕ) → out_left little (capitals line) entry ≡ out_left little line entry
unfolding out_left
left_case_blind little line entry = rw (digits_case_blind line)

-- ---- the characters of a reply

-- 0 to 9 and A to F.
pub reply_written : (line : List ℕ) → every is_written (reply_of line) ≡ true
reply_written line = (reply_frame line).digits

-- So a reply is its own capitals.
pub reply_in_capitals : (line : List ℕ) → capitals (reply_of line) ≡ reply_of line
reply_in_capitals line = capitals_written (reply_of line) (reply_written line)
