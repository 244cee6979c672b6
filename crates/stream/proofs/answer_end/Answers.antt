-- `answer_end` answers what is kept as one line, and clears the scratch where there is none.
use mathlib.Core.Path.{◌≡◌, refl, sym, ◌∙◌}
use mathlib.Core.Bool.{Bool, false}
use mathlib.Core.List.{List, [], ◌∷◌}
use Prim.Native.Nat.{ℕ, ◌-◌, ◌≤◌, ◌<◌}
use native.Mathlib.Nat.{sub-zero}
use native.Mathlib.Omega.{arith}
use lib.ListN.{length, take}
use lib.Seq.{length-take-le}
use Rattle.lent.specs.LentLaws.{served_zeroed}
use Rattle.lent.specs.Lent.{filled, scratch_size, little_scratch, scratch_left, memory_left}
use Rattle.lines.specs.Stream.{last_line}
use Rattle.frames.specs.Replies.{reply_of}
use Rattle.stream.specs.Answers.{replies_left, ended_of}
use Rattle.std.specs.Prelude.{Result, Ok}
use Rattle.refusals.specs.declared.Refusal.{Refusal}
use Rattle.stream.specs.AnswerLaws.{lent_enough}
use Rattle.stream.specs.Pieces.{Adds, Wrote}
use Rattle.stream.proofs.Turns.{none_written, wrote_more}
use Rattle.stream.proofs.answer_end.Goals as goal

line_there : (line : List ℕ) → 0 < length line → last_line line ≡ line ∷ []
unfolding last_line
line_there [] h = absurd (omega arith)
line_there (c ∷ line) h = refl

-- What the contract says, of a call that answers r.
abbrev Contract : Bool → List ℕ → List ℕ → List ℕ → List ℕ → List ℕ → Result ℕ Refusal → Type 0
Contract b line scratch scratch_exit out out_exit r =
    (r ≡ ended_of b line) × ((out_exit ≡ replies_left b (last_line line) out) × (scratch_exit ≡ scratch_left b scratch))

module _ (b : Bool) (kept : List ℕ) (k : ℕ) (scratch out : List ℕ) (enough : b ≡ false) where
  written : (scratch_exit out_exit : List ℕ) (n : ℕ) → Wrote (last_line (take k kept)) out out_exit n
      → scratch_exit ≡ filled scratch_size [] scratch → Contract b (take k kept) scratch scratch_exit out out_exit (Ok n)
  unfolding ended_of replies_left memory_left
  written scratch_exit out_exit n w z = rw (enough, w.count) (refl, (w.replies, z))

  no_line : (scratch_exit : List ℕ) → scratch_size ≤ length scratch → k ≡ 0 → scratch_exit ≡ scratch_left (little_scratch scratch) scratch
      → Contract b (take k kept) scratch scratch_exit out out (Ok 0)
  unfolding last_line
  no_line scratch_exit room h z =
      let w : Wrote (last_line (take k kept)) out out 0 = rw h (none_written out) in
      written scratch_exit out 0 w (z ∙ served_zeroed scratch room)

  one_line : (scratch_exit out_exit : List ℕ) (n : ℕ) → k ≤ length kept → (k ≡ 0 → ⊥)
      → Adds (reply_of (take (k - 0) kept)) 0 out out_exit n
      → scratch_exit ≡ filled scratch_size [] scratch → Contract b (take k kept) scratch scratch_exit out out_exit (Ok n)
  one_line scratch_exit out_exit n room h a z =
      let l : 0 < length (take k kept) = omega (arith, length-take-le k kept room) in
      let w : Wrote (last_line (take k kept)) out out_exit n =
      rw (line_there (take k kept) l) (wrote_more [] (take k kept) out out out_exit 0 n (none_written out) (rw sub-zero at a))
      in
      written scratch_exit out_exit n w z

pub returns-then-k-eq0 : goal.returns-then-k-eq0
returns-then-k-eq0 c =
    let n = sym c.is_little.ensures ∙ c.if-is_little.false in
    let told = no_line _ _ _ _ _ n _ (lent_enough _ _ _ _ n).memory.numbers c.if-k-eq0.true c.clear_scratch.ensures in
    record { answer = told.0; out = told.1.0; scratch = told.1.1 }

pub returns : goal.returns
returns c =
    let n = sym c.is_little.ensures ∙ c.if-is_little.false in
    let e = lent_enough _ _ _ _ n in
    let told = one_line _ _ _ _ _ n _ _ _ (omega arith) c.if-k-eq0.false c.answer_line.ensures.adds c.answer_line.ensures.scratch_after in
    record { answer = told.0; out = told.1.0; scratch = told.1.1 }
