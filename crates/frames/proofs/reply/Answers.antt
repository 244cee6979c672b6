-- `reply` refuses with 1 where too little is lent. Else it replies by the line's shape.
use Rattle.std.proofs.Common.{Result}
use Rattle.std.proofs.Common.{Err}
use mathlib.Core.Path.{◌≡◌, refl, sym}
use mathlib.Core.Bool.{true}
use mathlib.Core.List.{List, ◌++◌}
use Prim.Native.Nat.{ℕ, ◌≤◌}
use native.Mathlib.Omega.{arith}
use Rattle.std.proofs.Common.{length, length-take, take, drop, append-nil, append_assoc, drop_of_length-le}
use Rattle.lent.specs.Lent.{scratch_left, too_little, scratch_size, memory_left, filled}
use Rattle.lent.specs.LentLaws.{little_scratch_lem, little_places, enough}
use Rattle.refusals.specs.declared.Refusal.TheVariants.{LittleLent}
use Rattle.refusals.specs.declared.Refusal.{Refusal}
use Rattle.lines.specs.Lines.{shape_of}
use Rattle.frames.specs.Replies.{refused_as, reply_by_shape, reply_to, reply_of, replied_of, answer_to, out_left}
use Rattle.frames.specs.Calls.{Handled}
use Rattle.frames.proofs.reply.Goals as goal

module _ (line s out : List ℕ) where
  refused_1 : too_little 514 s out ≡ true
      → (Err LittleLent ≡ answer_to (too_little 514 s out) line)
      × ((out ≡ out_left (too_little 514 s out) line out) × (s ≡ scratch_left (too_little 514 s out) s))
  unfolding answer_to replied_of out_left memory_left
  refused_1 e = rw e (refl, (refl, refl))

  -- The first 514 bytes o of `out` and the first 512 numbers t of the scratch were handed on, and come back as o' and t'.
  answered : (r : Result ℕ Refusal) (t t' o o' : List ℕ) → scratch_size ≤ length s → 514 ≤ length out → t ≡ take 512 s → o ≡ take 514 out
      → Handled (reply_to line) r t t' o o'
      → (r ≡ answer_to (too_little 514 s out) line)
      × ((o' ++ drop 514 out ≡ out_left (too_little 514 s out) line out) × (t' ++ drop 512 s ≡ scratch_left (too_little 514 s out) s))
  unfolding answer_to out_left reply_of memory_left filled
  answered r t t' o o' l room first-t first h =
      let n : length o ≤ 514 = rw (first, length-take) (omega arith) in
      let m : length t ≤ 512 = rw (first-t, length-take) (omega arith) in
      rw (enough 514 s out (record { numbers = l; room = room })) (
        h.told.answer,
        (
          rw (h.told.digits, drop_of_length-le o {i = 514} (omega arith)) (simp (append-nil, append_assoc)),
          rw (h.zeroed, drop_of_length-le t {i = 512} (omega arith)) (simp (append-nil, append_assoc)),
        ),
      )

refused_line : (line : List ℕ) (r : Refusal) → Err r ≡ shape_of line → reply_to line ≡ refused_as r
unfolding reply_to reply_by_shape
refused_line line r e = rw (sym e)

pub returns-then-out-lt514 : goal.returns-then-out-lt514
returns-then-out-lt514 c =
    let told = (refused_1 _ _ _ (little_places scratch_size 514 _ _ c.if-out-lt514.true)) in
    record { answer = told.0; out = told.1.0; scratch = told.1.1 }

pub returns-in_default : goal.returns-in_default
returns-in_default c =
    let told = (refused_1 _ _ _ (little_scratch_lem 514 _ _ c.in_default.ensures.cases)) in
    record { answer = told.0; out = told.1.0; scratch = told.1.1 }

pub returns-in-Ok : goal.returns-in-Ok
returns-in-Ok c =
    let numbers = c.in-Some.ensures.cases in
    let first = rw c.unwrap-reply.ensures at c.first_chunk_mut-2.ensures.cases in
    let told = (answered c.args.line.now c.args.scratch.now c.args.out.now _ _ _ _ _ numbers.enough (omega arith) numbers.same first.same
    c.serve_kind.ensures) in
    record { answer = told.0; out = told.1.0; scratch = told.1.1 }

pub returns-in-Err : goal.returns-in-Err
returns-in-Err c =
    let numbers = c.in-Some.ensures.cases in
    let first = rw c.unwrap-reply.ensures at c.first_chunk_mut-2.ensures.cases in
    let told = (let line = c.args.line.now in
    let u = refused_line line _ (c.in-Err.ensures) in
    answered line c.args.scratch.now c.args.out.now _ _ _ _ _ numbers.enough (omega arith) numbers.same first.same (rw u c.serve_refusal.ensures)) in
    record { answer = told.0; out = told.1.0; scratch = told.1.1 }
