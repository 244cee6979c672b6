-- `serve_count` replies with the count, which the table count answers since the scratch is large enough.
use Rattle.std.proofs.Common.{Result, Ok, Err}
use mathlib.Core.Path.{◌≡◌, ◌∙◌}
use mathlib.Core.List.{List}
use Prim.Native.Nat.{ℕ, ◌%◌, ◌^◌, ◌≤◌}
use native.Mathlib.Omega.{arith}
use lib.ListN.{length}
use Rattle.refusals.specs.declared.Refusal.{Refusal}
use Rattle.counting.specs.TableLaws.{counted_served}
use Rattle.lent.specs.Lent.{scratch_size, little_scratch, scratch_left}
use Rattle.lent.specs.LentLaws.{served_zeroed}
use Rattle.chains.specs.Listing.{count}
use Rattle.counting.specs.TableCount.{counted_of}
use Rattle.lines.specs.declared.Kind.TheVariants.{Count as count_line}
use Rattle.lines.specs.Lines.{field}
use Rattle.lines.proofs.LineLaws.{field_fits}
use Rattle.frames.specs.ReplyDigits.{single_digits}
use Rattle.frames.specs.Replies.{served_with, served}
use Rattle.frames.specs.Calls.{Told, Handled}
use Rattle.frames.proofs.serve.serve_count.Goals as goal

-- The count of n was asked for with the scratch s, and a answered.
module _ (s : List ℕ) (n : ℕ) (a : Result ℕ Refusal) (room : scratch_size ≤ length s) (e : a ≡ counted_of n s) where
  answer : a ≡ Ok (count n)
  answer = e ∙ counted_served n s room

  count_handled : (line s' out out' : List ℕ) (x : ℕ) (r : Result ℕ Refusal) → a ≡ Ok x → n ≡ field line 1 8 % 2 ^ 64
      → s' ≡ scratch_left (little_scratch s) s
      → Told (served_with (single_digits x)) r out out' → Handled (served count_line line) r s s' out out'
  unfolding served
  count_handled line s' out out' x r f read left told =
      let same : x ≡ count n = cc answer in
      let asked : n ≡ field line 1 8 = read ∙ field_fits line 1 8 (omega arith) in
      record { told = rw (same, asked) at told; zeroed = left ∙ served_zeroed s room }

  not_refused : (x : Refusal) → a ≡ Err x → ⊥
  not_refused x f =
      let z : ◌≡◌ {A = ℕ} 0 1 = cc answer in
      omega arith

pub returns-in-Ok : goal.returns-in-Ok
returns-in-Ok c =
    count_handled c.args.scratch.now _ _ (omega arith) c.table_count.ensures.value _ _ _ _ _ _ c.in-Ok.is
    c.field_of.ensures
    c.table_count.ensures.scratch_after c.tell_single.ensures

pub returns-in-Err : goal.returns-in-Err
returns-in-Err c =
    absurd (not_refused c.args.scratch.now _ _ (omega arith) c.table_count.ensures.value _ c.in-Err.is)
