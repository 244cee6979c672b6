-- `finish_line` answers the line itself, or its first 515 characters, to which the reply is the same.
use mathlib.Core.Path.{◌≡◌, refl, sym, ap, ◌∙◌}
use mathlib.Core.List.{List, ◌++◌}
use Prim.Native.Nat.{ℕ, ◌-◌}
use native.Mathlib.Nat.{sub-zero}
use lib.ListN.{take}
use Rattle.frames.specs.Replies.{reply_of}
use Rattle.frames.specs.ReplyLaws.{first_515}
use Rattle.stream.proofs.finish_line.Goals as goal

none_kept : (k : ℕ) (kept part : List ℕ) → k ≡ 0 → reply_of (take k kept ++ part) ≡ reply_of part
none_kept k kept part e = rw e

first_kept : (line : List ℕ) (n : ℕ) (kept : List ℕ) → take n kept ≡ take 515 line → reply_of line ≡ reply_of (take (n - 0) kept)
first_kept line n kept e = rw sub-zero (first_515 line ∙ ap reply_of (sym e))

pub returns-then-k-eq0 : goal.returns-then-k-eq0
returns-then-k-eq0 c =
    let a = c.args in
    let r = c.answer_line.ensures in record { adds = rw (none_kept a.k a.kept.now a.part.now c.if-k-eq0.true) r.adds; scratch_after = r.scratch_after; only_first = record { later = refl; same = refl } }

pub returns : goal.returns
returns c =
    let a = c.args in
    let r = c.answer_line-2.ensures in
    let line = take a.k a.kept.now ++ a.part.now in
    let same = first_kept line c.keep-n.result c.keep-n.new.kept c.keep-n.ensures.first in
    record { adds = rw same r.adds; scratch_after = r.scratch_after; only_first = c.keep-n.ensures.rest }
