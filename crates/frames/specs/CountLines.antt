-- Fit lines of kinds 01 and 03 and the count: what a line of kind 01 tells, and which position a line of kind 03 is refused for.
use Rattle.std.specs.Prelude.{Ok}
use Rattle.std.specs.Prelude.{◌≡◌, ◌↔◌, List, ℕ, ◌^◌, ◌≤◌, ◌<◌}
use Rattle.std.proofs.Common.{ap, ◌∙◌}
use Rattle.std.proofs.Math.Logic.Iff
use Rattle.chains.specs.Listing.{count}
use Rattle.chains.proofs.Counts.{count_fits}
use Rattle.refusals.specs.declared.Refusal.TheVariants.{NoSuchPosition}
use Rattle.ranking.specs.Services.{at_position}
use Rattle.ranking.specs.Outcomes.{at_refused}
use Rattle.lines.specs.declared.Kind.TheVariants.{Count as count_line, At as at_line}
use Rattle.lines.specs.Lines.{field, shape_of}
use Rattle.frames.specs.ReplyDigits.{single_digits}
use Rattle.frames.specs.ReadBack.{single_read}
use Rattle.frames.specs.Replies.{refused_as, served_with, served, reply_to}
use Rattle.frames.specs.ServedLaws.{number_low}
use Rattle.frames.specs.ReplyLaws.{reply_fit}
use Rattle.frames.specs.RecordLines.{outcome_refused}

-- A line of kind 01 tells k exactly if k is the count of its n.
pub count_told : (line : List ℕ) (k : ℕ) → shape_of line ≡ Ok count_line → k < 2 ^ 64
    → (reply_to line ≡ served_with (single_digits k)) ↔ (count (field line 1 8) ≡ k)
unfolding served
count_told line k f low = (there, λ e. reply_fit line count_line f ∙ ap (λ (w : ℕ). served_with (single_digits w)) e)
  where
    there : reply_to line ≡ served_with (single_digits k) → count (field line 1 8) ≡ k
    there e =
        let w = count (field line 1 8) in
        let same : single_digits w ≡ single_digits k = cc (e, reply_fit line count_line f) in
        cc ((single_read w (count_fits (field line 1 8) (number_low line 1))).1, (single_read k low).1, same)

-- A line of kind 03 is refused with 6 exactly if its position is not below the count of its n.
pub past_told : (line : List ℕ) → shape_of line ≡ Ok at_line → (reply_to line ≡ refused_as NoSuchPosition) ↔ (count (field line 1 8) ≤ field line 9 8)
unfolding served
past_told line f =
    let n = field line 1 8 in
    let i = field line 9 8 in
    rw (reply_fit line at_line f) (Iff.trans (outcome_refused (at_position n i) NoSuchPosition) (at_refused n i))
