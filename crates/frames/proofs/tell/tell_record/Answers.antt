-- `tell_record` tells the chain where the exponents are those of its largest part, else 16.
use mathlib.Core.Path.{sym, ◌∙◌}
use Rattle.parts.proofs.Largest.{same_part_lem}
use Rattle.frames.specs.ServedLaws.{sixteen_right, sixteen_wrong}
use Rattle.frames.proofs.tell.tell_record.Goals as goal

pub tell_chain-requires : goal.tell_chain-requires
tell_chain-requires c =
    (c.requires, (same_part_lem _ _).0 (sym c.is_largest.ensures ∙ c.if-is_largest.true))

pub returns-then-is_largest : goal.returns-then-is_largest
returns-then-is_largest c =
    rw (sixteen_right _ _ (sym c.is_largest.ensures ∙ c.if-is_largest.true)) c.tell_chain.ensures

pub returns-else-is_largest : goal.returns-else-is_largest
returns-else-is_largest c =
    rw (sixteen_wrong _ _ (sym c.is_largest.ensures ∙ c.if-is_largest.false)) c.tell_refusal.ensures
