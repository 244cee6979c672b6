-- The two tests are those of `ready`.
use Rattle.std.proofs.Common.{Err}
use Rattle.std.proofs.lemmas.Bool.Decides.{not_from_Decides}
use Rattle.bench.specs.Benches.{ready}
use Rattle.bench.proofs.BenchLaws.{on_little, on_lost}
use Rattle.bench.proofs.StateLaws.{sound_first}
use Rattle.bench.proofs.look.Goals as goal

pub returns-in_default : goal.returns-in_default
unfolding ready
returns-in_default c = on_little Err _ _ c.in_default.ensures.cases

pub returns-then-not-is_sound : goal.returns-then-not-is_sound
unfolding ready
returns-then-not-is_sound c =
    let first = c.in-Some.ensures.cases in
    let lost = not_from_Decides _ c.is_sound.ensures c.if-not-is_sound.true in
    on_lost Err _ _ first.enough (λ s. lost (rw first.same ((sound_first _).1 s)))

pub returns : goal.returns
returns c =
    let first = c.in-Some.ensures.cases in
    (first.enough, (sound_first _).0 (rw first.same at (c.is_sound.ensures.0 c.if-not-is_sound.false)))
