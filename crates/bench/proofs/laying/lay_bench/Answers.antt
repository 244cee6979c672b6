-- The bench is zeroed, so that no name is saved; the chain is laid out in its first rows, and n put in its place.
use Rattle.std.proofs.Common.{◌∙◌}
use Rattle.bench.proofs.Opening.{zero_rows, zero_laid}
use Rattle.bench.proofs.laying.lay_bench.Goals as goal

pub lay_out-requires : goal.lay_out-requires
lay_out-requires c =
    let first = rw c.unwrap.ensures at c.first_chunk_mut.ensures.cases in
    (c.requires, first.same ∙ zero_rows)

pub returns : goal.returns
returns c = zero_laid _ _ _ c.lay_out.ensures
