-- Fields of a line written into lent places from the front, one store a turn, at any width: the invariant of the loops, and its
-- laws where none is written and where one more is.
use mathlib.Core.Path.{◌≡◌, refl, ◌∙◌}
use mathlib.Core.List.{List, ◌++◌, append_assoc}
use Prim.Native.Nat.{ℕ, suc, ◌+◌, ◌*◌, ◌<◌}
use native.Mathlib.Numerals.{add-one}
use lib.ListN.{length, get_or, drop, set, length-set}
use lib.Seq.{drop-cons, set_at}
use Rattle.lines.specs.Lines.{field, fields}
use Rattle.lines.proofs.LineLaws.{length_fields, fields_suc}

-- The first i fields of `width` bytes, from byte `at` on, stand in the places.
pub record Stand (line : List ℕ) (at width : ℕ) (entry l : List ℕ) (i : ℕ) : Type 0 where
  pub same : length l ≡ length entry
  pub list : l ≡ fields line at width i ++ drop i entry

pub no_field : (line : List ℕ) (at width : ℕ) (entry : List ℕ) → Stand line at width entry entry 0
unfolding fields
no_field line at width entry = record { same = refl; list = refl }

pub more : (line : List ℕ) (at width : ℕ) (entry l : List ℕ) (i x : ℕ) → Stand line at width entry l i → i < length entry
    → x ≡ field line (at + width * i) width → Stand line at width entry (set l i x) (i + 1)
more line at width entry l i x s h e =
    let stored = set_at (fields line at width i) (get_or entry i 0) (drop (suc i) entry) x i (length_fields line at width i) in
    record {
      same = length-set l i x ∙ s.same;
      list = rw (s.list, drop-cons entry i 0, stored, add-one, fields_suc, append_assoc, e);
    }
