-- The case of the letters a to f makes no difference to a line or to a file (document 02, T-01). A line and the same line in
-- capitals have the same fields, items and shape. The lines of a file in capitals are the file's lines in capitals, because byte 10
-- is no letter. So the replies are the same where the reply to each line is.
--
-- In this order: a part of a text; one line; the lines of a file; the replies.
use Rattle.std.specs.Prelude.{◌≡◌, Option, Some, None, List, [], ◌∷◌, map, eqb, take, drop}
use Rattle.std.proofs.Math.Path.{refl}
use Rattle.std.proofs.Common.{sym, ap, ◌∙◌, arith, ne_eqb}
use Prim.Native.Nat.{ℕ, zero, suc, ◌+◌, ◌-◌, ◌*◌}
use Rattle.std.proofs.lemmas.List.{length-map}
use Rattle.digits.specs.Digits.{capital, capitals}
use Rattle.digits.proofs.CapitalLaws.{by_capital, digits_of_capitals, number_of_capitals}
use Rattle.lines.specs.Kinds.{Kind, row_of, kind_of}
use Rattle.lines.specs.Lines.{field, fields, count_in, bytes_in, items_in, shape_of_kind, shape_of, items_of_kind, read_items}
use Rattle.lines.specs.Stream.{finished, unfinished, last_line, lines_of, replies_to}
use Rattle.lines.proofs.StreamLaws.{finished_map, unfinished_map, last_map, lines_map}

-- ---- a part of a text

pub take_map : (f : ℕ → ℕ) (k : ℕ) (s : List ℕ) → take k (map f s) ≡ map f (take k s)
take_map f zero s = refl
take_map f (suc k) [] = refl
take_map f (suc k) (c ∷ s) = ap (λ (t : List ℕ). f c ∷ t) (take_map f k s)

drop_map : (f : ℕ → ℕ) (k : ℕ) (s : List ℕ) → drop k (map f s) ≡ map f (drop k s)
drop_map f zero s = refl
drop_map f (suc k) [] = refl
drop_map f (suc k) (c ∷ s) = drop_map f k s

-- ---- one line

module _ (line : List ℕ) where
  pub field_of_capitals : (at k : ℕ) → field (capitals line) at k ≡ field line at k
  unfolding field
  field_of_capitals at k =
      rw (drop_map capital (2 * at) line, take_map capital (2 * k) (drop (2 * at) line))
      (number_of_capitals (take (2 * k) (drop (2 * at) line)))

  fields_of_capitals : (at width k : ℕ) → fields (capitals line) at width k ≡ fields line at width k
  unfolding fields
  fields_of_capitals at width zero = refl
  fields_of_capitals at width (suc k) = rw (field_of_capitals at width, fields_of_capitals (at + width) width k)

  pub items_of_capitals : (k : Kind) → items_in k (capitals line) ≡ items_in k line
  unfolding items_in count_in
  items_of_capitals k =
      rw (field_of_capitals (row_of k).count_at 1)
      (fields_of_capitals (row_of k).before (row_of k).width (field line (row_of k).count_at 1))

  bytes_of_capitals : (k : Kind) → bytes_in k (capitals line) ≡ bytes_in k line
  unfolding bytes_in count_in
  bytes_of_capitals k = rw (field_of_capitals (row_of k).count_at 1)

  kind_shape_of_capitals : (o : Option Kind) → shape_of_kind (capitals line) o ≡ shape_of_kind line o
  unfolding shape_of_kind
  kind_shape_of_capitals None = refl
  kind_shape_of_capitals (Some k) = rw (length-map line capital, bytes_of_capitals k)

  pub shape_of_capitals : shape_of (capitals line) ≡ shape_of line
  unfolding shape_of
  shape_of_capitals =
      rw (length-map line capital, digits_of_capitals line, field_of_capitals 0 1, kind_shape_of_capitals (kind_of (field line 0 1)))

  kind_items_of_capitals : (width : ℕ) (o : Option Kind) → items_of_kind width (capitals line) o ≡ items_of_kind width line o
  unfolding items_of_kind
  kind_items_of_capitals width None = refl
  kind_items_of_capitals width (Some k) = rw (length-map line capital, bytes_of_capitals k, items_of_capitals k)

  pub read_of_capitals : (width places : ℕ) → read_items width (capitals line) places ≡ read_items width line places
  unfolding read_items
  read_of_capitals width places = rw (field_of_capitals 0 1, kind_items_of_capitals width (kind_of (field line 0 1)))

-- ---- the lines of a file

-- Byte 10 is no letter, and no letter's capital.
end_of_capital : (c : ℕ) → eqb (capital c) 10 ≡ eqb c 10
end_of_capital c =
    by_capital (λ (d : ℕ). eqb d 10 ≡ eqb c 10) c
    (λ l h. ne_eqb (c - 32) 10 (λ e. omega arith) ∙ sym (ne_eqb c 10 (λ e. omega arith)))
    refl

module _ (line s : List ℕ) where
  pub finished_capitals : finished (capitals line) (capitals s) ≡ map capitals (finished line s)
  finished_capitals = finished_map capital end_of_capital line s

  pub unfinished_capitals : unfinished (capitals line) (capitals s) ≡ capitals (unfinished line s)
  unfinished_capitals = unfinished_map capital end_of_capital line s

pub last_capitals : (line : List ℕ) → last_line (capitals line) ≡ map capitals (last_line line)
last_capitals line = last_map capital line

pub lines_of_capitals : (file : List ℕ) → lines_of (capitals file) ≡ map capitals (lines_of file)
unfolding lines_of
lines_of_capitals file = lines_map capital end_of_capital [] file

-- ---- the replies

pub replies_of_capitals : (R : List ℕ → List ℕ) → ((line : List ℕ) → R (capitals line) ≡ R line)
    → (ls : List (List ℕ)) → replies_to R (map capitals ls) ≡ replies_to R ls
unfolding replies_to
replies_of_capitals R same [] = refl
replies_of_capitals R same (line ∷ ls) = rw (same line, replies_of_capitals R same ls)
