-- `items_of` reads the items, or nothing: each test is that of `read_items`, in its order.
use Rattle.std.proofs.Common.{◌≡◌, ◌∙◌, refl, sym, ap, List, ◌++◌, ℕ, ◌+◌, ◌*◌, length, drop, map, Result, Ok, Err, arith}
use Rattle.std.proofs.lemmas.Result.{err_from_is_err_and}
use Rattle.refusals.specs.declared.Refusal.{Refusal}
use Rattle.lines.specs.Kinds.{Kind, row_of}
use Rattle.lines.specs.Lines.{fields, count_in, bytes_in, items_in, items_count, items_left}
use Rattle.lines.proofs.LineLaws.{length_fields, kind_told, kind_refused, items_little, items_kind, items_none, items_other, items_short, items_there}
use Rattle.lines.proofs.items_of.Goals as goal

-- What is told and what stands in the places where the items are refused, and where they are read.
module _ (entry : List ℕ) (told : Result (List ℕ) Refusal) where
  refused : (r : Refusal) → told ≡ Err r → (Err r ≡ items_count told) × (entry ≡ items_left told entry)
  unfolding items_count items_left
  refused r e = rw e (refl, refl)

  given : (xs l : List ℕ) (n : ℕ) → told ≡ Ok xs → n ≡ length xs → l ≡ xs ++ drop n entry
      → (Ok n ≡ items_count told) × (l ≡ items_left told entry)
  unfolding items_count items_left
  given xs l n e size h = rw (e, ← size) (refl, h)

-- Of a line of kind k, where the row is that of the kind: its bytes and its items.
module _ (line : List ℕ) (k : Kind) (before width count : ℕ) (x : before ≡ (row_of k).before) (w : (row_of k).width ≡ width)
    (n : count ≡ count_in k line) where
  bytes : before + width * count ≡ bytes_in k line
  unfolding bytes_in
  bytes = rw (x, ← w, n)

  items : fields line before width count ≡ items_in k line
  unfolding items_in
  items = rw (x, ← w, n)

pub returns-then-places-lt255 : goal.returns-then-places-lt255
returns-then-places-lt255 g c =
    let told = refused (map g.T.Item.value c.args.places.now) _ _ (items_little g.T.Item.WIDTH c.args.line.now _ c.if-places-lt255.true) in
    record { value = told.0; places_after = told.1 }

pub returns-in_err-kind : goal.returns-in_err-kind
returns-in_err-kind g c =
    let (none, why) = kind_refused _ _ (sym c.kind_of.ensures ∙ c.in_err-kind.was) in
    let given = err_from_is_err_and c.from_residual.result c.from_residual.ensures.1 in
    let told = refused (map g.T.Item.value c.args.places.now) _ _
    (items_kind g.T.Item.WIDTH c.args.line.now (length c.args.places.now) (omega arith) ∙ items_none _ _ _ none) in
    record { value = given.1 ∙ ap Err (given.2 ∙ why) ∙ told.0; places_after = told.1 }

pub returns-then-row-WIDTH : goal.returns-then-row-WIDTH
returns-then-row-WIDTH g c =
    let kind = kind_told _ _ (sym c.kind_of.ensures ∙ c.in_ok-kind.was) in
    let told = refused (map g.T.Item.value c.args.places.now) _ _
    (items_kind g.T.Item.WIDTH c.args.line.now (length c.args.places.now) (omega arith)
    ∙ items_other _ _ _ _ kind (λ e. omega arith)) in
    record { value = told.0; places_after = told.1 }

pub returns-then-line-bytes_in : goal.returns-then-line-bytes_in
returns-then-line-bytes_in g c =
    let kind = kind_told _ _ (sym c.kind_of.ensures ∙ c.in_ok-kind.was) in
    let told = refused (map g.T.Item.value c.args.places.now) _ _
    (items_kind g.T.Item.WIDTH c.args.line.now (length c.args.places.now) (omega arith)
    ∙ items_short _ _ _ _ kind (omega arith) (omega arith)) in
    record { value = told.0; places_after = told.1 }

pub read_fields-requires : goal.read_fields-requires
read_fields-requires g c =
    let n = bytes c.args.line.now c.in_ok-kind.kind _ g.T.Item.WIDTH _ c.row-row.ensures.before (omega arith) c.count_in-count.ensures.0 in
    (omega arith, omega arith)

pub returns : goal.returns
returns g c =
    let l = items c.args.line.now c.in_ok-kind.kind _ g.T.Item.WIDTH _ c.row-row.ensures.before (omega arith) c.count_in-count.ensures.0 in
    let kind = kind_told _ _ (sym c.kind_of.ensures ∙ c.in_ok-kind.was) in
    let told = given (map g.T.Item.value c.args.places.now) _ _ _ _
    (items_kind g.T.Item.WIDTH c.args.line.now (length c.args.places.now) (omega arith)
    ∙ items_there _ _ _ _ kind (omega arith) (omega arith) ∙ ap Ok (sym l))
    (sym (length_fields _ _ _ _)) c.read_fields.ensures in
    record { value = told.0; places_after = told.1 }
