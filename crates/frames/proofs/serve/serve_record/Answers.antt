-- `serve_record` replies with the record's own numbers: they are the part numbers of the chain that reading the record finds, and
-- so at most 64. 15 is no refusal of a record, so 16 comes after all of them.
use Rattle.std.proofs.Common.{Result}
use Rattle.std.proofs.Common.{Ok, Err}
use mathlib.Core.Path.{◌≡◌, refl, sym, ap, ◌∙◌}
use mathlib.Core.Logic.{⊎_elim}
use mathlib.Core.Bool.{Bool}
use mathlib.Core.List.{List}
use Prim.Native.Nat.{ℕ, ◌≤◌}
use native.Mathlib.Omega.{arith}
use lib.ListN.{length, length-map}
use Rattle.lent.specs.LentLaws.{scratch_enough}
use Rattle.lent.specs.Lent.{scratch_size, little_scratch, scratch_left, memory_left}
use Rattle.chains.specs.Listing.{position}
use Rattle.chains.proofs.Bounds.{parts_bound}
use Rattle.refusals.specs.Refusals.{number_of}
use Rattle.refusals.specs.declared.Refusal.TheVariants.{UnknownPart, NotChained, TooLarge}
use Rattle.refusals.specs.declared.Refusal.{Refusal}
use Rattle.parts.specs.Parts.{part_number}
use Rattle.ranking.specs.Services.{Outcome, refused, gives, lent_scratch, placed_of, of_record}
use Rattle.ranking.specs.Outcomes.{record_gives}
use Rattle.ranking.specs.Refusals.{record_refusals}
use Rattle.ranking.specs.declared.Placed.{Placed}
use Rattle.lines.specs.Kinds.{row_of}
use Rattle.lines.specs.declared.Kind.TheVariants.{Record as record_line}
use Rattle.frames.specs.ReplyDigits.{chain_digits}
use Rattle.frames.specs.Replies.{Reply, refused_as, served_with, chain_reply, or_sixteen, served}
use Rattle.frames.specs.ServedLaws.{sixteen_refused}
use Rattle.frames.specs.RecordLines.{outcome_refused}
use Rattle.frames.specs.Calls.{Told, Handled}
use Rattle.frames.proofs.CallLaws.{read_room, read_all}
use Rattle.frames.proofs.serve.serve_record.Goals as goal

-- The record l was read with the scratch s, and x answered.
module _ (l s : List ℕ) (x : Result Placed Refusal) (room : scratch_size ≤ length s) (e : x ≡ placed_of (lent_scratch s (of_record l))) where
  own : x ≡ placed_of (of_record l)
  unfolding lent_scratch
  own = rw (scratch_enough s room) at e

  at_position_lem : (t : Placed) → x ≡ Ok t → (length l ≤ 64) × (chain_reply (of_record l) ≡ served_with (chain_digits t.n t.position l))
  unfolding placed_of chain_reply
  at_position_lem t f = go (of_record l) refl
    where
      go : (o : Outcome) → of_record l ≡ o → (length l ≤ 64) × (chain_reply (of_record l) ≡ served_with (chain_digits t.n t.position l))
      go (refused r) g =
          let z : ◌≡◌ {A = ℕ} 0 1 = cc (rw g at own) in
          absurd (omega arith)
      go (gives m c) g =
          let (chain, numbers, fits) = record_gives l m c g in
          let a : t ≡ record { n = m; position = position m c } = cc (f, rw g at own) in
          let number : t.n ≡ m = ap (λ (d : Placed). d.n) a in
          let at_place : t.position ≡ position m c = ap (λ (d : Placed). d.position) a in
          let short = parts_bound m 64 c chain fits in
          (omega (arith, ap length numbers, length-map c part_number), rw (number, at_place, g, numbers) refl)

  not_placed : (r : Refusal) → x ≡ Err r → chain_reply (of_record l) ≡ refused_as r
  unfolding placed_of chain_reply
  not_placed r f = go (of_record l) refl
    where
      go : (o : Outcome) → of_record l ≡ o → chain_reply (of_record l) ≡ refused_as r
      go (refused y) g =
          let same : y ≡ r = cc (rw g at own) in
          rw (g, same)
      go (gives m c) g =
          let z : ◌≡◌ {A = ℕ} 0 1 = cc (rw g at own) in
          absurd (omega arith)

  -- The reply without the two bytes, or 16.
  abbrev reply : Bool → Reply
  reply right = or_sixteen right (chain_reply (of_record l))

  refused_reply : (right : Bool) (r : Refusal) → x ≡ Err r → reply right ≡ refused_as r
  refused_reply right r f =
      let e = not_placed r f in
      rw e
      (sixteen_refused right r (λ g.
      ⊎_elim (λ (h : r ≡ UnknownPart). omega (arith, ap number_of (sym g ∙ h))) (⊎_elim (λ (h : r ≡ NotChained). omega (arith, ap number_of (sym g ∙ h))) (λ (h : r ≡ TooLarge). omega (arith, ap number_of (sym g ∙ h))))
      ((record_refusals l).no_other r ((outcome_refused (of_record l) r).0 e))))

  handled : (right : Bool) (y : Reply) (r : Result ℕ Refusal) (s' out out' : List ℕ) → reply right ≡ y → s' ≡ scratch_left (little_scratch s) s
      → Told y r out out' → Handled (reply right) r s s' out out'
  unfolding memory_left
  handled right y r s' out out' f left told =
      record { told = rw f told; zeroed = rw (scratch_enough s room) at left }

pub slice_bounds-read_record-end : goal.slice_bounds-read_record-end
unfolding row_of
slice_bounds-read_record-end c =
    let s = c.before in
    omega (
      arith,
      read_room record_line _ _ _ s.requires c.numbers_in-k.ensures.value (omega arith) _ _ c.numbers_in-k.ensures.numbers_after
          (omega arith) (omega arith),
    )

pub slice_bounds-tell_record-end : goal.slice_bounds-tell_record-end
unfolding row_of
slice_bounds-tell_record-end c =
    let s = c.before.before in
    omega (
      arith,
      read_room record_line _ _ _ s.requires c.numbers_in-k.ensures.value (omega arith) _ _ c.numbers_in-k.ensures.numbers_after
          (omega arith) (omega arith),
    )

pub tell_record-requires : goal.tell_record-requires
tell_record-requires c =
    let s = c.before.before in
    (at_position_lem _ s.args.scratch.now _ (omega arith) c.read_record.ensures.answer _ c.in-Ok.is).0

pub returns-in-Ok : goal.returns-in-Ok
unfolding served row_of
returns-in-Ok c =
    let s = c.before.before in
    let w = read_all record_line _ _ _ s.requires c.numbers_in-k.ensures.value (omega arith) _ _ c.numbers_in-k.ensures.numbers_after in
    let reply = (at_position_lem _ s.args.scratch.now _ (omega arith) c.read_record.ensures.answer _ c.in-Ok.is).1 in
    rw (← w)
    (handled _ s.args.scratch.now _ (omega arith) c.read_record.ensures.answer _ _ _ _ _ _
    (rw (reply, c.exponents_in-told.ensures)) c.read_record.ensures.scratch c.tell_record.ensures)

pub returns-in-Err : goal.returns-in-Err
unfolding served row_of
returns-in-Err c =
    let s = c.before in
    let w = read_all record_line _ _ _ s.requires c.numbers_in-k.ensures.value (omega arith) _ _ c.numbers_in-k.ensures.numbers_after in
    rw (← w)
    (handled _ s.args.scratch.now _ (omega arith) c.read_record.ensures.answer _ _ _ _ _ _
    (refused_reply _ s.args.scratch.now _ (omega arith) c.read_record.ensures.answer _ _ c.in-Err.is)
    c.read_record.ensures.scratch c.tell_refusal.ensures)
