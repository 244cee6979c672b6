-- From the answers of the services to the reply.
--
-- In this order: a reply with zeros after it; the items of a line in an array; enough is lent to a service; a chain that a
-- service gives.
use Rattle.std.proofs.Common.{Result}
use Rattle.std.proofs.Common.{Ok, Err}
use mathlib.Core.Path.{◌≡◌, refl, sym, ◌∙◌}
use mathlib.Core.List.{List, [], map, ◌++◌}
use Prim.Native.Nat.{ℕ, ◌-◌, ◌≤◌}
use native.Mathlib.Nat.{sub-zero}
use native.Mathlib.Omega.{arith}
use lib.ListN.{length, take, drop, length-append, length-drop, length-map}
use lib.Seq.{take-append_seam}
use Rattle.chains.specs.Chains.{Part}
use Rattle.lent.specs.Lent.{zeros, filled, scratch_size, scratch_left, too_little, Enough}
use Rattle.lent.specs.LentLaws.{enough_zeroed}
use Rattle.refusals.specs.declared.Refusal.{Refusal}
use Rattle.parts.specs.Parts.{part_number}
use Rattle.ranking.specs.Services.{Outcome, refused, gives, answer_of, places_left, lent}
use Rattle.ranking.specs.RoundTrips.{numbers_left_lem, lent_all}
use Rattle.ranking.specs.declared.Found.{Found}
use Rattle.refusals.specs.Refusals.{number_of}
use Rattle.digits.specs.Digits.{digits_of}
use Rattle.digits.proofs.DigitLaws.{length_digits}
use Rattle.lines.specs.Kinds.{row_of}
use Rattle.lines.specs.declared.Kind.{Kind}
use Rattle.lines.specs.Lines.{items_in, Fit, read_items, items_count, items_left}
use Rattle.lines.proofs.LineLaws.{items_fit}
use Rattle.std.specs.Result.{result_unwrap_or}
use Rattle.frames.specs.Put.{put_at}
use Rattle.frames.specs.PutLaws.{at_start, put_filled}
use Rattle.frames.specs.ReplyDigits.{chain_digits}
use Rattle.frames.specs.Replies.{refused_as, served_with, digits_in, chain_reply, replied_of}
use Rattle.frames.specs.Calls.{Told, Handled, parts_in, found_reply, read_only}

-- ---- a reply with zeros after it

-- k digits were put at the start of l₀, which left l, then zeros up to 514, which left m.
module _ (k : ℕ) (l₀ l m : List ℕ) (room : 514 ≤ length l₀) (short : k ≤ 514) (rest : m ≡ put_at k (zeros (514 - k)) l) where
  stand : (ds : List ℕ) → length ds ≡ k → l ≡ put_at 0 ds l₀ → m ≡ filled 514 ds l₀
  stand ds n p = put_filled 514 k ds l₀ l m (at_start k ds l₀ l n p) short room rest

  pub told_served : (ds : List ℕ) → length ds ≡ k → l ≡ put_at 0 ds l₀ → Told (served_with ds) (Ok k) l₀ m
  unfolding replied_of digits_in
  told_served ds n p = record { answer = rw n; digits = stand ds n p }

  pub told_refused : (r : Refusal) → k ≡ 2 → l ≡ put_at 0 (digits_of 2 (number_of r)) l₀
      → Told (refused_as r) (Err r) l₀ m
  unfolding replied_of digits_in
  told_refused r e p =
      record { answer = refl; digits = stand (digits_of 2 (number_of r)) (length_digits 2 (number_of r) ∙ sym e) p }

-- ---- the items of a line

-- Their number, and 0 where they are not read.
pub read_or_none : (a : Result (List ℕ) Refusal) → result_unwrap_or (items_count a) 0 ≡ length (read_only a)
unfolding items_count read_only
read_or_none (Err r) = refl
read_or_none (Ok xs) = refl

-- The n items of a fit line were read into l, which held `entry` before.
module _ (k : Kind) (line : List ℕ) (places n : ℕ) (fits : Fit line k)
    (e : n ≡ length (read_only (read_items (row_of k).width line places)))
    (room : 255 ≤ places) (entry l : List ℕ) (f : l ≡ items_left (read_items (row_of k).width line places) entry) where
  number : n ≡ length (items_in k line)
  unfolding read_only
  number = rw (items_fit line places k fits room) at e

  left : l ≡ items_in k line ++ drop (length (items_in k line)) entry
  unfolding items_left
  left = rw (items_fit line places k fits room) at f

  -- The array keeps its length, so all of them stand in it.
  pub read_room : length l ≡ places → length entry ≡ places → n ≤ places
  read_room h d = omega (arith, number, simp (left, length-append, length-drop) at h)

  pub read_all : take (n - 0) l ≡ items_in k line
  read_all = rw (sub-zero, number, left, take-append_seam)

-- ---- enough is lent to a service

module _ (s p : List ℕ) (numbers : scratch_size ≤ length s) (room : length p ≡ 64) where
  all_lent : Enough 64 s p
  all_lent = record { numbers = numbers; room = omega arith }

  -- Its outcome is its own, and it zeroes the scratch.
  pub own_outcome : (o : Outcome) → lent s p o ≡ o
  own_outcome o = lent_all s p o all_lent

  pub scratch_zeroed : (s' : List ℕ) → s' ≡ scratch_left (too_little 64 s p) s → s' ≡ filled scratch_size [] s
  scratch_zeroed s' e = e ∙ enough_zeroed 64 s p all_lent

-- ---- a chain that a service gives

-- The places keep their number, so all part numbers stand there.
pub chain_left : (n : ℕ) (c : List Part) (p p' : List ℕ) → p' ≡ places_left (gives n c) p → length p' ≡ 64
    → (length c ≤ 64) × (take (length c) p' ≡ map part_number c)
unfolding places_left filled
chain_left n c p p' e h =
    (omega (arith, length-map c part_number, simp (e, length-append) at h), rw e (numbers_left_lem n c p))

module _ (a : Result Found Refusal) (places : List ℕ) where
  pub found_chain : (found : Found) → a ≡ Ok found
      → (parts_in a ≡ found.k)
      × (found_reply a places ≡ served_with (chain_digits found.n found.position (take (found.k - 0) places)))
  unfolding parts_in found_reply
  found_chain found e = rw (e, sub-zero found.k) (refl, refl)

  pub found_refused : (r : Refusal) → a ≡ Err r → found_reply a places ≡ refused_as r
  unfolding found_reply
  found_refused r e = rw e

-- The answer and the places make the reply to the service's outcome.
found_reply_lem : (o : Outcome) (p p' : List ℕ) → p' ≡ places_left o p → length p' ≡ 64
    → (parts_in (answer_of o) ≤ 64) × (found_reply (answer_of o) p' ≡ chain_reply o)
unfolding parts_in found_reply answer_of chain_reply
found_reply_lem (refused r) p p' e h = (omega arith, refl)
found_reply_lem (gives n c) p p' e h =
    let (room, numbers) = chain_left n c p p' e h in
    (room, rw numbers)

-- A service with the outcome o was lent the scratch s and the places p. It answered f and left p' in the places.
module _ (o : Outcome) (f : Result Found Refusal) (s p p' : List ℕ) (numbers : scratch_size ≤ length s) (room : length p ≡ 64)
    (answer : f ≡ answer_of (lent s p o)) (left : p' ≡ places_left (lent s p o) p) (same : length p' ≡ 64) where
  as_outcome : (parts_in f ≤ 64) × (found_reply f p' ≡ chain_reply o)
  as_outcome = rw (answer, own_outcome s p numbers room o) (found_reply_lem o p p' (rw own_outcome at left) same)

  pub found_fits : parts_in f ≤ 64
  found_fits = as_outcome.0

  pub found_handled : (s' : List ℕ) {r : Result ℕ Refusal} {out out' : List ℕ} → s' ≡ scratch_left (too_little 64 s p) s
      → Told (found_reply f p') r out out'
      → Handled (chain_reply o) r s s' out out'
  found_handled s' e told =
      record { told = rw as_outcome.1 at told; zeroed = scratch_zeroed s p numbers room s' e }
