-- One reply and its byte 10, written from a place of `out` on.
--
-- In this order: what `frames::reply` gives where enough is lent; the part of `out` that it was lent, back in its place with byte
-- 10 behind the digits.
use mathlib.Core.Path.{◌≡◌, refl, sym, ap, ◌∙◌}
use mathlib.Core.Bool.{false}
use mathlib.Core.List.{List, [], ◌∷◌, ◌++◌}
use Prim.Native.Nat.{ℕ, ◌+◌, ◌-◌, ◌≤◌, ◌<◌}
use native.Mathlib.Nat.{zero-add, suc-add}
use native.Mathlib.Numerals.{add-one}
use native.Mathlib.Omega.{arith}
use borrow.Rule.Slice.PartMut.{mid_of, put_mid, take_put}
use lib.ListN.{length, take, drop, set, length-append, length-drop, length-set, take-append-drop}
use lib.Seq.{length-take-le, set_split}
use Rattle.lent.specs.LentLaws.{length_filled, filled_first, enough, enough_zeroed}
use Rattle.lent.specs.Lent.{filled, too_little, scratch_left, scratch_size, Enough}
use Rattle.lent.specs.Parts.{part_lent, part_back}
use Rattle.digits.proofs.DigitLaws.{length_digits}
use Rattle.refusals.specs.Refusals.{number_of}
use Rattle.frames.specs.Replies.{Reply, refused_as, served_with, digits_in, reply_to, reply_of, replied_of, answer_to, out_left}
use Rattle.frames.specs.ReplyLaws.{reply_short}
use Rattle.stream.specs.Answers.{behind_one}
use Rattle.stream.specs.Pieces.{digits_told, Adds}

-- ---- what `frames::reply` gives

told_length : (x : Reply) → digits_told (replied_of x) ≡ length (digits_in x)
unfolding digits_told replied_of digits_in
told_length (refused_as r) = sym (length_digits 2 (number_of r))
told_length (served_with ds) = refl

module _ (line scratch part : List ℕ) (h : scratch_size ≤ length scratch) (k : 514 ≤ length part) where
  all_lent : Enough 514 scratch part
  all_lent = record { numbers = h; room = k }

  enough_lent : too_little 514 scratch part ≡ false
  enough_lent = enough 514 scratch part all_lent

  pub reply_told : digits_told (answer_to (too_little 514 scratch part) line) ≡ length (reply_of line)
  unfolding answer_to reply_of
  reply_told = rw enough_lent (told_length (reply_to line))

  pub reply_out : out_left (too_little 514 scratch part) line part ≡ filled 514 (reply_of line) part
  unfolding out_left
  reply_out = rw enough_lent

  pub reply_scratch : scratch_left (too_little 514 scratch part) scratch ≡ filled scratch_size [] scratch
  reply_scratch = enough_zeroed 514 scratch part all_lent

-- ---- the part back in its place

store_behind : (p part : List ℕ) (n x : ℕ) → n < length part
    → set (p ++ part) (length p + n) x ≡ p ++ (take n part ++ (x ∷ drop (n + 1) part))
store_behind [] part n x h = rw (zero-add, add-one) (set_split part n x h)
store_behind (y ∷ p) part n x h = rw suc-add (ap (λ (l : List ℕ). y ∷ l) (store_behind p part n x h))

module _ (line : List ℕ) (at : ℕ) (out part : List ℕ) (n : ℕ) (room : at + 515 ≤ length out)
    (e : part ≡ filled 514 (reply_of line) (mid_of at (length out - at) out)) (told : n ≡ length (reply_of line)) where
  at_end : put_mid at (length out - at) out part ≡ take at out ++ part
  at_end =
      let h : at ≤ length out = omega arith in
      sym (take-append-drop at (put_mid at (length out - at) out part))
      ∙ rw (take_put at (length out - at) out part h, part_back at out h part)

  length_part : length part ≡ length out - at
  length_part =
      let m : length (mid_of at (length out - at) out) ≡ length out - at =
      rw (part_lent at out (omega arith)) (length-drop at out)
      in
      rw e (length_filled 514 (reply_of line) (mid_of at (length out - at) out) (reply_short line) (omega arith) ∙ m)

  pub room_for_end : n < length part
  room_for_end = omega (arith, length_part, reply_short line)

  pub reply_added : Adds (reply_of line) at out (set (put_mid at (length out - at) out part) (at + n) 10) (at + n + 1)
  unfolding behind_one
  reply_added =
      let h : at ≤ length out = omega arith in
      let k : at ≡ length (take at out) = sym (length-take-le at out h) in
      record {
        list = rw at_end (ap (λ (i : ℕ). set (take at out ++ part) (i + n) 10) k ∙ store_behind (take at out) part n 10 room_for_end
            ∙ ap (λ (l : List ℕ). take at out ++ l) (rw (e, told, filled_first, part_lent at out h)));
        end = omega arith;
        same = rw (length-set, at_end, length-append, length-take-le at out h, length_part) (omega arith);
      }
