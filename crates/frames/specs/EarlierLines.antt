-- Lines of kind 02 as they were before T-04 (document 02), with one price for an addition. Such a line has 18 bytes, and now gets 2
-- (`earlier_refused`). With its s written twice it gets the reply that it got then (`s_twice_reply`), in which a and b of the largest
-- part stand since T-06.
--
-- In this order: the definitions, for these laws alone; a line with the same s2 and s3 (`one_price_reply`); an earlier line.
use Rattle.std.specs.Prelude.{Some, Ok}
use Rattle.std.specs.Prelude.{◌≡◌, true, List, ◌++◌, ℕ, ◌+◌, ◌*◌, ◌≤◌, take, drop}
use Rattle.std.proofs.Math.Path.{refl, sym, ap}
use Rattle.std.proofs.Common.{◌∙◌, arith, length-append, length-drop, take-append-drop}
use Rattle.std.proofs.Math.Bool.{and-eq-true_iff}
use Rattle.std.proofs.Math.ListN.{length}
use Rattle.chains.specs.Chains.{Part}
use Rattle.chains.specs.Best.{Prices, price}
use Rattle.chains.specs.OnePrice.{earlier_price, s_for_both}
use Rattle.refusals.specs.declared.Refusal.TheVariants.{BadLength}
use Rattle.ranking.specs.Services.{Outcome, refused, gives}
use Rattle.best.specs.Chosen.{best_outcome}
use Rattle.best.specs.Demand3.{one_price_outcome, one_price_given}
use Rattle.digits.specs.Digits.{is_digit, every, all_digits}
use Rattle.digits.proofs.DigitLaws.{every_append}
use Rattle.lines.specs.Kinds.{row_of, kind_of}
use Rattle.lines.specs.declared.Kind.TheVariants.{Best as best_line}
use Rattle.lines.specs.Lines.{field, bytes_in, shape_of, Proper}
use Rattle.lines.proofs.LineLaws.{kind_byte, shape_kind, unfit_kind_length, line_fit}
use Rattle.frames.specs.Replies.{Reply, refused_as, priced_reply, limits_in, prices_in, served, reply_by_shape, reply_to}
use Rattle.frames.specs.ReadBack.{field_after, field_within}
use Rattle.frames.specs.ReplyLaws.{reply_fit}

-- A line of 18 bytes: 02, n (8), K, A, B (1 each), d, t, s (2 each).
pub record EarlierLine (line : List ℕ) : Type 0 where
  pub kind : field line 0 1 ≡ 2
  pub digits : all_digits line ≡ true
  pub long : length line ≡ 36

-- What a chain cost by the line's d, t and s.
abbrev pub earlier_cost : List ℕ → List Part → ℕ
earlier_cost line = earlier_price (field line 12 2) (field line 14 2) (field line 16 2)

-- The reply that the line got, with a and b of the largest part.
abbrev pub earlier_reply : List ℕ → Reply
earlier_reply line = priced_reply (earlier_cost line) (best_outcome (field line 1 8) (limits_in line) (earlier_cost line))

-- The line with its s written twice, for s2 and for s3.
abbrev pub s_twice : List ℕ → List ℕ
s_twice line = line ++ drop 32 line

-- Whole bytes, some and at most 257.
proper : (line : List ℕ) (k : ℕ) → length line ≡ 2 * k → 1 ≤ k → k ≤ 257 → Proper (length line)
proper line k e l m = record { some_there = omega arith; even = omega arith; most = omega arith }

-- ---- the same price for both additions

-- A line of 20 bytes with the same s2 and s3 gets the reply by document 01's price.
module _ (line : List ℕ) (f : shape_of line ≡ Ok best_line) (e : field line 18 2 ≡ field line 16 2) where
  abbrev π : Prices
  π = s_for_both (field line 12 2) (field line 14 2) (field line 16 2)

  same_reply : (o : Outcome) → best_outcome (field line 1 8) (limits_in line) (price π) ≡ o
      → priced_reply (price π) o ≡ priced_reply (earlier_cost line) o
  unfolding priced_reply
  same_reply (refused r) g = refl
  same_reply (gives m c) g =
      rw (one_price_given (field line 1 8) (limits_in line) (field line 12 2) (field line 14 2) (field line 16 2) m c g)

  pub one_price_reply : reply_to line ≡ earlier_reply line
  unfolding served prices_in
  one_price_reply =
      let same = one_price_outcome (field line 1 8) (limits_in line) (field line 12 2) (field line 14 2) (field line 16 2) in
      rw e at (reply_fit line best_line f)
      ∙ same_reply (best_outcome (field line 1 8) (limits_in line) (price π)) refl
      ∙ ap (priced_reply (earlier_cost line)) same

-- ---- an earlier line, as it is and with its s twice

module _ (line : List ℕ) (h : EarlierLine line) where
  is_best : kind_of (field line 0 1) ≡ Some best_line
  unfolding row_of
  is_best = ap kind_of h.kind ∙ kind_byte best_line

  pub earlier_refused : reply_to line ≡ refused_as BadLength
  unfolding reply_to reply_by_shape bytes_in row_of
  earlier_refused =
      let short : length line ≡ 2 * bytes_in best_line line → ⊥ = λ e. omega (arith, h.long) in
      rw (
        shape_kind line (proper line 18 h.long (omega arith) (omega arith)) h.digits,
        unfit_kind_length line (kind_of (field line 0 1)) best_line is_best short,
      )

  length_twice : length (s_twice line) ≡ 40
  length_twice = rw (length-append, length-drop, h.long)

  digits_twice : all_digits (s_twice line) ≡ true
  digits_twice =
      let split = sym (every_append is_digit (take 32 line) (drop 32 line)) ∙ ap (every is_digit) (take-append-drop 32 line) in
      let both = (and-eq-true_iff (every is_digit (take 32 line)) (every is_digit (drop 32 line))).0 (split ∙ h.digits) in
      rw (every_append is_digit line (drop 32 line), h.digits, both.1)

  -- The fields of the earlier line stand where they stood, and s3 is its s.
  kept : (at k : ℕ) → 2 * at + 2 * k ≤ 36 → field (s_twice line) at k ≡ field line at k
  kept at k b = field_within line (drop 32 line) at k (omega (arith, h.long))

  s_repeated : field (s_twice line) 18 2 ≡ field line 16 2
  unfolding field
  s_repeated = field_after 18 0 2 line (drop 32 line) h.long

  fit_twice : shape_of (s_twice line) ≡ Ok best_line
  unfolding bytes_in row_of
  fit_twice =
      line_fit (s_twice line) best_line (record {
        proper = proper (s_twice line) 20 length_twice (omega arith) (omega arith);
        digits = digits_twice;
        kind = ap kind_of (kept 0 1 (omega arith)) ∙ is_best;
        long = omega (arith, length_twice);
      })

  pub s_twice_reply : reply_to (s_twice line) ≡ earlier_reply line
  unfolding limits_in
  s_twice_reply =
      one_price_reply (s_twice line) fit_twice (s_repeated ∙ sym (kept 16 2 (omega arith)))
      ∙ rw (
        kept 1 8 (omega arith),
        kept 9 1 (omega arith),
        kept 10 1 (omega arith),
        kept 11 1 (omega arith),
        kept 12 2 (omega arith),
        kept 14 2 (omega arith),
        kept 16 2 (omega arith),
      )
