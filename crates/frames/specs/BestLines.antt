-- Demand 3, line by line: a fit line of kind 02 is served with the best chain of its n within its limits, by its prices, and the
-- price; it is refused with 5 exactly where no chain is within the limits, and with nothing else.
--
-- In this order: served and refused (`best_served`, `best_refused`); what the reply is read back as, and what it leads to, as
-- demand 2 asks.
use Rattle.std.specs.Prelude.{Ok}
use Rattle.std.specs.Prelude.{◌≡◌, ◌↔◌, List, ◌++◌, map, ℕ, ◌+◌, ◌*◌, length}
use Rattle.std.proofs.Math.Path.{refl, sym}
use Rattle.std.proofs.Common.{◌∙◌, arith}
use Rattle.chains.specs.Chains.{Part}
use Rattle.chains.specs.Listing.{position}
use Rattle.chains.specs.Best.{price, NoneFits, IsBest}
use Rattle.chains.proofs.PriceLaws.{price_fits}
use Rattle.refusals.specs.declared.Refusal.{Refusal}
use Rattle.refusals.specs.declared.Refusal.TheVariants.{NoChainFits}
use Rattle.parts.specs.Parts.{part_number}
use Rattle.ranking.specs.Services.{Outcome, refused, gives}
use Rattle.best.specs.Chosen.{best_outcome}
use Rattle.best.specs.KeyTable.{Cheap}
use Rattle.best.specs.Demand3.{given_is_best, refused_none}
use Rattle.digits.specs.Digits.{digits_of}
use Rattle.lines.specs.declared.Kind.TheVariants.{Best as best_line}
use Rattle.lines.specs.Lines.{field, shape_of}
use Rattle.lines.proofs.LineLaws.{field_below}
use Rattle.frames.specs.ReplyDigits.{chain_digits, priced_digits, numbers_at}
use Rattle.frames.specs.ReadBack.{ChainRead, price_read}
use Rattle.frames.specs.Replies.{refused_as, served_with, priced_reply, limits_in, prices_in, served, reply_to}
use Rattle.frames.specs.ServedLaws.{best_number, best_five, number_low}
use Rattle.frames.specs.ReplyLaws.{reply_fit, reply_read}
use Rattle.frames.specs.LineTrips.{Leads, chain_leads}

-- The best chain that the line asks for, and the digits of its reply.
pub record BestReply (line ds : List ℕ) : Type 0 where
  pub chain : List Part
  pub best : IsBest (field line 1 8) (limits_in line) (price (prices_in line)) chain
  pub digits : ds ≡ priced_digits (field line 1 8) (position (field line 1 8) chain) (map part_number chain) (price (prices_in line) chain)

abbrev asked : List ℕ → Outcome
asked line = best_outcome (field line 1 8) (limits_in line) (price (prices_in line))

module _ (line : List ℕ) (f : shape_of line ≡ Ok best_line) where
  reply : reply_to line ≡ priced_reply (price (prices_in line)) (asked line)
  unfolding served
  reply = reply_fit line best_line f

  is_best : (c : List Part) → (asked line ≡ gives (field line 1 8) c) ↔ IsBest (field line 1 8) (limits_in line) (price (prices_in line)) c
  is_best = given_is_best (field line 1 8) (limits_in line) (prices_in line)

  none_fits : (asked line ≡ refused NoChainFits) ↔ NoneFits (field line 1 8) (limits_in line)
  none_fits = refused_none (field line 1 8) (limits_in line) (prices_in line)

  pub best_served : (ds : List ℕ) → (reply_to line ≡ served_with ds) ↔ BestReply line ds
  unfolding priced_reply
  best_served ds = (there, λ b. reply ∙ rw ((is_best b.chain).1 b.best, b.digits))
    where
      there : reply_to line ≡ served_with ds → BestReply line ds
      there e = go (asked line) refl
        where
          told : priced_reply (price (prices_in line)) (asked line) ≡ served_with ds
          told = sym reply ∙ e

          go : (o : Outcome) → asked line ≡ o → BestReply line ds
          go (refused r) g =
              let z : ◌≡◌ {A = ℕ} 0 1 = cc (rw g at told) in
              absurd (omega arith)
          go (gives m c) g =
              let same = best_number (field line 1 8) (limits_in line) (prices_in line) m c g in
              let h = rw same at g in
              record { chain = c; best = (is_best c).0 h; digits = cc (rw h at told) }

  pub best_refused : (r : Refusal) → (reply_to line ≡ refused_as r) ↔ ((r ≡ NoChainFits) × NoneFits (field line 1 8) (limits_in line))
  unfolding priced_reply
  best_refused r = (there, λ n. reply ∙ rw (none_fits.1 n.1, n.0))
    where
      there : reply_to line ≡ refused_as r → (r ≡ NoChainFits) × NoneFits (field line 1 8) (limits_in line)
      there e = go (asked line) refl
        where
          told : priced_reply (price (prices_in line)) (asked line) ≡ refused_as r
          told = sym reply ∙ e

          go : (o : Outcome) → asked line ≡ o → (r ≡ NoChainFits) × NoneFits (field line 1 8) (limits_in line)
          go (refused q) g =
              let none = best_five (field line 1 8) (limits_in line) (prices_in line) q g in
              (cc (rw g at told), none_fits.0 (rw none at g))
          go (gives m c) g =
              let z : ◌≡◌ {A = ℕ} 0 1 = cc (rw g at told) in
              absurd (omega arith)

-- ---- what the reply is read back as, and leads to

prices_cheap : (line : List ℕ) → Cheap (prices_in line)
unfolding prices_in
prices_cheap line =
    record {
      d = omega (arith, field_below line 12 2);
      t = omega (arith, field_below line 14 2);
      s2 = omega (arith, field_below line 16 2);
      s3 = omega (arith, field_below line 18 2);
    }

module _ (line ds : List ℕ) (b : BestReply line ds) where
  pub best_read : ChainRead (field line 1 8) (position (field line 1 8) b.chain) (map part_number b.chain) ds
      × (field ds (numbers_at + 2 * length (map part_number b.chain)) 4 ≡ price (prices_in line) b.chain)
  unfolding priced_digits
  best_read =
      let n = field line 1 8 in
      let c = b.chain in
      let cheap = prices_cheap line in
      let low = price_fits n (prices_in line) (number_low line 1) cheap.d cheap.t cheap.s2 cheap.s3 c b.best.chain in
      let cost = price (prices_in line) c in
      rw b.digits (
        reply_read n c (digits_of 8 cost) b.best.chain (number_low line 1),
        price_read n (position n c) (map part_number c) cost low,
      )

  -- Without the price's digits the reply leads to the lines of kinds 03 and 04 about its chain.
  pub best_leads : (es : List ℕ) × (cost : ℕ) × (ds ≡ es ++ digits_of 8 cost) × Leads es
  unfolding priced_digits
  best_leads = (
    chain_digits (field line 1 8) (position (field line 1 8) b.chain) (map part_number b.chain),
    price (prices_in line) b.chain,
    b.digits,
    chain_leads (field line 1 8) b.chain b.best.chain (number_low line 1),
  )
