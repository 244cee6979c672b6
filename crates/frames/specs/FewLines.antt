-- What T-11 means for lines about a number with one chain or with two.
--
-- In this order: the count that a fit line of kind 01 tells; the positions that a fit line of kind 03 may ask for; the chain in the reply
-- to a line of kind 02, for any limits and prices.
use Rattle.std.specs.Prelude.{Ok}
use Rattle.std.specs.Prelude.{◌≡◌, ◌↔◌, ◌⊎◌, List, ℕ, ◌≤◌}
use Rattle.std.proofs.Math.Logic.Iff
use Rattle.std.proofs.Common.{arith}
use Rattle.chains.specs.Listing.{chain_at}
use Rattle.chains.specs.Few.{NamedForOne, NamedForTwo, OnlyChain, OnlyChains}
use Rattle.chains.proofs.FewLaws.{one_chain, two_chains}
use Rattle.chains.proofs.FewLists.{only_chain, only_chains}
use Rattle.refusals.specs.declared.Refusal.TheVariants.{NoSuchPosition}
use Rattle.lines.specs.declared.Kind.TheVariants.{Count as count_line, At as at_line}
use Rattle.lines.specs.Lines.{field, shape_of}
use Rattle.frames.specs.ReplyDigits.{single_digits}
use Rattle.frames.specs.Replies.{refused_as, served_with, reply_to}
use Rattle.frames.specs.BestLines.{BestReply}
use Rattle.frames.specs.CountLines.{count_told, past_told}

module _ (line : List ℕ) where
  -- The number of the line.
  abbrev n : ℕ
  n = field line 1 8

  -- Kind 01 tells 1 exactly for the numbers named for one chain, and 2 exactly for those named for two.
  pub one_told : shape_of line ≡ Ok count_line → (reply_to line ≡ served_with (single_digits 1)) ↔ NamedForOne n
  one_told f = Iff.trans (count_told line 1 f (omega arith)) (one_chain n)

  pub two_told : shape_of line ≡ Ok count_line → (reply_to line ≡ served_with (single_digits 2)) ↔ NamedForTwo n
  two_told f = Iff.trans (count_told line 2 f (omega arith)) (two_chains n)

  -- Kind 03 refuses their positions from 1 on, and from 2 on.
  pub one_past : shape_of line ≡ Ok at_line → NamedForOne n → (reply_to line ≡ refused_as NoSuchPosition) ↔ (1 ≤ field line 9 8)
  one_past f o = let e = (one_chain n).1 o in Iff.trans (past_told line f) (λ l. omega arith, λ l. omega arith)

  pub two_past : shape_of line ≡ Ok at_line → NamedForTwo n → (reply_to line ≡ refused_as NoSuchPosition) ↔ (2 ≤ field line 9 8)
  two_past f t = let e = (two_chains n).1 t in Iff.trans (past_told line f) (λ l. omega arith, λ l. omega arith)

  -- Kind 02, where it is served (`best_served`), gives the only chain, or one of the only two.
  pub no_choice : (ds : List ℕ) (b : BestReply line ds) → NamedForOne n → b.chain ≡ chain_at n 0
  unfolding OnlyChain
  no_choice ds b o = ((only_chain n).0 o).1 b.chain b.best.chain

  pub one_of_two : (ds : List ℕ) (b : BestReply line ds) → NamedForTwo n → (b.chain ≡ chain_at n 0) ⊎ (b.chain ≡ chain_at n 1)
  unfolding OnlyChains
  one_of_two ds b t = ((only_chains n).0 t).3 b.chain b.best.chain
