-- `back::position_in` meets its contract: the highest bit is the last letter, and the walk goes back from there. A word of the list
-- has at most 40 rises before its last letter.
use Rattle.std.proofs.Common.{◌≡◌, ℕ, ◌-◌, ◌^◌, ◌<◌, List, length, sym, refl, ◌∙◌, arith, rules}
use mathlib.Core.List.{Memᴰ}
use lib.Count.{ones, ones-le}
use Rattle.chains.specs.Words.{Word}
use Rattle.chains.specs.Listing.{list_of, count_before}
use Rattle.lent.specs.LentLaws.{used_on}
use Rattle.words.specs.Packed.{bits, rise}
use Rattle.counting.specs.Table.{CountsFilled}
use Rattle.counting.specs.Back.{TopOf, path_to}
use Rattle.counting.specs.BackLaws.{none_risen, path_of, back_low}
use Rattle.counting.proofs.back.position_in.Goals as goal

abbrev Told : ℕ → ℕ → ℕ → Type 0
Told n rises r = (w : Word) → Memᴰ w (list_of n) → rises ≡ bits rise w → r ≡ count_before w (list_of n)

flat : (n rises : ℕ) → n < 2 ^ 64 → rises ≡ 0 → Told n rises 0
flat n rises f z w m e = sym (none_risen f m (sym e ∙ z))

-- The path without the last letter.
module _ (n rises : ℕ) {bit below : ℕ} (f : n < 2 ^ 64) (t : TopOf rises bit below) where
  too_many : 40 < ones below → Told n rises 0
  too_many h w m e =
      let p = path_of f m (rw e at t) in
      absurd (omega (arith, rw (← p.1) at (back_low f m p.0)))

  along : {r : ℕ} → ((w : Word) → Memᴰ w (list_of n) → 0 < length w → below ≡ path_to w (length w - 1) → r ≡ count_before w (list_of n))
      → Told n rises r
  along told w m e =
      let p = path_of f m (rw e at t) in
      told w m p.0 p.1

both : {n b : ℕ} {entry between l : List ℕ} → CountsFilled n b entry between → CountsFilled n 0 between l → CountsFilled n 0 entry l
both f g = record { rows = g.rows; used = used_on f.used g.used }

pub returns-then-rises-eq0 : goal.returns-then-rises-eq0
returns-then-rises-eq0 c =
    record { value = flat _ _ (search rules) c.if-rises-eq0.true; counts_filled = c.fill_down.ensures }

pub overflow_cast-b : goal.overflow_cast-b
overflow_cast-b c =
    let t = c.top_of-path in omega (arith, ones-le 64 t.result.below (omega (arith, t.ensures.0.less)))

pub returns-then-b-gt40 : goal.returns-then-b-gt40
returns-then-b-gt40 c =
    record { value = too_many _ _ (search rules) c.top_of-path.ensures.0 c.if-b-gt40.true; counts_filled = c.fill_down-then-b-gt40.ensures }

pub walk_back-requires : goal.walk_back-requires
walk_back-requires c =
    record { rows = c.fill_down-2.ensures.rows; rises = refl; low = omega (arith, c.if-b-gt40.false) }

pub returns : goal.returns
returns c =
    record { value = along _ _ (search rules) c.top_of-path.ensures.0 c.walk_back.ensures.value; counts_filled = both c.fill_down-2.ensures c.walk_back.ensures.counts_filled }
