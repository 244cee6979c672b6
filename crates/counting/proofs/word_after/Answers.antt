-- `word_after` meets its contract: the walk back leaves the rows of n, and the word behind the position is found in them.
use Rattle.std.proofs.Common.{Ok}
use Rattle.std.proofs.Common.{◌≡◌, ap, refl, ℕ, ◌+◌, ◌%◌, ◌^◌, ◌<◌, sym, ◌∙◌, mod-eq_of_lt, arith, rules}
use mathlib.Core.List.{Memᴰ}
use Rattle.chains.specs.Words.{Word}
use Rattle.chains.specs.Listing.{list_of, count_before}
use Rattle.lent.specs.Lent.{filled, zeros}
use Rattle.lent.specs.LentLaws.{served_zeroed, refused_untouched}
use Rattle.counting.specs.RankedLaws.{list_served, list_refused, next_fits}
use Rattle.counting.proofs.word_after.Goals as goal

next : {n position i : ℕ} (w : Word) → n < 2 ^ 64 → Memᴰ w (list_of n) → position ≡ count_before w (list_of n)
    → i ≡ (position + 1) % 2 ^ 64 → i ≡ count_before w (list_of n) + 1
next {n} w f m e d = d ∙ rw e (mod-eq_of_lt (next_fits n w f m))

pub returns-in_default : goal.returns-in_default
returns-in_default c =
    let h = c.in_default.ensures.cases in
    record { next_told = record { position = 0; answer = sym (list_refused _ h _); exact = λ g w m e. absurd (omega arith) }; scratch_after = sym (refused_untouched _ h) }

pub listed_at-requires : goal.listed_at-requires
listed_at-requires c =
    c.position_in-position.ensures.counts_filled.rows

pub returns : goal.returns
unfolding filled zeros
returns c =
    let h = c.in-Some.ensures.cases.enough in record {
      next_told = record {
        position = (c.position_in-position.result + 1) % 2 ^ 64;
        answer = ap Ok c.listed_at.ensures.value ∙ sym (list_served _ h _);
        exact = λ g w m e. next w (search rules) m (c.position_in-position.ensures.value w m e) refl;
      };
      scratch_after = rw c.listed_at.ensures.scratch_after (sym (served_zeroed _ h));
    }
