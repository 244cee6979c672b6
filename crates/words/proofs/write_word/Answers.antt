-- The answer goes by the places and then by what the record gets; the letters are written only where the record has a word.
use Rattle.std.proofs.Common.{Result, Ok, Err}
use mathlib.Core.Path.{◌≡◌, refl, sym, ap, ◌∙◌}
use mathlib.Core.List.{List}
use Prim.Native.Nat.{ℕ, ◌≤◌, ◌<◌}
use lib.ListN.{length}
use borrow.Author.Tests.{lt-ltb, le-ltb}
use Rattle.chains.specs.Words.{word_of}
use Rattle.refusals.specs.declared.Refusal.{Refusal}
use Rattle.refusals.specs.declared.Refusal.TheVariants.{LittleLent}
use Rattle.parts.specs.Codes.{codes}
use Rattle.lent.specs.Lent.{filled}
use Rattle.words.specs.Records.{record_parts, judged_of}
use Rattle.words.specs.RecordLaws.{judged_sum}
use Rattle.words.specs.Conversions.{letters_of, written_of, letters_left}
use Rattle.words.specs.Walks.{Writable}
use Rattle.std.proofs.lemmas.Result.{err_from_is_err_and}
use Rattle.words.proofs.write_word.Goals as goal

-- l is the record, s the places at entry.
module _ (l s : List ℕ) where
  -- The answer x and the places r.
  left_by : (x : Result ℕ Refusal) (r : List ℕ) → written_of l (length s) ≡ x → r ≡ letters_left l s x
      → (x ≡ written_of l (length s)) × (r ≡ letters_left l s (written_of l (length s)))
  left_by x r e d = (sym e, d ∙ ap (λ y. letters_left l s y) (sym e))

  few : length s < 64 → (Err LittleLent ≡ written_of l (length s)) × (s ≡ letters_left l s (written_of l (length s)))
  unfolding written_of letters_left
  few h = left_by (Err LittleLent) s (rw (written_of, lt-ltb (length s) 64 h)) refl

  module _ (room : 64 ≤ length s) where
    answer : written_of l (length s) ≡ letters_of l (judged_of l)
    unfolding written_of
    answer = rw (written_of, le-ltb (length s) 64 room)

    refused : (r : Refusal) → judged_of l ≡ Err r
        → (Err r ≡ written_of l (length s)) × (s ≡ letters_left l s (written_of l (length s)))
    unfolding letters_of letters_left
    refused r e = left_by (Err r) s (answer ∙ rw e refl) refl

    module _ (n : ℕ) (e : judged_of l ≡ Ok n) where
      able : (t : List ℕ) → t ≡ codes → Writable t l (length s)
      able t d =
          let b = (judged_sum l n).0 e in
          record { is_codes = d; burned = rw b.chain.sums b; room = room }

      lettered : (k : ℕ) (r : List ℕ) → k ≡ length (word_of (record_parts l)) → r ≡ filled 64 (word_of (record_parts l)) s
          → (Ok k ≡ written_of l (length s)) × (r ≡ letters_left l s (written_of l (length s)))
      unfolding letters_of letters_left
      lettered k r dk dr = left_by (Ok k) r (answer ∙ rw (e, dk) refl) dr

pub returns-then-places-lt64 : goal.returns-then-places-lt64
returns-then-places-lt64 c =
    let told = (few _ c.args.places.now c.if-places-lt64.true) in
    record { answer = told.0; places = told.1 }

pub write_letters-requires : goal.write_letters-requires
write_letters-requires c = able _ c.args.places.now c.if-places-lt64.false _ (sym c.judge.ensures ∙ c.in_ok-judge.was) _ c.copy-codes.ensures

pub returns-in_err-judge : goal.returns-in_err-judge
returns-in_err-judge c =
    let p = err_from_is_err_and c.from_residual.result c.from_residual.ensures.1 in
    let told = refused _ c.args.places.now c.if-places-lt64.false _ (sym c.judge.ensures ∙ c.in_err-judge.was) in
    rw (p.1, p.2) (record { answer = told.0; places = told.1 })

pub returns : goal.returns
returns c =
    let told = lettered _ _ c.if-places-lt64.false _ (sym c.judge.ensures ∙ c.in_ok-judge.was)
    _ _ c.write_letters.ensures.value c.write_letters.ensures.places_after in
    record { answer = told.0; places = told.1 }
