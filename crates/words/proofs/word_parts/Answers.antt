-- The tests in the order of the refusals: the places, and then what packing the letters answers. The two numbers of a word hold its
-- chain.
use Rattle.std.proofs.Common.{Result}
use Rattle.std.proofs.Common.{Ok, Err}
use mathlib.Core.Path.{◌≡◌, refl, sym, ◌∙◌}
use mathlib.Core.Logic.{⊎_elim}
use mathlib.Core.Bool.{true, false}
use mathlib.Core.List.{List}
use Prim.Native.Nat.{ℕ, ◌^◌, ◌≤◌, ◌<◌}
use native.Mathlib.Omega.{arith}
use lib.ListN.{length}
use borrow.Author.Tests.{lt-ltb, le-ltb}
use Rattle.chains.specs.Chains.{total}
use Rattle.chains.specs.Words.{Word, reads, chain_of}
use Rattle.refusals.specs.declared.Refusal.TheVariants.{LittleLent}
use Rattle.refusals.specs.declared.Refusal.{Refusal}
use Rattle.refusals.specs.declared.Refusal.TheVariants.{BadWord, TooLarge}
use Rattle.words.specs.declared.Packed.{Packed}
use Rattle.words.specs.declared.Parted.{Parted}
use Rattle.words.specs.Conversions.{chain_summed, parted_of, numbers_left}
use Rattle.words.specs.Packed.{packed_letters, packed_chain, parts_left}
use Rattle.words.specs.PackedLaws.{packed_chain_lem, packed_letters_lem, letters_refused}
use Rattle.words.specs.WordLaws.{word_parted}
use Rattle.std.proofs.lemmas.Result.{err_from_is_err_and}
use Rattle.words.proofs.word_parts.Goals as goal

-- The answer r, and the places l at exit.
abbrev Told : Word → List ℕ → Result Parted Refusal → List ℕ → Type 0
Told w entry r l = (r ≡ parted_of w (length entry)) × (l ≡ numbers_left w entry (parted_of w (length entry)))

module _ (w : Word) (entry : List ℕ) where
  untouched : (r : Refusal) → parted_of w (length entry) ≡ Err r → Told w entry (Err r) entry
  unfolding numbers_left
  untouched r e = (sym e, rw e refl)

  few : length entry < 64 → Told w entry (Err LittleLent) entry
  unfolding parted_of
  few h = untouched LittleLent (rw (lt-ltb (length entry) 64 h))

  module _ (room : 64 ≤ length entry) where
    refused : (r : Refusal) → packed_letters w ≡ Err r → Told w entry (Err r) entry
    unfolding parted_of
    refused r e =
        untouched r
        (⊎_elim
        (λ (h : (r ≡ BadWord) × (reads true w ≡ false)). rw (le-ltb (length entry) 64 room, h.0, h.1))
        (λ (h : (r ≡ TooLarge) × (reads true w ≡ true) × (2 ^ 64 ≤ total (chain_of w))).
        rw (le-ltb (length entry) 64 room, h.0, h.1, le-ltb (total (chain_of w)) (2 ^ 64) h.2))
        (letters_refused w r e))

    chain : (p : Packed) (k : ℕ) (l : List ℕ) → packed_letters w ≡ Ok p → k ≡ length (packed_chain p.rises p.marks)
        → l ≡ parts_left p.rises p.marks entry → Told w entry (Ok (record { n = p.n; k = k })) l
    unfolding parts_left chain_summed
    chain p k l e count left =
        let q = packed_letters_lem w p e in
        let held : packed_chain p.rises p.marks ≡ chain_of w = rw (q.rising, q.marking) (packed_chain_lem w q.good q.few) in
        let (told, numbers) = word_parted entry room w q.good (omega (arith, q.number, q.fits)) in
        (rw (q.number, count, held) (sym told), rw (le-ltb (length entry) 64 room, held) at left ∙ sym numbers)

pub returns-then-places-lt64 : goal.returns-then-places-lt64
returns-then-places-lt64 c =
    let told = (few _ c.args.places.now c.if-places-lt64.true) in
    record { answer = told.0; places = told.1 }

pub returns-in_err-word : goal.returns-in_err-word
returns-in_err-word c =
    let p = err_from_is_err_and c.from_residual.result c.from_residual.ensures.1 in
    let told = refused _ c.args.places.now c.if-places-lt64.false _ (sym c.pack_letters.ensures ∙ c.in_err-word.was) in
    rw (p.1, p.2) (record { answer = told.0; places = told.1 })

pub returns : goal.returns
returns c =
    let told = chain _ c.args.places.now c.if-places-lt64.false _ _ _ (sym c.pack_letters.ensures ∙ c.in_ok-word.was)
    c.put_parts-k.ensures.answer c.put_parts-k.ensures.places in
    record { answer = told.0; places = told.1 }
