-- The tests in the order of the refusals, each as the function before it answers; a word that passes both has at most 64 letters.
use Rattle.std.proofs.Common.{Option, ok_or, ap, Ok}
use Rattle.std.proofs.Common.{Some, None, Err}
use mathlib.Core.Path.{◌≡◌, sym, ◌∙◌}
use mathlib.Core.Bool.{Bool, true, false}
use Prim.Native.Nat.{ℕ, ◌^◌, ◌<◌}
use native.Mathlib.Omega.{arith}
use borrow.Author.Tests.{lt-ltb, le-ltb}
use Rattle.chains.specs.Chains.{total}
use Rattle.chains.specs.Words.{Word, reads, chain_of}
use Rattle.refusals.specs.declared.Refusal.TheVariants.{BadWord, TooLarge}
use Rattle.refusals.specs.declared.Refusal.{Refusal}
use Rattle.words.specs.Answers.{weighed_of}
use Rattle.words.specs.Packed.{bits, rise, mark, packed_word, packed_letters}
use Rattle.words.specs.PackedLaws.{letters_low}
use Rattle.words.specs.declared.Packed.{Packed}
use Rattle.words.proofs.Sized.{number_is, over_is}
use Rattle.std.proofs.lemmas.Result.{err_from_is_err_and}
use Rattle.words.proofs.pack_letters.Goals as goal

-- g is the readers' answer.
module _ (w : Word) (g : Bool) (read : g ≡ reads true w) where
  bad : g ≡ false → Err BadWord ≡ packed_letters w
  unfolding packed_letters
  bad e = rw (sym read ∙ e)

  module _ (good : g ≡ true) where
    over : None ≡ weighed_of w → Err TooLarge ≡ packed_letters w
    unfolding packed_letters weighed_of
    over e = rw (sym read ∙ good, le-ltb (total (chain_of w)) (2 ^ 64) (over_is (total (chain_of w)) e))

    module _ (n : ℕ) (e : Some n ≡ weighed_of w) (f : n < 2 ^ 64) where
      same : n ≡ total (chain_of w)
      unfolding weighed_of
      same = number_is (total (chain_of w)) n e

      low : (bits rise w < 2 ^ 64) × (bits mark w < 2 ^ 64)
      low = letters_low w (rw (sym read ∙ good) tt) (omega (arith, same))

      word : (r : Packed) → r ≡ packed_word n w → Ok r ≡ packed_letters w
      unfolding packed_letters
      word r d = rw (sym read ∙ good, lt-ltb (total (chain_of w)) (2 ^ 64) (omega (arith, same)), ← same) (ap Ok d)

    refused : (o : Option ℕ) → o ≡ weighed_of w → (r : Refusal) → ok_or o TooLarge ≡ Err r → Err r ≡ packed_letters w
    refused (Some n) e r d = let z : ◌≡◌ {A = ℕ} 0 1 = cc in absurd (omega arith)
    refused None e r d = let same : TooLarge ≡ r = cc in rw same at (over e)

-- What the weighing found.
told : (n : ℕ) (w : Word) {o : Option ℕ} → o ≡ weighed_of w → ok_or o TooLarge ≡ Ok n → Some n ≡ weighed_of w
told n w {o = Some m} e d = let same : m ≡ n = cc in rw same at e
told n w {o = None} e d = let z : ◌≡◌ {A = ℕ} 0 1 = cc in absurd (omega arith)

pub returns-then-not-is_good : goal.returns-then-not-is_good
returns-then-not-is_good c =
    bad _ _ c.is_good.ensures c.if-not-is_good.true

pub returns-in_err-n : goal.returns-in_err-n
returns-in_err-n c =
    let p = err_from_is_err_and c.from_residual.result c.from_residual.ensures.1 in
    rw (p.1, p.2) (refused _ _ c.is_good.ensures c.if-not-is_good.false _ c.weigh.ensures _ (sym c.ok_or.ensures.value ∙ c.in_err-n.was))

pub pack_all-requires : goal.pack_all-requires
pack_all-requires c =
    low _ _ c.is_good.ensures c.if-not-is_good.false c.in_ok-n.n (told c.in_ok-n.n _ c.weigh.ensures (sym c.ok_or.ensures.value ∙ c.in_ok-n.was)) (omega arith)

pub returns : goal.returns
returns c =
    word _ _ c.is_good.ensures c.if-not-is_good.false _ (told c.in_ok-n.n _ c.weigh.ensures (sym c.ok_or.ensures.value ∙ c.in_ok-n.was)) (omega arith) _ c.pack_all.ensures
