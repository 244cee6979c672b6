-- The two readers, which call on each other. Each reads the next letter and hands what is left to the reader that this letter
-- leads to, so the letters left are the measure of both, and each return is the definition's own line for that letter.
use mathlib.Core.Path.{◌≡◌, refl, ap, ◌∙◌}
use mathlib.Core.Logic.{◌≢◌}
use mathlib.Core.Bool.{Bool, true, false}
use mathlib.Core.List.{◌∷◌}
use Prim.Native.Nat.{ℕ, zero, suc, ◌-◌, ◌≤◌, ◌<◌}
use native.Mathlib.Nat.{sub-zero}
use native.Mathlib.Omega.{arith}
use lib.Dec.{T}
use lib.ListN.{length, drop, get_or}
use lib.Seq.{drop-cons, drop-length}
use Rattle.chains.specs.Words.{Word, some_left, reads}
use Rattle.chains.specs.Listing.{one_if}
use Rattle.words.proofs.readers.+after_a_after_b.Goals as goal

-- ---- what a reader says of the letters left, by the next letter

-- The letters of l of which `left` are left to read.
abbrev rest : Word → ℕ → Word
rest l left = drop (length l - left) l

none_left : (f : Bool) (l : Word) (left : ℕ) → left ≡ 0 → one_if f ≡ one_if (reads f (rest l left))
unfolding reads
none_left f l left e = rw (e, sub-zero, drop-length)

next : (l : Word) (left : ℕ) → left ≤ length l → (left ≡ 0 → ⊥) → rest l left ≡ get_or l (length l - left) 0 ∷ rest l (left - 1)
next l left h s =
    let more : suc (length l - left) ≡ length l - (left - 1) = omega arith in
    drop-cons l (length l - left) 0 (omega arith) ∙ ap (λ n. get_or l (length l - left) 0 ∷ drop n l) more

low : (f : Bool) (x : ℕ) (w : Word) → x < 2 → reads f (x ∷ w) ≡ reads false w
unfolding reads
low f zero w h = refl
low f (suc zero) w h = refl
low f (suc (suc x)) w h = absurd (omega arith)

other : (f : Bool) (x : ℕ) (w : Word) → 2 ≤ x → x ≢ 3 → (T f → x ≢ 2) → reads f (x ∷ w) ≡ false
unfolding reads
other f zero w h n t = absurd (omega arith)
other f (suc zero) w h n t = absurd (omega arith)
other true (suc (suc zero)) w h n t = absurd (t tt refl)
other false (suc (suc zero)) w h n t = refl
other f (suc (suc (suc zero))) w h n t = absurd (n refl)
other f (suc (suc (suc (suc x)))) w h n t = refl

-- What a reader answers, r, by what the reader that it hands the rest to answers.
module _ (l : Word) (left : ℕ) (h : left ≤ length l) (s : left ≡ 0 → ⊥) where
  on_low : (f : Bool) (r : ℕ) → get_or l (length l - left) 0 < 2 → r ≡ one_if (reads false (rest l (left - 1)))
      → r ≡ one_if (reads f (rest l left))
  on_low f r e d = rw (next l left h s, low f (get_or l (length l - left) 0) (rest l (left - 1)) e) d

  on_3 : (f : Bool) (r : ℕ) → get_or l (length l - left) 0 ≡ 3 → r ≡ one_if (reads true (rest l (left - 1)))
      → r ≡ one_if (reads f (rest l left))
  unfolding reads one_if
  on_3 f r e d = rw (next l left h s, e) d

  on_2 : (r : ℕ) → get_or l (length l - left) 0 ≡ 2 → (left ≡ 1 → ⊥) → r ≡ one_if (reads true (rest l (left - 1)))
      → r ≡ one_if (reads true (rest l left))
  unfolding reads some_left one_if
  on_2 r e n d = rw (next l left h s, e, next l (left - 1) (omega arith) (omega arith))
      (rw (next l (left - 1) (omega arith) (omega arith)) at d)

  on_last_2 : get_or l (length l - left) 0 ≡ 2 → left ≡ 1 → 0 ≡ one_if (reads true (rest l left))
  unfolding reads some_left one_if
  on_last_2 e n = rw (next l left h s, e, n, sub-zero, drop-length)

  on_other : (f : Bool) → 2 ≤ get_or l (length l - left) 0 → get_or l (length l - left) 0 ≢ 3
      → (T f → get_or l (length l - left) 0 ≢ 2) → 0 ≡ one_if (reads f (rest l left))
  unfolding one_if
  on_other f a b d = rw (next l left h s, other f (get_or l (length l - left) 0) (rest l (left - 1)) a b d)

-- ---- the functions

pub after_a-returns-then-left-eq0 : goal.after_a-returns-then-left-eq0
unfolding one_if
after_a-returns-then-left-eq0 t c = none_left false c.args.letters.now.now _ c.if-left-eq0.true

pub after_a-returns-in-3 : goal.after_a-returns-in-3
after_a-returns-in-3 t c = on_3 c.args.letters.now.now _ c.requires c.if-left-eq0.false false _ c.in-3.is c.after_b.ensures

pub after_a-returns-in-0-to-1 : goal.after_a-returns-in-0-to-1
after_a-returns-in-0-to-1 t c = on_low c.args.letters.now.now _ c.requires c.if-left-eq0.false false _ (omega arith) c.after_a.ensures

pub after_a-returns-in_default : goal.after_a-returns-in_default
after_a-returns-in_default t c = on_other c.args.letters.now.now _ c.requires c.if-left-eq0.false false (omega arith) (λ e. omega arith) absurd

pub after_b-returns-then-left-eq0 : goal.after_b-returns-then-left-eq0
unfolding one_if
after_b-returns-then-left-eq0 t c = none_left true c.args.letters.now.now _ c.if-left-eq0.true

pub after_b-returns-then-left-eq1 : goal.after_b-returns-then-left-eq1
after_b-returns-then-left-eq1 t c = on_last_2 c.args.letters.now.now _ c.requires c.if-left-eq0.false c.in-2.is c.if-left-eq1.true

pub after_b-returns-else-left-eq1 : goal.after_b-returns-else-left-eq1
after_b-returns-else-left-eq1 t c = on_2 c.args.letters.now.now _ c.requires c.if-left-eq0.false _ c.in-2.is c.if-left-eq1.false c.after_b.ensures

pub after_b-returns-in-3 : goal.after_b-returns-in-3
after_b-returns-in-3 t c = on_3 c.args.letters.now.now _ c.requires c.if-left-eq0.false true _ c.in-3.is c.after_b-in-3.ensures

pub after_b-returns-in-0 : goal.after_b-returns-in-0
after_b-returns-in-0 t c = on_low c.args.letters.now.now _ c.requires c.if-left-eq0.false true _ (omega arith) c.after_a.ensures

pub after_b-returns-in_default : goal.after_b-returns-in_default
after_b-returns-in_default t c = on_other c.args.letters.now.now _ c.requires c.if-left-eq0.false true (omega arith) (λ e. omega arith) (λ _ e. omega arith)
