-- The two numbers hold the letters from place i on: this is the invariant. These are part of the word's bits, which fit in 64.
use mathlib.Core.Path.{◌≡◌, refl, ap, ◌∙◌}
use mathlib.Core.List.{[], ◌∷◌}
use Prim.Native.Nat.{ℕ, zero, suc, ◌+◌, ◌-◌, ◌*◌, ◌^◌, ◌≤◌, ◌<◌}
use native.Mathlib.Nat.{le_refl}
use native.Mathlib.Omega.{arith}
use lib.ListN.{length, drop, get_or, drop_of_length-le}
use lib.Seq.{drop-cons}
use Rattle.chains.specs.Words.{Word}
use Rattle.words.specs.Packed.{bits, rise, mark, PackedAs, packed_word}
use Rattle.words.proofs.packing.pack_all.Goals as goal

bits_drop : (f : ℕ → ℕ) (i : ℕ) (w : Word) → bits f (drop i w) ≤ bits f w
unfolding bits
bits_drop f zero w = le_refl (bits f w)
bits_drop f (suc i) [] = le_refl 0
bits_drop f (suc i) (l ∷ w) = omega (arith, bits_drop f i w)

-- One letter more, the one before place i, with either of its bits.
module _ (f : ℕ → ℕ) (w : Word) (i : ℕ) (h : 0 < i) (g : i ≤ length w) where
  more : 2 * bits f (drop i w) + f (get_or w (i - 1) 0) ≡ bits f (drop (i - 1) w)
  unfolding bits
  more =
      let back : suc (i - 1) ≡ i = omega arith in
      let here = drop-cons w (i - 1) 0 (omega arith) ∙ ap (λ j. get_or w (i - 1) 0 ∷ drop j w) back in
      omega (arith, ap (bits f) here)

  fit : (held : ℕ) → held ≡ bits f (drop i w) → bits f w < 2 ^ 64 → 2 * held + f (get_or w (i - 1) 0) < 2 ^ 64
  fit held e low = rw (e, more) (omega (arith, bits_drop f (i - 1) w))

none : (w : Word) (i : ℕ) → i ≡ length w → PackedAs (drop i w) 0 0
unfolding bits
none w i e = let all : length w ≤ i = omega arith in rw (drop_of_length-le w all) (record { rising = refl; marking = refl })

next : (w : Word) (i rises marks : ℕ) → 0 < i → i ≤ length w → PackedAs (drop i w) rises marks
    → PackedAs (drop (i - 1) w) (2 * rises + rise (get_or w (i - 1) 0)) (2 * marks + mark (get_or w (i - 1) 0))
next w i rises marks h g p =
    record { rising = rw p.rising (more rise w i h g); marking = rw p.marking (more mark w i h g) }

whole : (w : Word) (i n rises marks : ℕ) → i ≤ 0 → PackedAs (drop i w) rises marks
    → record { n = n; rises = rises; marks = marks; letters = length w } ≡ packed_word n w
unfolding packed_word
whole w i n rises marks h p =
    let z : i ≡ 0 = omega arith in
    let q : PackedAs w rises marks = rw z at p in
    rw (q.rising, q.marking)

-- Both numbers fit with one letter more.
known : (w : Word) (i rises marks : ℕ) → 0 < i → i ≤ length w → PackedAs (drop i w) rises marks
    → (bits rise w < 2 ^ 64) × (bits mark w < 2 ^ 64)
    → (2 * rises + rise (get_or w (i - 1) 0) < 2 ^ 64) × (2 * marks + mark (get_or w (i - 1) 0) < 2 ^ 64)
known w i rises marks h g p low = (fit rise w i h g rises p.rising low.0, fit mark w i h g marks p.marking low.1)

pub loop-i-init : goal.loop-i-init
loop-i-init c = none c.args.letters.now _ refl

pub overflow_mul-rises : goal.overflow_mul-rises
overflow_mul-rises c = omega (arith, known c.args.letters.now _ _ _ c.loop-i-test.true c.loop-i.auto.i c.loop-i.invariant c.requires)

pub overflow_add-rises : goal.overflow_add-rises
overflow_add-rises c = omega (arith, known c.args.letters.now _ _ _ c.loop-i-test.true c.loop-i.auto.i c.loop-i.invariant c.requires)

pub overflow_mul-marks : goal.overflow_mul-marks
overflow_mul-marks c = omega (arith, known c.args.letters.now _ _ _ c.loop-i-test.true c.loop-i.auto.i c.loop-i.invariant c.requires)

pub overflow_add-marks : goal.overflow_add-marks
overflow_add-marks c = omega (arith, known c.args.letters.now _ _ _ c.loop-i-test.true c.loop-i.auto.i c.loop-i.invariant c.requires)

pub loop-i-preserved : goal.loop-i-preserved
loop-i-preserved c =
    rw (c.from.ensures, c.from-in-loop-i.ensures) (next _ _ _ _ c.loop-i-test.true c.loop-i.auto.i c.loop-i.invariant)

pub returns : goal.returns
returns c = whole _ _ _ _ _ c.loop-i-test.false c.loop-i.invariant
