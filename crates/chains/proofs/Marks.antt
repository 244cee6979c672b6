-- What a letter that a reader takes does, by arithmetic: it marks a part if it is odd; a rises if it is 0 or 1, and b if it is 2 or
-- 3. In order: one letter, and the chain from it on; the parts that a word marks, and that they are as many as its chain has; while
-- letters are left, so is a part.
use Rattle.std.specs.Prelude.{◌≡◌, Bool, true, false, ◌&&◌, List, [], ◌∷◌, ◌++◌, ℕ, zero, suc, ◌+◌, ◌-◌, ◌/◌, ◌%◌, ◌≤◌, ◌<◌, T, length, replicate}
use Rattle.std.proofs.Common.{ap, ◌∙◌, add-zero, add-one, arith, length-append}
use Rattle.std.specs.Float.Ieee.Fits.{and_l, and_r}
use Rattle.std.proofs.lemmas.List.{length-replicate}
use Rattle.chains.specs.Chains.{Part}
use Rattle.chains.specs.Words.{Word, right, up, chain_from, chain_of, some_left, reads}
use Rattle.chains.proofs.Weight.{weight}

-- ---- one letter

-- A letter that a reader takes is at most 3, and one of the two readers takes what follows.
pub taken : (f : Bool) (l : ℕ) (w : Word) → T (reads f (l ∷ w)) → (l ≤ 3) × (g : Bool) × T (reads g w)
unfolding reads
taken f zero w h = (omega arith, false, h)
taken f (suc zero) w h = (omega arith, false, h)
taken f (suc (suc zero)) w h =
    (omega arith, true, and_r (some_left w) (reads true w) (and_r f (some_left w && reads true w) h))
taken f (suc (suc (suc zero))) w h = (omega arith, true, h)
taken f (suc (suc (suc (suc l)))) w h = absurd h

-- The point (a, b).
abbrev pub point : ℕ → ℕ → Part
point a b = record { a = a; b = b }

-- The chain from a letter at the point (a, b) on.
pub chain_step : (a b : ℕ) (met : List Part) (l : ℕ) (w : Word) → l ≤ 3
    → chain_from (point a b) met (l ∷ w) ≡ chain_from (point (a + (1 - l / 2)) (b + l / 2)) (replicate (l % 2) (point a b) ++ met) w
unfolding chain_from right up
chain_step a b met zero w h = cc (add-one a, add-zero b)
chain_step a b met (suc zero) w h = cc (add-one a, add-zero b)
chain_step a b met (suc (suc zero)) w h = cc (add-zero a, add-one b)
chain_step a b met (suc (suc (suc zero))) w h = cc (add-zero a, add-one b)
chain_step a b met (suc (suc (suc (suc l)))) w h = absurd (omega arith)

-- ---- a word

-- How many parts a word marks.
unfoldable pub marks : Word → ℕ
marks [] = 0
marks (l ∷ w) = l % 2 + marks w

marks_from_lem : (f : Bool) (a b : ℕ) (met : List Part) (w : Word) → T (reads f w)
    → length (chain_from (point a b) met w) ≡ length met + marks w
unfolding chain_from marks
marks_from_lem f a b met [] h = omega arith
marks_from_lem f a b met (l ∷ w) h =
    let (low, g, r) = taken f l w h in
    ap length (chain_step a b met l w low) ∙ marks_from_lem g (a + (1 - l / 2)) (b + l / 2) (replicate (l % 2) (point a b) ++ met) w r
    ∙ simp (length-append, length-replicate) (omega arith)

-- They are as many as its chain has.
pub marks_chain : (w : Word) → T (reads true w) → length (chain_of w) ≡ marks w
unfolding chain_of
marks_chain w h = marks_from_lem true 0 0 [] w h ∙ omega arith

-- What a reader takes ends in a part; only the first reader takes nothing.
more_left : (w : Word) → T (reads false w) → T (some_left w)
unfolding reads some_left
more_left [] h = h
more_left (l ∷ w) h = tt

pub part_left : (w : Word) (f : Bool) → T (reads f w) → T (some_left w) → (0 < marks w) × (0 < weight w)
unfolding reads some_left marks weight
part_left [] f h s = absurd s
part_left (zero ∷ w) f h s = omega (arith, part_left w false h (more_left w h))
part_left (suc zero ∷ w) f h s = omega arith
part_left (suc (suc zero) ∷ w) f h s =
    let r : T (some_left w && reads true w) = and_r f (some_left w && reads true w) h in
    omega (arith, part_left w true (and_r (some_left w) (reads true w) r) (and_l (some_left w) (reads true w) r))
part_left (suc (suc (suc zero)) ∷ w) f h s = omega arith
part_left (suc (suc (suc (suc l))) ∷ w) f h s = absurd h
