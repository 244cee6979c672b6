-- The two readers take exactly the good words.
-- In order: what each reader takes; a spelled word by its first letter and the letters after it; the readers, both at once; the
-- theorem of record. The readers and good words are defined in Words.
use Rattle.std.specs.Prelude.{◌≡◌, refl, ◌↔◌, ◌≢◌, Bool, true, false, ◌&&◌, [], ◌∷◌, ℕ, zero, suc, ◌+◌, ◌-◌, ◌≤◌, ◌<◌, T, length, get_or}
use Rattle.std.proofs.Common.{sym, ap, ◌∙◌, inl, inr, ⊎_elim, suc-add, sub-one, arith}
use Rattle.std.proofs.Math.Logic.Iff
use Rattle.chains.specs.Words.{Word, Spelled, Good, some_left, reads}

-- What a reader takes: the first one the good words, the one after a has risen those that are not empty and do not begin with 2.
Taken : Bool → Word → Type 0
Taken true w = Good w
Taken false w = Spelled w × (get_or w 0 0 ≢ 2)

-- ---- a spelled word by its first letter

-- No letter k with a letter 2 after it.
abbrev Parted : ℕ → Word → Type 0
Parted k w = (i : ℕ) → i + 1 < length w → get_or w i 0 ≡ k → get_or w (i + 1) 0 ≡ 2 → ⊥

parted_cons : (k l : ℕ) (w : Word) → (l ≡ k → get_or w 0 0 ≢ 2) → Parted k w → Parted k (l ∷ w)
parted_cons k l w h p zero b e t = h e t
parted_cons k l w h p (suc i) b e t = p i (omega arith) e (rw suc-add at t)

parted_rest : (k l : ℕ) (w : Word) → Parted k (l ∷ w) → Parted k w
parted_rest k l w p i b e t = p (suc i) (omega arith) e (rw suc-add t)

last_cons : (l x : ℕ) (w : Word) → get_or (l ∷ x ∷ w) (length (l ∷ x ∷ w) - 1) 0 ≡ get_or (x ∷ w) (length (x ∷ w) - 1) 0
last_cons l x w = simp sub-one

not_empty : Spelled [] → ⊥
not_empty s = omega (arith, s.ends)

-- A letter before a spelled word.
spelled_cons : (l : ℕ) (w : Word) → l ≤ 3 → (l ≤ 1 → get_or w 0 0 ≢ 2) → Spelled w → Spelled (l ∷ w)
spelled_cons l w h n s =
    record {
      letters = letters;
      ends = ends w s;
      no_02 = parted_cons 0 l w (λ e. n (omega arith)) s.no_02;
      no_12 = parted_cons 1 l w (λ e. n (omega arith)) s.no_12;
    }
  where
    letters : (i : ℕ) → i < length (l ∷ w) → get_or (l ∷ w) i 0 ≤ 3
    letters zero b = h
    letters (suc i) b = s.letters i (omega arith)

    ends : (v : Word) → Spelled v → get_or (l ∷ v) (length (l ∷ v) - 1) 0 ≡ 3
    ends [] r = absurd (not_empty r)
    ends (x ∷ v) r = last_cons l x v ∙ r.ends

-- A spelled word without its first letter.
spelled_rest : (l x : ℕ) (w : Word) → Spelled (l ∷ x ∷ w) → Spelled (x ∷ w)
spelled_rest l x w s =
    record {
      letters = λ i b. s.letters (suc i) (omega arith);
      ends = sym (last_cons l x w) ∙ s.ends;
      no_02 = parted_rest 0 l (x ∷ w) s.no_02;
      no_12 = parted_rest 1 l (x ∷ w) s.no_12;
    }

alone_3 : Spelled (3 ∷ [])
alone_3 = record { letters = letters; ends = refl; no_02 = λ i b. absurd (omega arith); no_12 = λ i b. absurd (omega arith) }
  where
    letters : (i : ℕ) → i < 1 → get_or (3 ∷ []) i 0 ≤ 3
    letters zero b = omega arith
    letters (suc i) b = absurd (omega arith)

-- ---- the readers

spelled_good : (l : ℕ) (w : Word) → Spelled (l ∷ w) ↔ Good (l ∷ w)
unfolding Good
spelled_good l w = (inr, ⊎_elim (λ (e : l ∷ w ≡ []). absurd (omega (arith, ap length e))) (λ (s : Spelled (l ∷ w)). s))

-- At a letter other than 2 both readers take the same words.
spelled_taken : (f : Bool) (l : ℕ) (w : Word) → l ≢ 2 → Spelled (l ∷ w) ↔ Taken f (l ∷ w)
unfolding Taken
spelled_taken true l w h = spelled_good l w
spelled_taken false l w h = (λ s. (s, h), λ s. s.0)

-- What may follow each letter: after 0 or 1 what the second reader takes, after 3 what the first does, and after 2 the same
-- unless it is empty.
at_a : (f : Bool) (l : ℕ) (w : Word) → l ≤ 1 → Taken false w ↔ Taken f (l ∷ w)
unfolding Taken
at_a f l w h = Iff.trans (λ s. spelled_cons l w (omega arith) (λ _. s.1) s.0, down w) (spelled_taken f l w (omega arith))
  where
    no_2 : (k x : ℕ) (v : Word) → k ≤ 1 → Spelled (k ∷ x ∷ v) → x ≢ 2
    no_2 zero x v b s = s.no_02 0 (omega arith) refl
    no_2 (suc zero) x v b s = s.no_12 0 (omega arith) refl
    no_2 (suc (suc k)) x v b s = absurd (omega arith)

    down : (v : Word) → Spelled (l ∷ v) → Taken false v
    down [] s = absurd (omega (arith, s.ends))
    down (x ∷ v) s = (spelled_rest l x v s, no_2 l x v h s)

at_3 : (f : Bool) (w : Word) → Good w ↔ Taken f (3 ∷ w)
unfolding Good
at_3 f w =
    Iff.trans
    (⊎_elim (λ (e : w ≡ []). rw e alone_3) (spelled_cons 3 w (omega arith) (omega arith)), down w)
    (spelled_taken f 3 w (omega arith))
  where
    down : (v : Word) → Spelled (3 ∷ v) → Good v
    down [] s = inl refl
    down (x ∷ v) s = inr (spelled_rest 3 x v s)

at_2 : (f : Bool) (w : Word) → T (reads true w) ↔ Good w → T (f && (some_left w && reads true w)) ↔ Taken f (2 ∷ w)
unfolding Taken some_left
at_2 true [] r = (absurd, λ g. omega (arith, ((spelled_good 2 []).1 g).ends))
at_2 true (x ∷ w) r =
    Iff.trans r
    (Iff.trans (Iff.symm (spelled_good x w))
    (Iff.trans (spelled_cons 2 (x ∷ w) (omega arith) (omega arith), spelled_rest 2 x w) (spelled_good 2 (x ∷ w))))
at_2 false w r = (absurd, λ s. s.1 refl)

readers : (w : Word) (f : Bool) → T (reads f w) ↔ Taken f w
unfolding reads Taken Good
readers [] true = (λ _. inl refl, λ _. tt)
readers [] false = (absurd, λ s. not_empty s.0)
readers (zero ∷ w) f = Iff.trans (readers w false) (at_a f 0 w (omega arith))
readers (suc zero ∷ w) f = Iff.trans (readers w false) (at_a f 1 w (omega arith))
readers (suc (suc zero) ∷ w) f = at_2 f w (readers w true)
readers (suc (suc (suc zero)) ∷ w) f = Iff.trans (readers w true) (at_3 f w)
readers (suc (suc (suc (suc x))) ∷ w) f =
    (absurd, λ t. omega (arith, ((spelled_taken f (suc (suc (suc (suc x)))) w (omega arith)).1 t).letters 0 (omega arith)))

-- The first reader takes exactly the good words.
pub readers_good : (w : Word) → T (reads true w) ↔ Good w
unfolding Taken
readers_good w = readers w true
