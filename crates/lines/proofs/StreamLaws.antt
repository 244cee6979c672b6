-- However a file is cut into blocks, and though of a long line only the first characters are kept, the replies are those to the
-- file's lines, one each, in order; and the replies, taken apart into lines, are these again.
--
-- In this order: one character more; two pieces one after the other; a stretch without byte 10, and one that byte 10 ends;
-- characters that are changed one by one; the replies; lines of which only the first m characters are kept; the blocks of a file.
use Rattle.std.specs.Prelude.{◌≡◌, refl, Bool, true, false, not, ℕ, zero, suc, ◌<◌, eqb}
use Rattle.std.proofs.Math.Path.{sym, ap}
use Rattle.std.proofs.Common.{◌∙◌, arith, eqb-true, take-take}
use Rattle.std.proofs.Math.Bool.{and-eq-true_iff}
use Rattle.std.proofs.lemmas.Bool.{false≢true}
use mathlib.Core.List.{List, [], ◌∷◌, ◌++◌, append-nil, append_assoc, flatten, map, map-append}
use Rattle.std.proofs.Math.ListN.{take}
use Rattle.std.proofs.Math.Seq.{append_snoc, take-nil}
use Rattle.digits.specs.Digits.{within, is_written, every}
use Rattle.digits.proofs.DigitLaws.{every_weaker}
use Rattle.lines.specs.Stream.{finished, unfinished, last_line, lines_from, lines_of, replies_to, unbroken, answers_to}

-- ---- one character more

module _ (line : List ℕ) (c : ℕ) (s : List ℕ) where
  finished_end : eqb c 10 ≡ true → finished line (c ∷ s) ≡ line ∷ finished [] s
  unfolding finished
  finished_end e = rw (e, finished)

  finished_more : eqb c 10 ≡ false → finished line (c ∷ s) ≡ finished (line ++ (c ∷ [])) s
  unfolding finished
  finished_more e = rw (e, finished)

  unfinished_end : eqb c 10 ≡ true → unfinished line (c ∷ s) ≡ unfinished [] s
  unfolding unfinished
  unfinished_end e = rw (e, unfinished)

  unfinished_more : eqb c 10 ≡ false → unfinished line (c ∷ s) ≡ unfinished (line ++ (c ∷ [])) s
  unfolding unfinished
  unfinished_more e = rw (e, unfinished)

-- What holds of a line that was read before s: it holds at the end of s, and each character passes it on.
by_characters : (P : List ℕ → List ℕ → Type 0) → ((line : List ℕ) → P line [])
    → ((line : List ℕ) (c : ℕ) (s : List ℕ) → eqb c 10 ≡ true → P [] s → P line (c ∷ s))
    → ((line : List ℕ) (c : ℕ) (s : List ℕ) → eqb c 10 ≡ false → P (line ++ (c ∷ [])) s → P line (c ∷ s))
    → (line s : List ℕ) → P line s
by_characters P none ends more line [] = none line
by_characters P none ends more line (c ∷ s) =
    go (eqb c 10) refl (by_characters P none ends more [] s) (by_characters P none ends more (line ++ (c ∷ [])) s)
  where
    go : (b : Bool) → eqb c 10 ≡ b → P [] s → P (line ++ (c ∷ [])) s → P line (c ∷ s)
    go true e p q = ends line c s e p
    go false e p q = more line c s e q

-- ---- two pieces one after the other

pub finished_append : (line a b : List ℕ) → finished line (a ++ b) ≡ finished line a ++ finished (unfinished line a) b
unfolding finished unfinished
finished_append line a b =
    by_characters (λ (l s : List ℕ). finished l (s ++ b) ≡ finished l s ++ finished (unfinished l s) b)
    (λ l. refl)
    (λ l c s e h. rw (finished_end l c (s ++ b), finished_end l c s, unfinished_end l c s, h))
    (λ l c s e h. rw (finished_more l c (s ++ b), finished_more l c s, unfinished_more l c s, h))
    line a

pub unfinished_append : (line a b : List ℕ) → unfinished line (a ++ b) ≡ unfinished (unfinished line a) b
unfolding unfinished
unfinished_append line a b =
    by_characters (λ (l s : List ℕ). unfinished l (s ++ b) ≡ unfinished (unfinished l s) b)
    (λ l. refl)
    (λ l c s e h. rw (unfinished_end l c (s ++ b), unfinished_end l c s, h))
    (λ l c s e h. rw (unfinished_more l c (s ++ b), unfinished_more l c s, h))
    line a

pub lines_append : (line a b : List ℕ) → lines_from line (a ++ b) ≡ finished line a ++ lines_from (unfinished line a) b
unfolding lines_from
lines_append line a b = rw (finished_append line a b, unfinished_append line a b, append_assoc)

-- ---- a stretch without byte 10, and one that byte 10 ends

unbroken_first : (c : ℕ) (s : List ℕ) → unbroken (c ∷ s) ≡ true → (not (eqb c 10) ≡ true) × (unbroken s ≡ true)
unfolding unbroken every
unbroken_first c s h = (and-eq-true_iff (not (eqb c 10)) (unbroken s)).0 h

pub finished_stretch : (line t : List ℕ) → unbroken t ≡ true → finished line t ≡ []
unfolding finished
finished_stretch =
    by_characters (λ (l s : List ℕ). unbroken s ≡ true → finished l s ≡ [])
    (λ l u. refl)
    (λ l c s e h u. absurd (false≢true (ap not (sym e) ∙ (unbroken_first c s u).0)))
    (λ l c s e h u. finished_more l c s e ∙ h (unbroken_first c s u).1)

pub unfinished_stretch : (line t : List ℕ) → unbroken t ≡ true → unfinished line t ≡ line ++ t
unfolding unfinished
unfinished_stretch =
    by_characters (λ (l s : List ℕ). unbroken s ≡ true → unfinished l s ≡ l ++ s)
    (λ l u. sym (append-nil l))
    (λ l c s e h u. absurd (false≢true (ap not (sym e) ∙ (unbroken_first c s u).0)))
    (λ l c s e h u. unfinished_more l c s e ∙ h (unbroken_first c s u).1 ∙ append_snoc l c s)

-- Byte 10 is no digit.
pub digits_unbroken : (s : List ℕ) → every is_written s ≡ true → unbroken s ≡ true
unfolding unbroken is_written within
digits_unbroken s e = every_weaker is_written (λ c. not (eqb c 10)) (λ c w. go c (eqb c 10) refl w) s e
  where
    go : (c : ℕ) (b : Bool) → eqb c 10 ≡ b → is_written c ≡ true → not b ≡ true
    go c true t w = absurd (false≢true (rw (eqb-true c 10 t) at w))
    go c false t w = refl

module _ (line t s : List ℕ) (u : unbroken t ≡ true) where
  pub finished_line : finished line (t ++ (10 ∷ s)) ≡ (line ++ t) ∷ finished [] s
  finished_line =
      rw (finished_append line t (10 ∷ s), finished_stretch line t u, unfinished_stretch line t u)
      (finished_end (line ++ t) 10 s refl)

  pub unfinished_line : unfinished line (t ++ (10 ∷ s)) ≡ unfinished [] s
  unfinished_line =
      rw (unfinished_append line t (10 ∷ s), unfinished_stretch line t u) (unfinished_end (line ++ t) 10 s refl)

-- ---- characters that are changed one by one

pub last_map : (f : ℕ → ℕ) (line : List ℕ) → last_line (map f line) ≡ map (map f) (last_line line)
unfolding last_line
last_map f [] = refl
last_map f (c ∷ line) = refl

-- Where a byte 10 stays one, and no other character becomes one, the lines are those that were, with their characters changed.
module _ (f : ℕ → ℕ) (End-kept : (c : ℕ) → eqb (f c) 10 ≡ eqb c 10) where
  pub finished_map : (line s : List ℕ) → finished (map f line) (map f s) ≡ map (map f) (finished line s)
  unfolding finished
  finished_map =
      by_characters (λ (l s : List ℕ). finished (map f l) (map f s) ≡ map (map f) (finished l s))
      (λ l. refl)
      (λ l c s e h. rw (finished_end (map f l) (f c) (map f s) (End-kept c ∙ e), finished_end l c s e, h))
      (λ l c s e h. rw (finished_more (map f l) (f c) (map f s) (End-kept c ∙ e), finished_more l c s e, ← h, map-append))

  pub unfinished_map : (line s : List ℕ) → unfinished (map f line) (map f s) ≡ map f (unfinished line s)
  unfolding unfinished
  unfinished_map =
      by_characters (λ (l s : List ℕ). unfinished (map f l) (map f s) ≡ map f (unfinished l s))
      (λ l. refl)
      (λ l c s e h. rw (unfinished_end (map f l) (f c) (map f s) (End-kept c ∙ e), unfinished_end l c s e, h))
      (λ l c s e h. rw (unfinished_more (map f l) (f c) (map f s) (End-kept c ∙ e), unfinished_more l c s e, ← h, map-append))

  pub lines_map : (line s : List ℕ) → lines_from (map f line) (map f s) ≡ map (map f) (lines_from line s)
  unfolding lines_from
  lines_map line s = rw (finished_map line s, unfinished_map line s, last_map f (unfinished line s), map-append)

-- ---- the replies

pub replies_append : (R : List ℕ → List ℕ) (k l : List (List ℕ)) → replies_to R (k ++ l) ≡ replies_to R k ++ replies_to R l
unfolding replies_to
replies_append R [] l = refl
replies_append R (line ∷ k) l = rw (replies_append R k l, append_assoc)

-- To two pieces: to the lines that end in the first, then to the second after what the first left unfinished.
pub replies_pieces : (R : List ℕ → List ℕ) (line a b : List ℕ)
    → replies_to R (lines_from line (a ++ b)) ≡ replies_to R (finished line a) ++ replies_to R (lines_from (unfinished line a) b)
replies_pieces R line a b = rw (lines_append line a b, replies_append)

-- Replies without byte 10, taken apart into lines again: one for each line, in order.
pub replies_lines : (R : List ℕ → List ℕ) → ((line : List ℕ) → unbroken (R line) ≡ true)
    → (l : List (List ℕ)) → lines_of (replies_to R l) ≡ map R l
unfolding lines_of lines_from finished unfinished last_line replies_to
replies_lines R u [] = refl
replies_lines R u (line ∷ l) =
    rw (finished_line [] (R line) (replies_to R l) (u line), unfinished_line [] (R line) (replies_to R l) (u line))
    (ap (λ (k : List (List ℕ)). R line ∷ k) (replies_lines R u l))

-- ---- lines of which only the first m characters are kept

-- What is added after them is kept alike.
pub take_first : (m : ℕ) (line t : List ℕ) → take m (line ++ t) ≡ take m (take m line ++ t)
take_first zero line t = refl
take_first (suc m) [] t = refl
take_first (suc m) (c ∷ line) t = ap (λ (l : List ℕ). c ∷ l) (take_first m line t)

take_same : (m : ℕ) (k l t : List ℕ) → take m k ≡ take m l → take m (k ++ t) ≡ take m (l ++ t)
take_same m k l t e = take_first m k t ∙ rw e (sym (take_first m l t))

last_take : (m c : ℕ) (line : List ℕ) → 0 < m → last_line (take m (c ∷ line)) ≡ take m (c ∷ line) ∷ []
unfolding last_line
last_take zero c line h = absurd (omega arith)
last_take (suc m) c line h = refl

module _ (R : List ℕ → List ℕ) (m : ℕ) (some_kept : 0 < m) (first : (line : List ℕ) → R line ≡ R (take m line)) where
  reply_same : (k l : List ℕ) → take m k ≡ take m l → R k ≡ R l
  reply_same k l e = first k ∙ ap R e ∙ sym (first l)

  finished_same : (k s l : List ℕ) → take m k ≡ take m l → replies_to R (finished k s) ≡ replies_to R (finished l s)
  unfolding finished replies_to
  finished_same =
      by_characters (λ (k s : List ℕ). (l : List ℕ) → take m k ≡ take m l → replies_to R (finished k s) ≡ replies_to R (finished l s))
      (λ k l e. refl)
      (λ k c s t h l e. rw (finished_end k c s t, finished_end l c s t, reply_same k l e))
      (λ k c s t h l e. rw (finished_more k c s t, finished_more l c s t) (h (l ++ (c ∷ [])) (take_same m k l (c ∷ []) e)))

  -- The replies to the lines that end, what is kept of the line that does not, and the reply to it at the end of the file.
  pub kept_finished : (line s : List ℕ) → replies_to R (finished line s) ≡ replies_to R (finished (take m line) s)
  kept_finished line s = finished_same line s (take m line) (sym (take-take m m line (omega arith)))

  unfinished_same : (k s l : List ℕ) → take m k ≡ take m l → take m (unfinished k s) ≡ take m (unfinished l s)
  unfolding unfinished
  unfinished_same =
      by_characters (λ (k s : List ℕ). (l : List ℕ) → take m k ≡ take m l → take m (unfinished k s) ≡ take m (unfinished l s))
      (λ k l e. e)
      (λ k c s t h l e. rw (unfinished_end k c s t, unfinished_end l c s t))
      (λ k c s t h l e. rw (unfinished_more k c s t, unfinished_more l c s t) (h (l ++ (c ∷ [])) (take_same m k l (c ∷ []) e)))

  pub kept_unfinished : (line s : List ℕ) → take m (unfinished line s) ≡ take m (unfinished (take m line) s)
  kept_unfinished line s = unfinished_same line s (take m line) (sym (take-take m m line (omega arith)))

  pub kept_last : (line : List ℕ) → replies_to R (last_line line) ≡ replies_to R (last_line (take m line))
  unfolding last_line replies_to
  kept_last [] = rw (take-nil m)
  kept_last (c ∷ line) = rw (last_take m c line some_kept, first (c ∷ line))

  -- ---- the blocks of a file

  -- What is answered after a part of a line was read: the replies to the lines from there on.
  pub answers_from : (line : List ℕ) (blocks : List (List ℕ))
      → answers_to R m (take m line) blocks ≡ replies_to R (lines_from line (flatten blocks))
  unfolding answers_to lines_from finished unfinished flatten
  answers_from line [] = sym (kept_last line)
  answers_from line (b ∷ blocks) =
      rw (
        replies_pieces R line b (flatten blocks),
        ← answers_from (unfinished line b) blocks,
        kept_finished line b,
        kept_unfinished line b,
      )

  pub answers_lines : (blocks : List (List ℕ)) → answers_to R m [] blocks ≡ replies_to R (lines_of (flatten blocks))
  unfolding lines_of
  answers_lines blocks = ap (λ (l : List ℕ). answers_to R m l blocks) (sym (take-nil m)) ∙ answers_from [] blocks
