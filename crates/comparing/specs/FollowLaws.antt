-- A word is good exactly if, with a 3 put in front, each letter may stand after the one before it and the last is 3: what the two
-- readers say, said of neighbours. The definitions are in Eights.
-- In order: the letters after one letter (`good_after`), and the readers by it; the theorem of record (`reads_neighbours`); letters that
-- follow are 0 to 3 (`follow_low`); a word without its first letters (`reads_drop`, `reads_false`) and with 3s in front
-- (`reads_threes`), for the loop over eights.
use Rattle.std.specs.Prelude.{◌≡◌, refl, Bool, true, false, ◌&&◌, [], ◌∷◌, ◌++◌, ℕ, zero, suc, ◌≤◌, ◌<◌, ltb, eqb, length, get_or, take, drop, replicate}
use Rattle.std.proofs.Common.{sym, ap, ◌∙◌, arith, lit≤}
use Rattle.chains.specs.Words.{Word, reads, some_left}
use Rattle.comparing.specs.Eights.{may_follow, all_follow}
use Rattle.words.specs.TestLaws.{both_first, both_second}

-- ---- the letters after one letter

-- Whether the letters w, after the letter q, are the rest of a good word.
unfoldable good_after : ℕ → Word → Bool
good_after q [] = eqb q 3
good_after q (x ∷ w) = may_follow q x && good_after x w

-- The first reader goes on after 2 and 3, the second after 0 and 1.
reads_after : (f : Bool) (q x : ℕ) (w : Word) → f ≡ ltb 1 q → reads f (x ∷ w) ≡ (may_follow q x && good_after x w)
unfolding reads some_left may_follow good_after
reads_after f q zero [] e = refl
reads_after f q (suc zero) [] e = refl
reads_after f q (suc (suc zero)) [] e = rw e
reads_after f q (suc (suc (suc zero))) [] e = refl
reads_after f q (suc (suc (suc (suc x)))) [] e = refl
reads_after f q zero (y ∷ w) e = reads_after false 0 y w refl
reads_after f q (suc zero) (y ∷ w) e = reads_after false 1 y w refl
reads_after f q (suc (suc zero)) (y ∷ w) e = rw (e, reads_after true 2 y w refl)
reads_after f q (suc (suc (suc zero))) (y ∷ w) e = reads_after true 3 y w refl
reads_after f q (suc (suc (suc (suc x)))) (y ∷ w) e = refl

reads_good : (w : Word) → reads true w ≡ good_after 3 w
unfolding reads good_after
reads_good [] = refl
reads_good (x ∷ w) = reads_after true 3 x w refl

-- ---- the theorem of record

regroup : (a b c : Bool) → (a && (b && c)) ≡ ((a && b) && c)
regroup true b c = refl
regroup false b c = refl

neighbours : (q : ℕ) (w : Word) → good_after q w ≡ (all_follow q w && eqb (get_or (q ∷ w) (length w) 0) 3)
unfolding good_after all_follow
neighbours q [] = refl
neighbours q (x ∷ w) = rw (neighbours x w) (regroup (may_follow q x) (all_follow x w) (eqb (get_or (x ∷ w) (length w) 0) 3))

pub reads_neighbours : (w : Word) → reads true w ≡ (all_follow 3 w && eqb (get_or (3 ∷ w) (length w) 0) 3)
reads_neighbours w = reads_good w ∙ neighbours 3 w

-- ---- a word with its first letters left out

-- What may stand after some letter may stand after a 3.
after_3 : (q x : ℕ) → may_follow q x ≡ true → may_follow 3 x ≡ true
unfolding may_follow
after_3 q zero t = refl
after_3 q (suc zero) t = refl
after_3 q (suc (suc zero)) t = refl
after_3 q (suc (suc (suc zero))) t = refl
after_3 q (suc (suc (suc (suc x)))) t = t

-- Letters that follow are 0 to 3.
may_low : (q x : ℕ) → may_follow q x ≡ true → x ≤ 3
unfolding may_follow
may_low q zero t = lit≤ tt
may_low q (suc zero) t = lit≤ tt
may_low q (suc (suc zero)) t = lit≤ tt
may_low q (suc (suc (suc zero))) t = lit≤ tt
may_low q (suc (suc (suc (suc x)))) t = let z : ◌≡◌ {A = ℕ} 0 1 = cc in omega arith

pub follow_low : (q : ℕ) (w : Word) → all_follow q w ≡ true → (i : ℕ) → i < length w → get_or w i 0 ≤ 3
unfolding all_follow
follow_low q [] t i h = absurd (omega arith)
follow_low q (x ∷ w) t zero h = may_low q x (both_first (may_follow q x) (all_follow x w) t)
follow_low q (x ∷ w) t (suc i) h = follow_low x w (both_second (may_follow q x) (all_follow x w) t) i (omega arith)

-- Where the first n letters follow, those before any of them may be left out.
on : (d n : ℕ) (w : Word) → d < n → n ≤ length w → all_follow 3 (take n w) ≡ true → good_after 3 w ≡ good_after 3 (drop d w)
unfolding all_follow good_after
on zero n w h k t = refl
on (suc d) zero w h k t = absurd (omega arith)
on (suc d) (suc zero) w h k t = absurd (omega arith)
on (suc d) (suc (suc n)) [] h k t = absurd (omega arith)
on (suc d) (suc (suc n)) (x ∷ []) h k t = absurd (omega arith)
on (suc d) (suc (suc n)) (x ∷ y ∷ w) h k t =
    let a = both_first (may_follow 3 x) (may_follow x y && all_follow y (take n w)) t in
    let r = both_second (may_follow 3 x) (may_follow x y && all_follow y (take n w)) t in
    let b = both_first (may_follow x y) (all_follow y (take n w)) r in
    let c = after_3 x y b in
    rw (a, b)
    (rw c at (on d (suc n) (y ∷ w) (omega arith) (omega arith) (rw c (both_second (may_follow x y) (all_follow y (take n w)) r))))

-- Where the whole is good, its first n letters follow.
off : (q n : ℕ) (w : Word) → good_after q w ≡ (all_follow q (take n w) && good_after q w)
unfolding all_follow good_after
off q zero w = refl
off q (suc n) [] = refl
off q (suc n) (x ∷ w) = go (may_follow q x) (off x n w)
  where
    go : (m : Bool) → good_after x w ≡ (all_follow x (take n w) && good_after x w)
        → (m && good_after x w) ≡ ((m && all_follow x (take n w)) && (m && good_after x w))
    go true r = r
    go false r = refl

-- The same of the readers.
pub reads_drop : (d n : ℕ) (w : Word) → d < n → n ≤ length w → all_follow 3 (take n w) ≡ true → reads true w ≡ reads true (drop d w)
reads_drop d n w h k t = reads_good w ∙ on d n w h k t ∙ sym (reads_good (drop d w))

pub reads_false : (n : ℕ) (w : Word) → all_follow 3 (take n w) ≡ false → reads true w ≡ false
reads_false n w t = reads_good w ∙ off 3 n w ∙ ap (λ f. f && good_after 3 w) t

-- 3s in front of a word make no difference.
pub reads_threes : (k : ℕ) (w : Word) → reads true (replicate k 3 ++ w) ≡ reads true w
unfolding reads
reads_threes zero w = refl
reads_threes (suc k) w = reads_threes k w
