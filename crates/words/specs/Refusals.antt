-- Which refusal a word and a record get, in the terms of document 01's table: each number exactly if what the table says holds and
-- nothing before it does, and no other number.
-- In order: a word; a record. The answers are defined in Records and Conversions. Ranking says the same of the services that find a
-- chain.
use Rattle.std.proofs.Math.Path.{◌≡◌}
use Rattle.std.specs.Prelude.{Result, Ok, Err, refl, ◌↔◌, ◌⊎◌, Bool, true, false, cond, ◌||◌, not, List, [], ◌∷◌, ℕ, zero, suc, ◌^◌, ◌≤◌, ◌<◌, T, ltb, leb, length, get_or}
use Rattle.std.proofs.Common.{sym, ap, arith, ltb→lt, leb→le, T_not, le-ltb}
use Rattle.std.proofs.Math.Logic.{inl, inr, ⊎_elim}
use Rattle.std.proofs.Math.Logic.Iff
use Rattle.std.proofs.Math.Dec.{lt→ltb, le→leb, not_T}
use Rattle.chains.specs.Chains.{Part, Chained, total}
use Rattle.chains.specs.Words.{Word, Good, chain_of, reads}
use Rattle.chains.proofs.Readers.{readers_good}
use Rattle.parts.specs.Parts.{limit}
use Rattle.refusals.specs.declared.Refusal.{Refusal}
use Rattle.refusals.specs.declared.Refusal.TheVariants.{LittleLent, BadWord, UnknownPart, NotChained, TooLarge}
use Rattle.refusals.specs.Refusals.{number_of}
use Rattle.words.specs.Records.{record_parts, beyond, chained_test, judged_of}
use Rattle.words.specs.RecordLaws.{chained_test_lem}
use Rattle.words.specs.TestLaws.{is_first, is_second, in_first, in_second, one_of_both}
use Rattle.words.specs.Conversions.{letters_of, written_of, chain_summed, parted_of}

-- What a test for "below" says where it fails.
pub not_below : (n k : ℕ) → (¬ T (ltb n k)) ↔ (k ≤ n)
not_below n k = (λ h. at_least (λ l. h (lt→ltb n k l)), λ l t. omega (arith, ltb→lt n k t))
  where
    at_least : ¬ (n < k) → k ≤ n
    at_least h = omega arith

-- ---- a word

-- The refusals of a word w, where `refused r` says that it is refused with r: 7 exactly if it is not good; 10 exactly if it is good
-- and its parts sum to 2^64 or more; no other.
pub record WordRefusals (w : Word) (refused : Refusal → Type 0) : Type 0 where
  pub refusal_7 : refused BadWord ↔ (¬ Good w)
  pub refusal_10 : refused TooLarge ↔ (Good w × (2 ^ 64 ≤ total (chain_of w)))
  pub no_other : (r : Refusal) → refused r → (r ≡ BadWord) ⊎ (r ≡ TooLarge)

-- The same of an answer that is refused exactly when another one is.
pub word_lifted : {w : Word} {p q : Refusal → Type 0} → ((r : Refusal) → q r ↔ p r) → WordRefusals w p → WordRefusals w q
word_lifted f h = record {
  refusal_7 = Iff.trans (f BadWord) h.refusal_7;
  refusal_10 = Iff.trans (f TooLarge) h.refusal_10;
  no_other = λ r e. h.no_other r ((f r).0 e);
}

-- An answer by the two tests of a word, in any type of answers in which refusals of different numbers differ and x is no refusal.
module _
    {X : Type 0} (refusal : Refusal → X) (same : (r s : Refusal) → refusal r ≡ refusal s → r ≡ s) (w : Word) (x : X)
    (served : (r : Refusal) → ¬ (x ≡ refusal r))
  where
    abbrev good : Bool
    good = reads true w

    abbrev fits : Bool
    fits = ltb (total (chain_of w)) (2 ^ 64)

    abbrev of_good : X
    of_good = cond fits x (refusal TooLarge)

    good_only_10 : (r : Refusal) → of_good ≡ refusal r → r ≡ TooLarge
    good_only_10 r e =
        ⊎_elim (λ (f : x ≡ refusal r). absurd (served r f)) (λ (f : refusal TooLarge ≡ refusal r). sym (same TooLarge r f))
        (one_of_both fits x (refusal TooLarge) (refusal r) e)

    pub word_tested : WordRefusals w (λ r. cond good of_good (refusal BadWord) ≡ refusal r)
    word_tested =
        record {
          refusal_7 =
              Iff.trans (is_second good of_good (refusal BadWord) (λ e. omega (arith, ap number_of (good_only_10 BadWord e)))) (Iff.not (readers_good w));
          refusal_10 =
              Iff.trans (in_first good of_good (refusal BadWord) (refusal TooLarge) (λ e. omega (arith, ap number_of (same BadWord TooLarge e))))
              (Iff.and (readers_good w)
              (Iff.trans (is_second fits x (refusal TooLarge) (served TooLarge)) (not_below (total (chain_of w)) (2 ^ 64))));
          no_other =
              λ r e.
              ⊎_elim (λ (f : of_good ≡ refusal r). inr (good_only_10 r f))
              (λ (f : refusal BadWord ≡ refusal r). inl (sym (same BadWord r f)))
              (one_of_both good of_good (refusal BadWord) (refusal r) e);
        }

-- Taking a word apart, where 64 places are lent; and refusal 1, exactly where fewer are.
module _ (w : Word) (places : ℕ) where
  by_tests : WordRefusals w (λ r.
      cond (reads true w)
      (cond (ltb (total (chain_of w)) (2 ^ 64)) (Ok (chain_summed w)) (Err TooLarge))
      (Err BadWord)
      ≡ Err r)
  by_tests =
      word_tested Err (λ r s e. cc) w (Ok (chain_summed w))
      (λ r e. let z : ◌≡◌ {A = ℕ} 0 1 = cc in omega arith)

  pub parted_refusals : 64 ≤ places → WordRefusals w (λ r. parted_of w places ≡ Err r)
  unfolding parted_of
  parted_refusals h = rw (le-ltb places 64 h) by_tests

  pub parted_too_little : (parted_of w places ≡ Err LittleLent) ↔ (places < 64)
  unfolding parted_of
  parted_too_little =
      Iff.trans
      (is_first (ltb places 64) (Err LittleLent) _
      (λ e. ⊎_elim (λ (f : LittleLent ≡ BadWord). omega (arith, ap number_of f)) (λ (f : LittleLent ≡ TooLarge). omega (arith, ap number_of f)) (by_tests.no_other LittleLent e)))
      (ltb→lt places 64, lt→ltb places 64)

-- ---- a record

-- More than 64 part numbers, or one of 1,344 or more.
unfoldable pub Outside : List ℕ → Type 0
Outside l = (64 < length l) ⊎ ((i : ℕ) × (i < length l) × (1344 ≤ get_or l i 0))

-- The refusals of a record l: 8 exactly if it is outside; 9 exactly if it is not, and a part is no proper multiple of the next; 10
-- exactly if neither, and the parts sum to 2^64 or more; no other.
pub record RecordRefusals (l : List ℕ) (refused : Refusal → Type 0) : Type 0 where
  pub refusal_8 : refused UnknownPart ↔ Outside l
  pub refusal_9 : refused NotChained ↔ ((¬ Outside l) × (¬ Chained (record_parts l)))
  pub refusal_10 : refused TooLarge ↔ ((¬ Outside l) × Chained (record_parts l) × (2 ^ 64 ≤ total (record_parts l)))
  pub no_other : (r : Refusal) → refused r → (r ≡ UnknownPart) ⊎ ((r ≡ NotChained) ⊎ (r ≡ TooLarge))

-- The same of an answer that is refused exactly when another one is.
pub record_lifted : {l : List ℕ} {p q : Refusal → Type 0} → ((r : Refusal) → q r ↔ p r) → RecordRefusals l p → RecordRefusals l q
record_lifted f h = record {
  refusal_8 = Iff.trans (f UnknownPart) h.refusal_8;
  refusal_9 = Iff.trans (f NotChained) h.refusal_9;
  refusal_10 = Iff.trans (f TooLarge) h.refusal_10;
  no_other = λ r e. h.no_other r ((f r).0 e);
}

-- The test for a number of 1,344 or more.
beyond_test : (l : List ℕ) → T (beyond l) ↔ ((i : ℕ) × (i < length l) × (1344 ≤ get_or l i 0))
unfolding beyond
beyond_test [] = (absurd, λ h. absurd (omega (arith, h.1)))
beyond_test (x ∷ l) = by_first (leb 1344 x) refl (beyond_test l)
  where
    Some : List ℕ → Type 0
    Some k = (i : ℕ) × (i < length k) × (1344 ≤ get_or k i 0)

    by_first : (b : Bool) → leb 1344 x ≡ b → T (beyond l) ↔ Some l → T (b || beyond l) ↔ Some (x ∷ l)
    by_first true e h = (λ _. (0, omega arith, leb→le 1344 x (rw e tt)), λ _. tt)
    by_first false e h = (λ t. let s = h.0 t in (suc s.0, omega (arith, s.1), s.2), later)
      where
        later : Some (x ∷ l) → T (beyond l)
        later (zero, b, g) = absurd (rw e at (le→leb 1344 x g))
        later (suc i, b, g) = h.1 (i, omega arith, g)

-- The three tests of a record, each as what it tests.
outside_test : (l : List ℕ) → T (ltb 64 (length l) || beyond l) ↔ Outside l
unfolding Outside
outside_test l = by_length (ltb 64 (length l)) (ltb→lt 64 (length l), lt→ltb 64 (length l)) (beyond_test l)
  where
    Some : Type 0
    Some = (i : ℕ) × (i < length l) × (1344 ≤ get_or l i 0)

    by_length : (b : Bool) → T b ↔ (64 < length l) → T (beyond l) ↔ Some → T (b || beyond l) ↔ ((64 < length l) ⊎ Some)
    by_length true h g = (λ _. inl (h.0 tt), λ _. tt)
    by_length false h g = (λ t. inr (g.0 t), ⊎_elim (λ (m : 64 < length l). absurd (h.1 m)) g.1)

not_chained : (c : List Part) → T (not (chained_test c)) ↔ (¬ Chained c)
not_chained c = Iff.trans (T_not (chained_test c), not_T (chained_test c)) (Iff.not (chained_test_lem c))

is_chained : (c : List Part) → (¬ T (not (chained_test c))) ↔ Chained c
is_chained c = Iff.trans (sure (chained_test c)) (chained_test_lem c)
  where
    sure : (b : Bool) → (¬ T (not b)) ↔ T b
    sure true = (λ _. tt, λ _ t. t)
    sure false = (λ h. h tt, absurd)

-- What a record gets.
module _ (l : List ℕ) where
  abbrev c : List Part
  c = record_parts l

  abbrev outside : Bool
  outside = ltb 64 (length l) || beyond l

  abbrev loose : Bool
  loose = not (chained_test c)

  abbrev over : Bool
  over = leb limit (total c)

  abbrev refuse : Refusal → Result ℕ Refusal
  refuse r = Err r

  abbrev sum : Result ℕ Refusal
  sum = Ok (total c)

  abbrev summed : Result ℕ Refusal
  summed = cond over (refuse TooLarge) sum

  abbrev inside : Result ℕ Refusal
  inside = cond loose (refuse NotChained) summed

  same : (r s : Refusal) → refuse r ≡ refuse s → r ≡ s
  same r s e = cc

  no_sum : (r : Refusal) → ¬ (sum ≡ refuse r)
  no_sum r e = let z : ◌≡◌ {A = ℕ} 0 1 = cc in omega arith

  summed_only : (r : Refusal) → summed ≡ refuse r → r ≡ TooLarge
  summed_only r e =
      ⊎_elim (λ (f : refuse TooLarge ≡ refuse r). sym (same TooLarge r f)) (λ (f : sum ≡ refuse r). absurd (no_sum r f))
      (one_of_both over (refuse TooLarge) sum (refuse r) e)

  inside_only : (r : Refusal) → inside ≡ refuse r → (r ≡ NotChained) ⊎ (r ≡ TooLarge)
  inside_only r e =
      ⊎_elim (λ (f : refuse NotChained ≡ refuse r). inl (sym (same NotChained r f))) (λ (f : summed ≡ refuse r). inr (summed_only r f))
      (one_of_both loose (refuse NotChained) summed (refuse r) e)

  pub judged_refusals : RecordRefusals l (λ r. judged_of l ≡ refuse r)
  unfolding judged_of
  judged_refusals =
      record {
        refusal_8 =
            Iff.trans
            (is_first outside (refuse UnknownPart) inside
            (λ e. ⊎_elim (λ (f : UnknownPart ≡ NotChained). omega (arith, ap number_of f)) (λ (f : UnknownPart ≡ TooLarge). omega (arith, ap number_of f)) (inside_only UnknownPart e)))
            (outside_test l);
        refusal_9 =
            Iff.trans (in_second outside (refuse UnknownPart) inside (refuse NotChained) (λ e. omega (arith, ap number_of (same UnknownPart NotChained e))))
            (Iff.and (Iff.not (outside_test l))
            (Iff.trans (is_first loose (refuse NotChained) summed (λ e. omega (arith, ap number_of (summed_only NotChained e)))) (not_chained c)));
        refusal_10 =
            Iff.trans (in_second outside (refuse UnknownPart) inside (refuse TooLarge) (λ e. omega (arith, ap number_of (same UnknownPart TooLarge e))))
            (flat
            (Iff.not (outside_test l))
            (Iff.trans (in_second loose (refuse NotChained) summed (refuse TooLarge) (λ e. omega (arith, ap number_of (same NotChained TooLarge e))))
            (Iff.and (is_chained c)
            (Iff.trans (is_first over (refuse TooLarge) sum (no_sum TooLarge)) (leb→le limit (total c), le→leb limit (total c))))));
        no_other =
            λ r e.
            ⊎_elim (λ (f : refuse UnknownPart ≡ refuse r). inl (sym (same UnknownPart r f))) (λ (f : inside ≡ refuse r). inr (inside_only r f))
            (one_of_both outside (refuse UnknownPart) inside (refuse r) e);
      }
    where
      flat : {A B P Q R : Type 0} → A ↔ P → B ↔ (Q × R) → (A × B) ↔ (P × Q × R)
      flat f g = (λ h. (f.0 h.0, (g.0 h.1).0, (g.0 h.1).1), λ h. (f.1 h.0, g.1 (h.1, h.2)))

-- Writing its word, where 64 places are lent; and refusal 1, exactly where fewer are.
module _ (l : List ℕ) (places : ℕ) where
  as_judged : (r : Refusal) (j : Result ℕ Refusal) → (letters_of l j ≡ Err r) ↔ (j ≡ Err r)
  unfolding letters_of
  as_judged r (Ok n) = (
    λ e. let z : ◌≡◌ {A = ℕ} 0 1 = cc in absurd (omega arith),
    λ e. let z : ◌≡◌ {A = ℕ} 0 1 = cc in absurd (omega arith),
  )
  as_judged r (Err s) = (λ e. cc, λ e. cc)

  pub written_refusals : 64 ≤ places → RecordRefusals l (λ r. written_of l places ≡ Err r)
  unfolding written_of
  written_refusals h = record_lifted (λ r. rw (le-ltb places 64 h) (as_judged r (judged_of l))) (judged_refusals l)

  pub written_too_little : (written_of l places ≡ Err LittleLent) ↔ (places < 64)
  unfolding written_of
  written_too_little =
      Iff.trans
      (is_first (ltb places 64) (Err LittleLent) (letters_of l (judged_of l))
      (λ e.
      ⊎_elim (λ (f : LittleLent ≡ UnknownPart). omega (arith, ap number_of f))
      (⊎_elim (λ (f : LittleLent ≡ NotChained). omega (arith, ap number_of f)) (λ (f : LittleLent ≡ TooLarge). omega (arith, ap number_of f)))
      ((judged_refusals l).no_other LittleLent ((as_judged LittleLent (judged_of l)).0 e))))
      (ltb→lt places 64, lt→ltb places 64)
