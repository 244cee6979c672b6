-- What reading and writing tree words answer, in the terms of document 02: when each is served and with what, which refusal comes
-- when, and that both lead back.
-- In order: reading; writing; both for a chain of n.
use Rattle.std.proofs.Math.Path.{◌≡◌, refl, ap, sym}
use Rattle.std.proofs.Common.{◌∙◌, ltb→lt, eqb→eq, le-ltb}
use Rattle.std.specs.Prelude.{Result, Ok, Err, ◌↔◌, ◌⊎◌, Bool, true, false, cond, ◌||◌, ltb, eqb, length}
use Rattle.std.proofs.Math.Logic.{inl, inr, ⊎_elim}
use Rattle.std.proofs.Math.Logic.Iff
use mathlib.Core.List.{List, [], ◌∷◌, map}
use Prim.Native.Nat.{ℕ, zero, suc, ◌^◌, ◌≤◌, ◌<◌}
use native.Mathlib.Omega.{arith}
use Rattle.std.proofs.Math.Dec.{T, lt→ltb}
use Rattle.std.specs.Float.Ieee.Fits.{eq→eqb}
use Rattle.std.proofs.Math.ListN.{get_or}
use Rattle.chains.specs.Chains.{Part, Chained, total, ChainOf}
use Rattle.chains.specs.Words.{Word}
use Rattle.chains.proofs.Bounds.{chain_of_0}
use Rattle.refusals.specs.declared.Refusal.{Refusal}
use Rattle.refusals.specs.declared.Refusal.TheVariants.{LittleLent, UnknownPart, NotChained, TooLarge, NoTreeWord}
use Rattle.parts.specs.Parts.{part_number}
use Rattle.lent.specs.Lent.{Enough}
use Rattle.words.specs.Records.{record_parts}
use Rattle.words.specs.WordLaws.{parts_of_numbers, chain_judged}
use Rattle.words.specs.TestLaws.{is_first, is_second, in_first, in_second, one_of_both}
use Rattle.words.specs.Refusals.{not_below, Outside}
use Rattle.ranking.specs.Services.{Outcome, refused, gives, lent, answer_of, judged_as, of_record}
use Rattle.ranking.specs.Outcomes.{record_gives}
use Rattle.ranking.specs.RoundTrips.{found_refused}
use Rattle.ranking.specs.Refusals.{record_refusals, Little, found_too_little}
use Rattle.trees.specs.Trees.{produced, number, read_back}
use Rattle.trees.specs.TreeOf.{tree_of}
use Rattle.trees.proofs.TreeLaws.{tree_number, tree_chain, tree_positive, tree_chain_tree, produced_short, chain_tree, chain_tree_chain}
use Rattle.trees.proofs.TreeLaws.{tree_letters}
use Rattle.trees.specs.Answers.{foreign, tree_judged, tree_as, of_tree, TreeWord, no_tree, tree_word, tree_by, record_tree}
use Rattle.trees.specs.Answers.{lent_tree, tree_told}

-- ---- reading

-- Some letter is not 1, 2 or 3.
unfoldable pub Foreign : Word → Type 0
Foreign w = (i : ℕ) × (i < length w) × ((get_or w i 0 ≡ 0) ⊎ (3 < get_or w i 0))

-- No number's lines produce the word.
unfoldable pub Unproduced : Word → Type 0
Unproduced w = (n : ℕ) → ¬ T (produced w n)

or_either : (a b : Bool) → T (a || b) ↔ (T a ⊎ T b)
or_either true b = (λ _. inl tt, λ _. tt)
or_either false b = (inr, ⊎_elim (λ (t : T false). absurd t) (λ (t : T b). t))

foreign_test : (w : Word) → T (foreign w) ↔ Foreign w
unfolding foreign Foreign
foreign_test [] = (absurd, λ h. absurd (omega (arith, h.1)))
foreign_test (l ∷ w) = (there (foreign_test w), back (foreign_test w))
  where
    Some : Word → Type 0
    Some v = (i : ℕ) × (i < length v) × ((get_or v i 0 ≡ 0) ⊎ (3 < get_or v i 0))

    there : T (foreign w) ↔ Some w → T (eqb l 0 || (ltb 3 l || foreign w)) → Some (l ∷ w)
    there h t =
        ⊎_elim (λ (x : T (eqb l 0)). (0, omega arith, inl (eqb→eq l 0 x)))
        (λ (y : T (ltb 3 l || foreign w)).
        ⊎_elim (λ (x : T (ltb 3 l)). (0, omega arith, inr (ltb→lt 3 l x)))
        (λ (x : T (foreign w)). let (i, b, g) = h.0 x in (suc i, omega arith, g))
        ((or_either (ltb 3 l) (foreign w)).0 y))
        ((or_either (eqb l 0) (ltb 3 l || foreign w)).0 t)

    back : T (foreign w) ↔ Some w → Some (l ∷ w) → T (eqb l 0 || (ltb 3 l || foreign w))
    back h (zero, b, inl e) = (or_either (eqb l 0) _).1 (inl (eq→eqb e))
    back h (zero, b, inr m) = (or_either (eqb l 0) _).1 (inr ((or_either (ltb 3 l) _).1 (inl (lt→ltb 3 l m))))
    back h (suc i, b, g) = (or_either (eqb l 0) _).1 (inr ((or_either (ltb 3 l) _).1 (inr (h.1 (i, omega arith, g)))))

-- The refusals of a tree word, where `refused r` says that it is refused with r: 15 exactly if some letter is foreign, or if none is,
-- the number is below 2^64, and the lines do not produce the word; 10 exactly if no letter is foreign and the number is 2^64 or
-- more; no other.
pub record TreeRefusals (w : Word) (refused : Refusal → Type 0) : Type 0 where
  pub refusal_15 : refused NoTreeWord ↔ (Foreign w ⊎ ((¬ Foreign w) × (number w < 2 ^ 64) × Unproduced w))
  pub refusal_10 : refused TooLarge ↔ ((¬ Foreign w) × (2 ^ 64 ≤ number w))
  pub no_other : (r : Refusal) → refused r → (r ≡ NoTreeWord) ⊎ (r ≡ TooLarge)

-- The same of an answer that is refused exactly when another one is.
pub tree_lifted : {w : Word} {p q : Refusal → Type 0} → ((r : Refusal) → q r ↔ p r) → TreeRefusals w p → TreeRefusals w q
tree_lifted f h = record {
  refusal_15 = Iff.trans (f NoTreeWord) h.refusal_15;
  refusal_10 = Iff.trans (f TooLarge) h.refusal_10;
  no_other = λ r e. h.no_other r ((f r).0 e);
}

module _ (w : Word) where
  abbrev refuse : Refusal → Result ℕ Refusal
  refuse r = Err r

  abbrev sum : Result ℕ Refusal
  sum = Ok (number w)

  abbrev fits : Bool
  fits = ltb (number w) (2 ^ 64)

  abbrev fitting : Result ℕ Refusal
  fitting = cond (produced w (number w)) sum (refuse NoTreeWord)

  abbrev known : Result ℕ Refusal
  known = cond fits fitting (refuse TooLarge)

  same : (r s : Refusal) → refuse r ≡ refuse s → r ≡ s
  same r s e = cc

  no_sum : (n : ℕ) (r : Refusal) → ¬ (Ok n ≡ refuse r)
  no_sum n r e = cc

  not_made : (¬ T (produced w (number w))) ↔ Unproduced w
  unfolding Unproduced
  not_made = (λ h n t. h (rw (tree_number w n t) t), λ h. h (number w))

  fitting_only : (r : Refusal) → fitting ≡ refuse r → r ≡ NoTreeWord
  fitting_only r e =
      ⊎_elim (λ (f : sum ≡ refuse r). absurd (no_sum (number w) r f)) (λ (f : refuse NoTreeWord ≡ refuse r). sym (same NoTreeWord r f))
      (one_of_both (produced w (number w)) sum (refuse NoTreeWord) (refuse r) e)

  known_only : (r : Refusal) → known ≡ refuse r → (r ≡ NoTreeWord) ⊎ (r ≡ TooLarge)
  known_only r e =
      ⊎_elim (λ (f : fitting ≡ refuse r). inl (fitting_only r f)) (λ (f : refuse TooLarge ≡ refuse r). inr (sym (same TooLarge r f)))
      (one_of_both fits fitting (refuse TooLarge) (refuse r) e)

  known_15 : (known ≡ refuse NoTreeWord) ↔ ((number w < 2 ^ 64) × Unproduced w)
  known_15 =
      Iff.trans (in_first fits fitting (refuse TooLarge) (refuse NoTreeWord) (λ e. cc))
      (Iff.and (ltb→lt (number w) (2 ^ 64), lt→ltb (number w) (2 ^ 64))
      (Iff.trans (is_second (produced w (number w)) sum (refuse NoTreeWord) (no_sum (number w) NoTreeWord)) not_made))

  judged_15 : (b : Bool) → T b ↔ Foreign w
      → (cond b (refuse NoTreeWord) known ≡ refuse NoTreeWord) ↔ (Foreign w ⊎ ((¬ Foreign w) × (number w < 2 ^ 64) × Unproduced w))
  judged_15 true t = (λ _. inl (t.0 tt), λ _. refl)
  judged_15 false t = (
    λ e. let k = known_15.0 e in inr (t.1, k.0, k.1),
    ⊎_elim (λ (f : Foreign w). absurd (t.1 f))
        (λ (k : (¬ Foreign w) × (number w < 2 ^ 64) × Unproduced w). known_15.1 (k.1, k.2)),
  )

  pub judged_tree_refusals : TreeRefusals w (λ r. tree_judged w ≡ refuse r)
  unfolding tree_judged
  judged_tree_refusals = record {
    refusal_15 = judged_15 (foreign w) (foreign_test w);
    refusal_10 =
        Iff.trans (in_second (foreign w) (refuse NoTreeWord) known (refuse TooLarge) (λ e. cc))
        (Iff.and (Iff.not (foreign_test w))
        (Iff.trans (is_second fits fitting (refuse TooLarge) (λ e. let f = fitting_only TooLarge e in cc)) (not_below (number w) (2 ^ 64))));
    no_other =
        λ r e.
        ⊎_elim (λ (f : refuse NoTreeWord ≡ refuse r). inl (sym (same NoTreeWord r f))) (known_only r)
        (one_of_both (foreign w) (refuse NoTreeWord) known (refuse r) e);
  }

  -- Else it gets the number that it is produced from.
  no_foreign : (n : ℕ) → T (produced w n) → ¬ Foreign w
  unfolding Foreign
  no_foreign n h (i, b, o) =
      let (low, high) = tree_letters w n h i b in
      ⊎_elim (λ (e : get_or w i 0 ≡ 0). omega arith) (λ (m : 3 < get_or w i 0). omega arith) o

  pub judged_tree : (n : ℕ) → (tree_judged w ≡ Ok n) ↔ (T (produced w n) × (n < 2 ^ 64))
  unfolding tree_judged
  judged_tree n =
      Iff.trans (in_second (foreign w) (refuse NoTreeWord) known (Ok n) (λ e. no_sum n NoTreeWord (sym e)))
      (Iff.trans
      (Iff.and (Iff.not (foreign_test w))
      (Iff.trans (in_first fits fitting (refuse TooLarge) (Ok n) (λ e. no_sum n TooLarge (sym e)))
      (Iff.and (ltb→lt (number w) (2 ^ 64), lt→ltb (number w) (2 ^ 64))
      (in_first (produced w (number w)) sum (refuse NoTreeWord) (Ok n) (λ e. no_sum n NoTreeWord (sym e))))))
      (there, back))
    where
      there : (¬ Foreign w) × ((number w < 2 ^ 64) × (T (produced w (number w)) × (sum ≡ Ok n)))
          → T (produced w n) × (n < 2 ^ 64)
      there (_, (low, (made, e))) = let m : number w ≡ n = cc in (rw m at made, omega arith)

      back : T (produced w n) × (n < 2 ^ 64)
          → (¬ Foreign w) × ((number w < 2 ^ 64) × (T (produced w (number w)) × (sum ≡ Ok n)))
      back (made, low) = let m = tree_number w n made in (no_foreign n made, (omega arith, (rw m made, ap Ok m)))

  -- So the outcome of reading it.
  as_refused : (r : Refusal) (j : Result ℕ Refusal) → (tree_as w j ≡ refused r) ↔ (j ≡ Err r)
  unfolding tree_as
  as_refused r (Ok n) = (
    λ e. cc,
    λ e. cc,
  )
  as_refused r (Err s) = (λ e. cc, λ e. cc)

  as_given : (n : ℕ) (c : List Part) (j : Result ℕ Refusal) → (tree_as w j ≡ gives n c) ↔ ((j ≡ Ok n) × (c ≡ read_back w))
  unfolding tree_as
  as_given n c (Ok m) = (λ e. (cc, cc), λ k. let e : Ok m ≡ Ok n = k.0 in let d = k.1 in cc)
  as_given n c (Err s) = (
    λ e. cc,
    λ k. let e : Err s ≡ Ok n = k.0 in cc,
  )

  pub tree_refusals : TreeRefusals w (λ r. of_tree w ≡ refused r)
  unfolding of_tree
  tree_refusals = tree_lifted (λ r. as_refused r (tree_judged w)) judged_tree_refusals

  -- A word is read exactly if the lines produce it from a number below 2^64: as that number, and as the chain that it is read back
  -- as.
  pub tree_read : (n : ℕ) (c : List Part) → (of_tree w ≡ gives n c) ↔ ((T (produced w n) × (n < 2 ^ 64)) × (c ≡ read_back w))
  unfolding of_tree
  tree_read n c = Iff.trans (as_given n c (tree_judged w)) (Iff.and (judged_tree n) Iff.rfl)

  -- What is read is a chain of its number, and the word is its tree word.
  pub tree_gives : (n : ℕ) (c : List Part) → of_tree w ≡ gives n c → ChainOf n c × (n < 2 ^ 64) × (1 ≤ n) × (tree_of c ≡ w)
  tree_gives n c e =
      let ((made, fits), is) = (tree_read n c).0 e in
      (rw is (tree_chain w n made), fits, tree_positive w n made, ap tree_of is ∙ tree_chain_tree w n made)

  -- What the call answers where enough is lent; and refusal 1, exactly where too little is.
  pub read_tree_refusals : (s p : List ℕ) → Enough 64 s p → TreeRefusals w (λ r. answer_of (lent s p (of_tree w)) ≡ Err r)
  read_tree_refusals s p h = tree_lifted (found_refused s p h (of_tree w)) tree_refusals

  pub read_tree_too_little : (s p : List ℕ) → (answer_of (lent s p (of_tree w)) ≡ Err LittleLent) ↔ Little s p
  read_tree_too_little s p =
      found_too_little s p (of_tree w)
      (λ e. ⊎_elim (λ (f : LittleLent ≡ NoTreeWord). cc) (λ (f : LittleLent ≡ TooLarge). cc) (tree_refusals.no_other LittleLent e))

-- ---- writing

-- The refusals of a record whose tree word is asked for: 8, 9 and 10 as in reading it; 15 exactly if it is empty; no other.
pub record RecordTreeRefusals (l : List ℕ) (refused : Refusal → Type 0) : Type 0 where
  pub refusal_8 : refused UnknownPart ↔ Outside l
  pub refusal_9 : refused NotChained ↔ ((¬ Outside l) × (¬ Chained (record_parts l)))
  pub refusal_10 : refused TooLarge ↔ ((¬ Outside l) × Chained (record_parts l) × (2 ^ 64 ≤ total (record_parts l)))
  pub refusal_15 : refused NoTreeWord ↔ (l ≡ [])
  pub no_other : (r : Refusal) → refused r → (r ≡ UnknownPart) ⊎ ((r ≡ NotChained) ⊎ ((r ≡ TooLarge) ⊎ (r ≡ NoTreeWord)))

pub record_tree_lifted : {l : List ℕ} {p q : Refusal → Type 0} → ((r : Refusal) → q r ↔ p r) → RecordTreeRefusals l p → RecordTreeRefusals l q
record_tree_lifted f h = record {
  refusal_8 = Iff.trans (f UnknownPart) h.refusal_8;
  refusal_9 = Iff.trans (f NotChained) h.refusal_9;
  refusal_10 = Iff.trans (f TooLarge) h.refusal_10;
  refusal_15 = Iff.trans (f NoTreeWord) h.refusal_15;
  no_other = λ r e. h.no_other r ((f r).0 e);
}

-- The record of a chain of n is read as it.
chain_recorded : (n : ℕ) (c : List Part) → ChainOf n c → n < 2 ^ 64 → of_record (map part_number c) ≡ gives n c
unfolding of_record judged_as
chain_recorded n c h f =
    rw (chain_judged n c h f) (ap (gives n) (parts_of_numbers c (omega (arith, h.sums))))

-- Without a tree word: reading the record refuses, or it gives the empty chain.
no_tree_lem : (r : Refusal) (o : Outcome) → tree_by o ≡ no_tree r → (o ≡ refused r) ⊎ ((r ≡ NoTreeWord) × ((c : List Part) × (o ≡ gives 0 c)))
unfolding tree_by
no_tree_lem r (refused s) e = let same : s ≡ r = cc in inl (ap refused same)
no_tree_lem r (gives zero c) e = inr (cc, (c, refl))
no_tree_lem r (gives (suc n) c) e = cc

module _ (l : List ℕ) where
  kept : (r : Refusal) → of_record l ≡ refused r → record_tree l ≡ no_tree r
  unfolding record_tree tree_by
  kept r e = rw e

  as_record : (r : Refusal) → ¬ (r ≡ NoTreeWord) → (record_tree l ≡ no_tree r) ↔ (of_record l ≡ refused r)
  unfolding record_tree
  as_record r n = (
    λ e.
        ⊎_elim (λ (f : of_record l ≡ refused r). f) (λ (g : (r ≡ NoTreeWord) × ((c : List Part) × (of_record l ≡ gives 0 c))). absurd (n g.0))
        (no_tree_lem r (of_record l) e),
    kept r,
  )

  empty : (record_tree l ≡ no_tree NoTreeWord) ↔ (l ≡ [])
  unfolding record_tree tree_by total
  empty = (there, back)
    where
      there : tree_by (of_record l) ≡ no_tree NoTreeWord → l ≡ []
      there e =
          ⊎_elim
          (λ (f : of_record l ≡ refused NoTreeWord).
          ⊎_elim (λ (g : NoTreeWord ≡ UnknownPart). cc)
          (⊎_elim (λ (g : NoTreeWord ≡ NotChained). cc) (λ (g : NoTreeWord ≡ TooLarge). cc))
          ((record_refusals l).no_other NoTreeWord f))
          (λ (g : (NoTreeWord ≡ NoTreeWord) × ((c : List Part) × (of_record l ≡ gives 0 c))).
          let (chain, numbers, _) = record_gives l 0 g.1.0 g.1.1 in
          sym numbers ∙ ap (map part_number) ((chain_of_0 g.1.0).0 chain))
          (no_tree_lem NoTreeWord (of_record l) e)

      back : l ≡ [] → tree_by (of_record l) ≡ no_tree NoTreeWord
      back e = rw (e, chain_recorded 0 [] (record { chained = tt; sums = refl }) (omega arith))

  pub record_tree_refusals : RecordTreeRefusals l (λ r. record_tree l ≡ no_tree r)
  unfolding record_tree
  record_tree_refusals =
      let read = record_refusals l in
      record {
        refusal_8 = Iff.trans (as_record UnknownPart (λ e. cc)) read.refusal_8;
        refusal_9 = Iff.trans (as_record NotChained (λ e. cc)) read.refusal_9;
        refusal_10 = Iff.trans (as_record TooLarge (λ e. cc)) read.refusal_10;
        refusal_15 = empty;
        no_other = only;
      }
    where
      only : (r : Refusal) → tree_by (of_record l) ≡ no_tree r → (r ≡ UnknownPart) ⊎ ((r ≡ NotChained) ⊎ ((r ≡ TooLarge) ⊎ (r ≡ NoTreeWord)))
      only r e =
          ⊎_elim
          (λ (f : of_record l ≡ refused r).
          ⊎_elim (λ (g : r ≡ UnknownPart). inl g)
          (⊎_elim (λ (g : r ≡ NotChained). inr (inl g)) (λ (g : r ≡ TooLarge). inr (inr (inl g))))
          ((record_refusals l).no_other r f))
          (λ (g : (r ≡ NoTreeWord) × ((c : List Part) × (of_record l ≡ gives 0 c))). inr (inr (inr g.0)))
          (no_tree_lem r (of_record l) e)

  -- What the call answers where 160 places are lent; and refusal 1, exactly where fewer are.
  told_refused : (r : Refusal) (t : TreeWord) → (tree_told t ≡ Err r) ↔ (t ≡ no_tree r)
  unfolding tree_told
  told_refused r (no_tree s) = (λ e. cc, λ e. cc)
  told_refused r (tree_word w) = (
    λ e. cc,
    λ e. cc,
  )

  pub write_tree_refusals : (places : List ℕ) → 160 ≤ length places
      → RecordTreeRefusals l (λ r. tree_told (lent_tree places (record_tree l)) ≡ Err r)
  unfolding lent_tree
  write_tree_refusals places h =
      record_tree_lifted (λ r. rw (le-ltb (length places) 160 h) (told_refused r (record_tree l))) record_tree_refusals

  pub write_tree_too_little : (places : List ℕ) → (tree_told (lent_tree places (record_tree l)) ≡ Err LittleLent) ↔ (length places < 160)
  unfolding lent_tree
  write_tree_too_little places =
      Iff.trans (told_refused LittleLent (cond (ltb (length places) 160) (no_tree LittleLent) (record_tree l)))
      (Iff.trans (is_first (ltb (length places) 160) (no_tree LittleLent) (record_tree l) not_one)
      (ltb→lt (length places) 160, lt→ltb (length places) 160))
    where
      not_one : ¬ (record_tree l ≡ no_tree LittleLent)
      not_one e =
          ⊎_elim (λ (f : LittleLent ≡ UnknownPart). cc)
          (⊎_elim (λ (f : LittleLent ≡ NotChained). cc) (⊎_elim (λ (f : LittleLent ≡ TooLarge). cc) (λ (f : LittleLent ≡ NoTreeWord). cc)))
          (record_tree_refusals.no_other LittleLent e)

  -- A tree word is that of the chain that the record names.
  pub record_tree_lem : (w : Word) → record_tree l ≡ tree_word w
      → (n : ℕ) × (c : List Part) × ChainOf n c × (1 ≤ n) × (n < 2 ^ 64) × (l ≡ map part_number c) × (w ≡ tree_of c)
  unfolding record_tree tree_by
  record_tree_lem w e = go (of_record l) refl
    where
      go : (o : Outcome) → of_record l ≡ o
          → (n : ℕ) × (c : List Part) × ChainOf n c × (1 ≤ n) × (n < 2 ^ 64) × (l ≡ map part_number c) × (w ≡ tree_of c)
      go (refused r) g = cc (rw g at e)
      go (gives zero c) g = cc (rw g at e)
      go (gives (suc n) c) g =
          let (chain, numbers, fits) = record_gives l (suc n) c g in
          let f : tree_word (tree_of c) ≡ tree_word w = rw g at e in
          (suc n, c, chain, omega arith, fits, sym numbers, cc)

-- ---- a chain of n, a number from 1 to below 2^64

module _ (n : ℕ) (c : List Part) (pos : 1 ≤ n) (h : ChainOf n c) where
  -- Its record is written as its tree word, and its tree word is read as the chain.
  pub chain_tree_written : n < 2 ^ 64 → record_tree (map part_number c) ≡ tree_word (tree_of c)
  unfolding record_tree tree_by
  chain_tree_written f = go n pos (chain_recorded n c h f)
    where
      go : (m : ℕ) → 1 ≤ m → of_record (map part_number c) ≡ gives m c → tree_by (of_record (map part_number c)) ≡ tree_word (tree_of c)
      go zero k e = absurd (omega arith)
      go (suc m) k e = rw e

  pub chain_tree_read : n < 2 ^ 64 → of_tree (tree_of c) ≡ gives n c
  chain_tree_read f = (tree_read (tree_of c) n c).1 ((chain_tree n c pos h, f), sym (chain_tree_chain n c pos h))

  -- The tree word has at most 157 letters, and they are at most 3.
  pub tree_short : n < 2 ^ 64 → length (tree_of c) ≤ 157
  tree_short f = produced_short (tree_of c) n (chain_tree n c pos h) f

  pub tree_low : (i : ℕ) → i < length (tree_of c) → get_or (tree_of c) i 0 ≤ 3
  tree_low i k = (tree_letters (tree_of c) n (chain_tree n c pos h) i k).1
