-- When the comparison gives which answer, in the terms of document 01: refusal 7 exactly if a word is not good, and no other
-- refusal; of good words less, greater or equal, exactly as they stand in the dictionary. The definitions are in Answers; that
-- any two words are one, or one is before the other, is in the crate chains, in Order.
use Rattle.std.proofs.Math.Path.{◌≡◌}
use Rattle.std.specs.Prelude.{refl, ◌↔◌, ◌⊎◌, Bool, cond, ◌&&◌, Ok, Err}
use Rattle.std.specs.declared.cmp.Ordering.{Ordering}
use Rattle.std.specs.declared.cmp.Ordering.TheVariants.{Less, Equal, Greater}
use Rattle.std.proofs.Common.{inl, inr, ⊎_elim}
use Rattle.std.proofs.Math.Logic.Iff
use Rattle.std.proofs.Math.Bool.{true, false}
use Rattle.std.proofs.Math.Dec.{T}
use Rattle.chains.specs.Words.{Word, Good, reads}
use Rattle.chains.specs.Listing.{before}
use Rattle.chains.proofs.Readers.{readers_good}
use Rattle.chains.proofs.Order.{before_irrefl, before_trans, before_cases}
use Rattle.refusals.specs.declared.Refusal.{Refusal}
use Rattle.refusals.specs.declared.Refusal.TheVariants.{BadWord}
use Rattle.comparing.specs.Answers.{order_of, compared_of}
use Rattle.words.specs.TestLaws.{is_first, is_second, in_first, in_second, one_of_both, both_tests}

never_refused : (r : Refusal) (a b : Bool) → ¬ (Ok (cond a Less (cond b Greater Equal)) ≡ Err r)
never_refused r a b e = cc

-- Refusal 7 exactly if one of the two words is not good.
pub compared_refused : (u v : Word) → (compared_of u v ≡ Err BadWord) ↔ ((Good u → ⊥) ⊎ (Good v → ⊥))
unfolding compared_of order_of
compared_refused u v = go (reads true u) (reads true v) (readers_good u) (readers_good v)
  where
    go : (p q : Bool) → T p ↔ Good u → T q ↔ Good v
        → (cond (p && q) (Ok (order_of u v)) (Err BadWord) ≡ Err BadWord) ↔ ((Good u → ⊥) ⊎ (Good v → ⊥))
    go true true gu gv =
        (λ e. absurd (never_refused BadWord (before u v) (before v u) e), ⊎_elim (λ (n : Good u → ⊥). absurd (n (gu.0 tt))) (λ (n : Good v → ⊥). absurd (n (gv.0 tt))))
    go true false gu gv = (λ _. inr gv.1, λ _. refl)
    go false q gu gv = (λ _. inl gu.1, λ _. refl)

-- No other refusal.
pub compared_no_other : (u v : Word) (r : Refusal) → compared_of u v ≡ Err r → r ≡ BadWord
unfolding compared_of
compared_no_other u v r e =
    ⊎_elim (λ (f : Ok (order_of u v) ≡ Err r). cc) (λ (f : Err BadWord ≡ Err r). cc)
    (one_of_both (reads true u && reads true v) (Ok (order_of u v)) (Err BadWord) (Err r) e)

-- Of good words the answer is how they stand in the dictionary.
module _ (u v : Word) where
  as_ordered : (x : Ordering) → (compared_of u v ≡ Ok x) ↔ ((Good u × Good v) × (order_of u v ≡ x))
  unfolding compared_of
  as_ordered x =
      Iff.trans (in_first (reads true u && reads true v) (Ok (order_of u v)) (Err BadWord) (Ok x) (λ e. cc))
      (Iff.and (Iff.trans (both_tests (reads true u) (reads true v)) (Iff.and (readers_good u) (readers_good v))) (λ e. cc, λ e. cc))

  not_both : T (before u v) → T (before v u) → ⊥
  not_both g h = before_irrefl u (before_trans u v u g h)

  pub compared_earlier : (compared_of u v ≡ Ok Less) ↔ ((Good u × Good v) × T (before u v))
  unfolding order_of
  compared_earlier =
      Iff.trans (as_ordered Less)
      (Iff.and Iff.rfl (is_first (before u v) Less (cond (before v u) Greater Equal) (not_less (before v u))))
    where
      not_less : (b : Bool) → ¬ (cond b Greater Equal ≡ Less)
      not_less true e = cc
      not_less false e = cc

  pub compared_later : (compared_of u v ≡ Ok Greater) ↔ ((Good u × Good v) × T (before v u))
  unfolding order_of
  compared_later =
      Iff.trans (as_ordered Greater)
      (Iff.and Iff.rfl
      (Iff.trans (in_second (before u v) Less (cond (before v u) Greater Equal) Greater (λ e. cc))
      (Iff.trans (Iff.and Iff.rfl (is_first (before v u) Greater Equal (λ e. cc))) (λ h. h.1, λ h. (λ g. not_both g h, h)))))

  pub compared_same : (compared_of u v ≡ Ok Equal) ↔ ((Good u × Good v) × (u ≡ v))
  unfolding order_of
  compared_same =
      Iff.trans (as_ordered Equal)
      (Iff.and Iff.rfl
      (Iff.trans (in_second (before u v) Less (cond (before v u) Greater Equal) Equal (λ e. cc))
      (Iff.trans (Iff.and Iff.rfl (is_second (before v u) Greater Equal (λ e. cc)))
      (λ h. one (before_cases u v) h, λ e. rw e (before_irrefl v, before_irrefl v)))))
    where
      one : T (before u v) ⊎ ((u ≡ v) ⊎ T (before v u)) → (¬ T (before u v)) × (¬ T (before v u)) → u ≡ v
      one (inl g) h = absurd (h.0 g)
      one (inr (inl e)) h = e
      one (inr (inr g)) h = absurd (h.1 g)
