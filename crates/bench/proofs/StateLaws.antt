-- The states of a bench in its lent numbers: what `states` rests on.
-- In order: numbers copied over others one by one; a state as a part that is lent on; a sound bench from its states; the first 378
-- numbers lent on as a bench.
use Rattle.std.specs.Prelude.{◌≡◌, ◌↔◌, IsTrue, Bool, true, false, not, refl, List, [], ◌∷◌, ◌++◌, ℕ, suc, ◌+◌, ◌-◌, ◌*◌, ◌^◌, ◌≤◌, ◌<◌, length, get_or, set, take, drop}
use Rattle.std.proofs.Common.{sym, ap, append_assoc, ◌∙◌, arith, length-set, take-append-drop, take_all, take-suc, take-suc-set, below_more, drop-drop, get_or-take}
use borrow.Rule.Slice.PartMut.{mid_of, put_mid, Post-is}
use Rattle.std.specs.List.{copy_within}
use Rattle.std.proofs.lemmas.List.{take-take, drop-take}
use Rattle.std.proofs.lemmas.Bool.{false≢true}
use Rattle.moves.specs.Rows.{Laying}
use Rattle.moves.proofs.Deciding.{laying?}
use Rattle.bench.specs.Sound.{number_in, state_at, saved_in, Sound}
use Rattle.bench.specs.Benches.{with_state}

-- ---- copying

-- The first i numbers of `from` are copied.
pub record Copied (from : List ℕ) (i : ℕ) (to : List ℕ) : Type 0 where
  pub same : length to ≡ length from
  pub first : take i to ≡ take i from

pub none_copied : (from to : List ℕ) → length from ≡ length to → Copied from 0 to
none_copied from to e = record { same = sym e; first = refl }

pub one_copied : {from to : List ℕ} {i : ℕ} → Copied from i to → i < length to → Copied from (i + 1) (set to i (get_or from i 0))
one_copied {from} {to} {i} h k =
    let e : i + 1 ≡ suc i = omega arith in
    let x = get_or from i 0 in
    rw e
    (record {
      same = length-set to i x ∙ h.same;
      first =
          take-suc-set to i x k ∙ ap (λ (l : List ℕ). l ++ (x ∷ [])) h.first ∙ sym (take-suc from i 0 (omega (arith, h.same)));
    })

pub all_copied : {from to : List ℕ} {i : ℕ} → Copied from i to → length to ≤ i → to ≡ from
all_copied {from} {to} {i} h k = sym (take_all i to k) ∙ h.first ∙ take_all i from (omega (arith, h.same))

-- ---- a state that is lent on

pub state_lent : (i at : ℕ) (bench : List ℕ) → at ≡ 41 * i → mid_of at (at + 41 - at) bench ≡ state_at i bench
unfolding state_at
state_lent i at bench e = let k : at + 41 - at ≡ 41 = omega arith in rw (k, e)

pub state_put : (i at : ℕ) (bench rows : List ℕ) → at ≡ 41 * i → put_mid at (at + 41 - at) bench rows ≡ with_state i rows bench
unfolding with_state
state_put i at bench rows e =
    ap (λ (l : List ℕ). take at bench ++ (rows ++ l)) (Post-is at (at + 41) bench (omega arith))
    ∙ ap (λ (j : ℕ). take j bench ++ (rows ++ drop (j + 41) bench)) e

-- The first 41 numbers of those from the place of a state on are the state.
pub state_chunk : (i at : ℕ) (bench : List ℕ) → at ≡ 41 * i → i < 9 → take 41 (mid_of at (378 - at) bench) ≡ state_at i bench
unfolding state_at
state_chunk i at bench e h = take-take 41 (378 - at) (drop at bench) (omega arith) ∙ ap (λ (k : ℕ). take 41 (drop k bench)) e

-- A state copied over another.
pub state_copied : (from to : ℕ) (bench : List ℕ)
    → copy_within bench (41 * from) (41 * from + 41) (41 * to) ≡ with_state to (state_at from bench) bench
unfolding with_state state_at
state_copied from to bench =
    let k : 41 * from + 41 - 41 * from ≡ 41 = omega arith in
    rw k (append_assoc (take (41 * to) bench) (take 41 (drop (41 * from) bench)) (drop (41 * to + 41) bench))

-- ---- a sound bench

-- What the code finds out of a name.
pub state_lost : (r : Bool) (n : ℕ) {P : Type 0} (R S : List ℕ)
    → R ≡ S → (P → ⊥) → IsTrue r ↔ Laying n R → IsTrue (not r) ↔ ((P → ⊥) × (Laying n S → ⊥))
state_lost true n R S e p h = (λ q. absurd (false≢true q), λ f. absurd (f.1 (rw e at (h.0 refl))))
state_lost false n R S e p h = (λ q. (p, λ w. false≢true (h.1 (rw e w))), λ f. refl)

-- Of the names below k, each saved state is a chain of n.
pub record SavedBelow (n k : ℕ) (bench : List ℕ) : Type 0 where
  pub chains : (name : ℕ) → name < k → (saved_in name bench ≡ 0 → ⊥) → Laying n (state_at (suc name) bench)

pub none_saved : (n : ℕ) (bench : List ℕ) → SavedBelow n 0 bench
none_saved n bench = record { chains = λ name h. absurd (omega arith) }

pub one_saved : {n k : ℕ} {bench : List ℕ}
    → SavedBelow n k bench → ((saved_in k bench ≡ 0 → ⊥) → Laying n (state_at (suc k) bench)) → SavedBelow n (k + 1) bench
one_saved {n} {k} {bench} h w =
    record {
      chains = below_more (λ (name : ℕ). (saved_in name bench ≡ 0 → ⊥) → Laying n (state_at (suc name) bench)) k h.chains w;
    }

pub one_found : {n k : ℕ} {bench : List ℕ}
    → SavedBelow n k bench
    → n < 2 ^ 64
    → ((saved_in k bench ≡ 0 → ⊥) × (Laying n (state_at (suc k) bench) → ⊥) → ⊥)
    → SavedBelow n (k + 1) bench
one_found {n} {k} {bench} h l f = one_saved h (λ u. go (laying? n (state_at (suc k) bench) l) u)
  where
    go : Dec (Laying n (state_at (suc k) bench)) → (saved_in k bench ≡ 0 → ⊥) → Laying n (state_at (suc k) bench)
    go (yes w) u = w
    go (no w) u = absurd (f (u, w))

module _ (bench : List ℕ) where
  pub present_lent : mid_of 0 (41 - 0) bench ≡ state_at 0 bench
  present_lent = state_lent 0 0 bench refl

  pub all_sound : {k : ℕ} → get_or bench 369 0 < 2 ^ 64
      → Laying (get_or bench 369 0) (mid_of 0 (41 - 0) bench) → SavedBelow (get_or bench 369 0) k bench → 8 ≤ k → Sound bench
  unfolding number_in
  all_sound f p s h = record { fits = f; present = rw present_lent at p; saved = λ name l. s.chains name (omega arith) }

  pub present_unsound : (Laying (get_or bench 369 0) (mid_of 0 (41 - 0) bench) → ⊥) → Sound bench → ⊥
  unfolding number_in
  present_unsound p s = p (rw present_lent s.present)

  pub saved_unsound : (k : ℕ) → k < 8
      → (saved_in k bench ≡ 0 → ⊥) × (Laying (get_or bench 369 0) (state_at (suc k) bench) → ⊥) → Sound bench → ⊥
  unfolding number_in
  saved_unsound k h w s = w.1 (s.saved k h w.0)

-- The present state lent on, and put back as it was.
pub same_present : (bench rows : List ℕ) → rows ≡ state_at 0 bench → put_mid 0 (41 - 0) bench rows ≡ bench
unfolding state_at
same_present bench rows e = rw e (take-append-drop 41 bench)

-- ---- the first 378 numbers, lent on as a bench

state_first : (i : ℕ) (l : List ℕ) → i < 9 → state_at i (take 378 l) ≡ state_at i l
unfolding state_at
state_first i l h =
    let e : 378 ≡ 41 * i + (378 - 41 * i) = omega arith in
    ap (λ (k : ℕ). take 41 (drop (41 * i) (take k l))) e
    ∙ ap (take 41) (drop-take (41 * i) (378 - 41 * i) l)
    ∙ take-take 41 (378 - 41 * i) (drop (41 * i) l) (omega arith)

-- What comes back in them, with the numbers after it.
pub first_copied : {from to : ℕ} {first after : List ℕ} (l : List ℕ) → from < 9 → to < 9 → first ≡ take 378 l
    → after ≡ with_state to (state_at from first) first → after ++ drop 378 l ≡ with_state to (state_at from l) l
unfolding with_state
first_copied {from} {to} l f t same copied =
    let k = 41 * to + 41 in
    let e : 378 ≡ k + (378 - k) = omega arith in
    let behind : drop k (take 378 l) ++ drop 378 l ≡ drop k l =
    ap (λ (j : ℕ). drop k (take j l) ++ drop j l) e
    ∙ ap (λ (x : List ℕ). x ++ drop (k + (378 - k)) l) (drop-take k (378 - k) l)
    ∙ ap (λ (x : List ℕ). take (378 - k) (drop k l) ++ x) (sym (drop-drop (378 - k) k l))
    ∙ take-append-drop (378 - k) (drop k l) in
    rw (copied, same)
    (append_assoc (take (41 * to) (take 378 l)) _ (drop 378 l)
    ∙ ap (λ (x : List ℕ). x ++ ((state_at from (take 378 l) ++ drop k (take 378 l)) ++ drop 378 l)) (take-take (41 * to) 378 l (omega arith))
    ∙ ap (λ (x : List ℕ). take (41 * to) l ++ x)
    (append_assoc (state_at from (take 378 l)) _ (drop 378 l)
    ∙ ap (λ (x : List ℕ). x ++ (drop k (take 378 l) ++ drop 378 l)) (state_first from l f)
    ∙ ap (λ (x : List ℕ). state_at from l ++ x) behind))

-- They are sound where the whole is.
pub sound_first : (l : List ℕ) → Sound (take 378 l) ↔ Sound l
unfolding number_in saved_in
sound_first l = (to, from)
  where
    n : get_or (take 378 l) 369 0 ≡ get_or l 369 0
    n = get_or-take 378 l 369 0 (omega arith)

    v : (name : ℕ) → name < 8 → get_or (take 378 l) (370 + name) 0 ≡ get_or l (370 + name) 0
    v name h = get_or-take 378 l (370 + name) 0 (omega arith)

    to : Sound (take 378 l) → Sound l
    to s = record {
      fits = rw n at s.fits;
      present = rw (n, state_first 0 l (omega arith)) at s.present;
      saved = λ name b u. rw (n, state_first (suc name) l (omega arith)) at (s.saved name b (λ e. u (sym (v name b) ∙ e)));
    }

    from : Sound l → Sound (take 378 l)
    from s = record {
      fits = rw n s.fits;
      present = rw (n, state_first 0 l (omega arith)) s.present;
      saved = λ name b u. rw (n, state_first (suc name) l (omega arith)) (s.saved name b (λ e. u (v name b ∙ e)));
    }
