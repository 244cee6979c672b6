-- What is kept where one state of a bench changes: the other states, n, the names and the length.
-- In this order: other rows as a state; the present chain replaced; the present chain saved; a bench just opened.
use Rattle.std.specs.Prelude.{◌≡◌, refl, ◌⊎◌, List, [], ◌∷◌, ◌++◌, ℕ, suc, ◌+◌, ◌-◌, ◌*◌, ◌^◌, ◌≤◌, ◌<◌, min, length, get_or, set, take, drop}
use Rattle.std.proofs.Common.{sym, ap, ◌∙◌, inl, inr, append_assoc, arith, length-append, length-set, length-drop, length-take, length-take-le, take_at, drop_at, drop-drop, get_or-take, get_or-drop, ext_get_or, get_or-set_same, get_or-set_other}
use Rattle.std.proofs.Math.Decide.{dec_lt, ℕ_discrete}
use Rattle.std.proofs.lemmas.List.{get_or_at}
use Rattle.lent.specs.Lent.{zeros}
use Rattle.lent.specs.LentLaws.{length_zeros, zeros_at}
use Rattle.chains.specs.Chains.{Part, ChainOf}
use Rattle.moves.specs.Rows.{rows_of, Laying}
use Rattle.moves.proofs.Layouts.{length_rows}
use Rattle.bench.specs.Sound.{number_in, state_at, saved_in, Sound}
use Rattle.bench.specs.Benches.{with_state, with_saved, opened}

-- ---- other rows as a state

-- What a bench still has after its state i became R.
pub record Changed (i : ℕ) (R l m : List ℕ) : Type 0 where
  pub same : length m ≡ length l
  pub own : state_at i m ≡ R
  pub others : (k : ℕ) → (k < 41 * i) ⊎ (41 * i + 41 ≤ k) → get_or m k 0 ≡ get_or l k 0

pub changed : (i : ℕ) (R l : List ℕ) → i < 9 → length R ≡ 41 → 378 ≤ length l → Changed i R l (with_state i R l)
unfolding with_state state_at
changed i R l h n k = record { same = same; own = own; others = others }
  where
    at : ℕ
    at = 41 * i

    m : List ℕ
    m = take at l ++ (R ++ drop (at + 41) l)

    first : length (take at l) ≡ at
    first = length-take-le at l (omega arith)

    middle : drop at m ≡ R ++ drop (at + 41) l
    middle = drop_at (take at l) (R ++ drop (at + 41) l) at first

    last : drop (at + 41) m ≡ drop (at + 41) l
    last = sym (drop-drop 41 at m) ∙ ap (drop 41) middle ∙ drop_at R (drop (at + 41) l) 41 n

    same : length m ≡ length l
    same =
        omega (
          arith,
          first,
          length-append (take at l) (R ++ drop (at + 41) l),
          length-append R (drop (at + 41) l),
          length-drop (at + 41) l,
        )

    own : take 41 (drop at m) ≡ R
    own = ap (take 41) middle ∙ take_at R (drop (at + 41) l) 41 n

    others : (j : ℕ) → (j < at) ⊎ (at + 41 ≤ j) → get_or m j 0 ≡ get_or l j 0
    others j (inl b) =
        sym (get_or-take at m j 0 b) ∙ ap (λ (x : List ℕ). get_or x j 0) (take_at (take at l) (R ++ drop (at + 41) l) at first) ∙ get_or-take at l j 0 b
    others j (inr b) =
        let e : at + 41 + (j - (at + 41)) ≡ j = omega arith in
        ap (λ (x : ℕ). get_or m x 0) (sym e)
        ∙ sym (get_or-drop (at + 41) m (j - (at + 41)) 0)
        ∙ ap (λ (x : List ℕ). get_or x (j - (at + 41)) 0) last
        ∙ get_or-drop (at + 41) l (j - (at + 41)) 0
        ∙ ap (λ (x : ℕ). get_or l x 0) e

-- States by their numbers.
pub same_state :
    (j : ℕ) (l m : List ℕ)
    → length m ≡ length l
    → ((k : ℕ) → k < 41 → get_or m (41 * j + k) 0 ≡ get_or l (41 * j + k) 0)
    → state_at j m ≡ state_at j l
unfolding state_at
same_state j l m s f =
    ext_get_or 0 (take 41 (drop (41 * j) m)) (take 41 (drop (41 * j) l))
    (simp (length-take, length-drop) (ap (λ (i : ℕ). min 41 (i - 41 * j)) s))
    (λ k h.
    let b : k < 41 = omega (arith, length-take 41 (drop (41 * j) m)) in
    get_or-take 41 (drop (41 * j) m) k 0 b ∙ get_or-drop (41 * j) m k 0 ∙ f k b
    ∙ sym (get_or-take 41 (drop (41 * j) l) k 0 b ∙ get_or-drop (41 * j) l k 0))

pub other_state : (i j : ℕ) (R l m : List ℕ) → Changed i R l m → (j ≡ i → ⊥) → state_at j m ≡ state_at j l
other_state i j R l m c e = same_state j l m c.same (λ k b. c.others (41 * j + k) (go (dec_lt j i) k b))
  where
    go : Dec (j < i) → (k : ℕ) → k < 41 → (41 * j + k < 41 * i) ⊎ (41 * i + 41 ≤ 41 * j + k)
    go (yes h) k b = inl (omega arith)
    go (no h) k b = inr (omega arith)

-- n and the names.
pub same_number : (i : ℕ) (R l m : List ℕ) → Changed i R l m → i < 9 → number_in m ≡ number_in l
unfolding number_in
same_number i R l m c h = c.others 369 (inr (omega arith))

pub same_saved : (i : ℕ) (R l m : List ℕ) → Changed i R l m → i < 9 → (name : ℕ) → saved_in name m ≡ saved_in name l
unfolding saved_in
same_saved i R l m c h name = c.others (370 + name) (inr (omega arith))

-- ---- the present chain replaced

-- A bench stays sound with another chain of its n at hand, and keeps its names.
pub record Kept (l m : List ℕ) : Type 0 where
  pub same : length m ≡ length l
  pub number : number_in m ≡ number_in l
  pub sound : Sound m
  pub names : (name : ℕ) → name < 8 → (saved_in name m ≡ saved_in name l) × (state_at (suc name) m ≡ state_at (suc name) l)

pub kept_none : (l : List ℕ) → Sound l → Kept l l
kept_none l s = record { same = refl; number = refl; sound = s; names = λ name h. (refl, refl) }

laying_length : {n : ℕ} {R : List ℕ} → Laying n R → length R ≡ 41
laying_length w = ap length w.rows ∙ length_rows 41 w.chain

pub length_present : (l : List ℕ) → Sound l → length (state_at 0 l) ≡ 41
length_present l s = laying_length s.present

pub kept_present : (R l : List ℕ) → 378 ≤ length l → Sound l → Laying (number_in l) R → Kept l (with_state 0 R l)
kept_present R l h s w =
    let c = changed 0 R l (omega arith) (laying_length w) h in
    let n = same_number 0 R l (with_state 0 R l) c (omega arith) in
    let v : (name : ℕ) → saved_in name (with_state 0 R l) ≡ saved_in name l = same_saved 0 R l (with_state 0 R l) c (omega arith) in
    let o : (name : ℕ) → state_at (suc name) (with_state 0 R l) ≡ state_at (suc name) l =
    λ name. other_state 0 (suc name) R l (with_state 0 R l) c (λ e. omega arith) in
    record {
      same = c.same;
      number = n;
      sound = record {
        fits = omega (arith, n, s.fits);
        present = rw (n, c.own) w;
        saved = λ name b u. rw (n, o name) (s.saved name b (λ e. u (v name ∙ e)));
      };
      names = λ name b. (v name, o name);
    }

-- ---- the present chain saved

-- After saving under a name: the name has the present chain, and everything else is as it was.
pub record SavedUnder (name : ℕ) (l m : List ℕ) : Type 0 where
  pub same : length m ≡ length l
  pub number : number_in m ≡ number_in l
  pub sound : Sound m
  pub present : state_at 0 m ≡ state_at 0 l
  pub own : (saved_in name m ≡ 1) × (state_at (suc name) m ≡ state_at 0 l)
  pub others :
      (other : ℕ)
      → other < 8
      → (other ≡ name → ⊥)
      → (saved_in other m ≡ saved_in other l) × (state_at (suc other) m ≡ state_at (suc other) l)

pub saved_under : (name : ℕ) (l : List ℕ) → name < 8 → 378 ≤ length l → Sound l → SavedUnder name l (with_saved name l)
unfolding with_saved saved_in number_in
saved_under name l h k s = record { same = same; number = number; sound = sound; present = present; own = own; others = others }
  where
    w : List ℕ
    w = with_state (suc name) (state_at 0 l) l

    m : List ℕ
    m = set w (370 + name) 1

    c : Changed (suc name) (state_at 0 l) l w
    c = changed (suc name) (state_at 0 l) l (omega arith) (laying_length s.present) k

    same : length m ≡ length l
    same = length-set w (370 + name) 1 ∙ c.same

    -- The states are before the names.
    state : (j : ℕ) → j < 9 → state_at j m ≡ state_at j w
    state j b = same_state j w m (length-set w (370 + name) 1) (λ i d. get_or-set_other w (370 + name) (41 * j + i) 1 0 (λ e. omega arith))

    number : get_or m 369 0 ≡ get_or l 369 0
    number = get_or-set_other w (370 + name) 369 1 0 (λ e. omega arith) ∙ c.others 369 (inr (omega arith))

    present : state_at 0 m ≡ state_at 0 l
    present = state 0 (omega arith) ∙ other_state (suc name) 0 (state_at 0 l) l w c (λ e. omega arith)

    own : (get_or m (370 + name) 0 ≡ 1) × (state_at (suc name) m ≡ state_at 0 l)
    own = (get_or-set_same w (370 + name) 1 0 (omega (arith, c.same)), state (suc name) (omega arith) ∙ c.own)

    others :
        (other : ℕ) → other < 8 → (other ≡ name → ⊥)
        → (get_or m (370 + other) 0 ≡ get_or l (370 + other) 0) × (state_at (suc other) m ≡ state_at (suc other) l)
    others other b e = (
      get_or-set_other w (370 + name) (370 + other) 1 0 (λ q. e (omega arith)) ∙ c.others (370 + other) (inr (omega arith)),
      state (suc other) (omega arith) ∙ other_state (suc name) (suc other) (state_at 0 l) l w c (λ q. e (omega arith)),
    )

    saved :
        (other : ℕ)
        → other < 8
        → (get_or m (370 + other) 0 ≡ 0 → ⊥)
        → Dec (other ≡ name)
        → Laying (get_or m 369 0) (state_at (suc other) m)
    saved other b u (yes e) = rw (e, number, own.1) s.present
    saved other b u (no e) = let o = others other b e in rw (number, o.1) (s.saved other b (λ q. u (o.0 ∙ q)))

    sound : Sound m
    sound =
        record {
          fits = omega (arith, number, s.fits);
          present = rw (number, present) s.present;
          saved = λ other b u. saved other b u (ℕ_discrete other name);
        }

-- ---- a bench just opened

pub record Opened (n : ℕ) (c : List Part) (l : List ℕ) : Type 0 where
  pub number : number_in l ≡ n
  pub present : state_at 0 l ≡ rows_of 41 c
  pub names : (name : ℕ) → name < 8 → saved_in name l ≡ 0

pub opened_is : (n : ℕ) (c : List Part) (entry : List ℕ) → Opened n c (opened n c entry)
unfolding opened number_in state_at saved_in
opened_is n c entry =
    let R = rows_of 41 c in
    let t = zeros 8 ++ drop 378 entry in
    let e : R ++ (zeros 328 ++ (n ∷ t)) ≡ (R ++ zeros 328) ++ (n ∷ t) = sym (append_assoc R (zeros 328) (n ∷ t)) in
    let k : length (R ++ zeros 328) ≡ 369 = omega (arith, length-append R (zeros 328), length_rows 41 c, length_zeros 328) in
    let f : (R ++ zeros 328) ++ (n ∷ t) ≡ ((R ++ zeros 328) ++ (n ∷ [])) ++ t = sym (append_assoc (R ++ zeros 328) (n ∷ []) t) in
    let g : length ((R ++ zeros 328) ++ (n ∷ [])) ≡ 370 = omega (arith, length-append (R ++ zeros 328) (n ∷ []), k) in
    record {
      number = ap (λ (x : List ℕ). get_or x 369 0) e ∙ get_or_at (R ++ zeros 328) n t 0 369 k;
      present = take_at R (zeros 328 ++ (n ∷ t)) 41 (length_rows 41 c);
      names = λ name h.
          sym (get_or-drop 370 (R ++ (zeros 328 ++ (n ∷ t))) name 0)
          ∙ ap (λ (x : List ℕ). get_or x name 0) (ap (drop 370) (e ∙ f) ∙ drop_at ((R ++ zeros 328) ++ (n ∷ [])) t 370 g)
          ∙ sym (get_or-take 8 t name 0 h)
          ∙ ap (λ (x : List ℕ). get_or x name 0) (take_at (zeros 8) (drop 378 entry) 8 (length_zeros 8))
          ∙ zeros_at 8 name;
    }

pub opened_sound : (n : ℕ) (c : List Part) (entry : List ℕ) → n < 2 ^ 64 → ChainOf n c → Sound (opened n c entry)
opened_sound n c entry l h =
    let o = opened_is n c entry in
    record {
      fits = omega (arith, o.number);
      present = rw (o.number, o.present) (record { chain = c; of_n = h; rows = refl });
      saved = λ name b u. absurd (u (o.names name b));
    }
