-- What the services answer and leave, as their code finds it out.
-- In this order: what every service looks at first; opening; moving; saving and coming back; walking; telling.
use Rattle.std.specs.Prelude.{◌≡◌, Result, Ok, Err, Bool, length, set, drop}
use Rattle.std.proofs.Math.Path.{refl, sym, ap, ap₂}
use Rattle.std.proofs.Math.Decide.{dec_lt}
use Rattle.std.specs.Result.{is_ok, MatchResult}
use Rattle.std.proofs.lemmas.Bool.{false≢true}
use Rattle.bench.specs.declared.amounts.Kind.{Kind}
use Rattle.bench.specs.Planning.{kind_number, kind_of}
use Rattle.bench.proofs.MovedRows.{other_kind, unknown_kind}
use Rattle.std.proofs.Common.{◌∙◌, arith, drop_at}
use mathlib.Core.List.{List, [], ◌++◌, map}
use Prim.Native.Nat.{ℕ, suc, ◌+◌, ◌-◌, ◌^◌, ◌≤◌, ◌<◌}
use Rattle.std.specs.Int.Count.{ones}
use Rattle.std.proofs.lemmas.List.{length-map}
use Rattle.std.proofs.Math.Seq.{take_at}
use borrow.Rule.Slice.PartMut.{mid_of, put_mid}
use borrow.Author.Tests.{lt-ltb, le-ltb, eq-eqb, ne_eqb}
use Rattle.chains.specs.Chains.{Part, Chained, total}
use Rattle.chains.proofs.Bounds.{parts_bound}
use Rattle.refusals.specs.declared.Refusal.{Refusal}
use Rattle.refusals.specs.declared.Refusal.TheVariants.{LittleLent, NoMove, NoSuchName}
use Rattle.lent.specs.Lent.{zeros, filled}
use Rattle.lent.specs.LentLaws.{length_zeros, length_filled, cleared}
use Rattle.parts.specs.Parts.{part_number}
use Rattle.words.specs.Records.{judged_of}
use Rattle.moves.specs.Moves.{Move}
use Rattle.moves.specs.Rows.{Rows, Held, rows_of}
use Rattle.moves.specs.Walks.{WalkRows}
use Rattle.moves.specs.RowMoves.{RowMove}
use Rattle.moves.proofs.MoveLaws.{MoveFor, move_for, move_one, move_tie, move_keeps, chain_held}
use Rattle.moves.proofs.Deciding.{movable}
use Rattle.moves.proofs.Ends.{walk_one}
use Rattle.moves.proofs.WalkLaws.{the_walk, walk_rows, walk_ones}
use Rattle.bench.specs.declared.Walked.{Walked}
use Rattle.bench.specs.declared.Told.{Told}
use Rattle.bench.specs.Telling.{Tellable, ToldRows}
use Rattle.bench.specs.Sound.{number_in, state_at, saved_in, Sound}
use Rattle.bench.specs.Judging.{sound?}
use Rattle.bench.proofs.StateLaws.{same_present}
use Rattle.bench.specs.Benches.{bench_size, with_state, with_saved, decided, on_bench, ready, Outcome, answer_of}
use Rattle.bench.specs.Benches.{bench_left, open_outcome, opened_as, move_outcome, save_outcome, back_outcome, walked_of, walk_left}
use Rattle.bench.specs.Benches.{walk_of, told_of, places_left}

-- What a walk and telling answer.
abbrev pub walked : ℕ → ℕ → Result Walked Refusal
walked j k = Ok (record { moves = j; k = k })

abbrev pub told : ℕ → ℕ → Result Told Refusal
told n k = Ok (record { n = n; k = k })

err_same : (q r : Refusal) → ◌≡◌ {A = Result (Unit {0}) Refusal} (Err q) (Err r) → q ≡ r
err_same q r e = cc

-- ---- what every service looks at first

-- Fewer numbers than a bench has.
pub on_little :
    {A : Type 0} (refuse : Refusal → A) (bench : List ℕ) (f : Sound bench → A)
    → length bench < 378
    → on_bench refuse bench f ≡ refuse LittleLent
unfolding on_bench
on_little refuse bench f h = rw (lt-ltb (length bench) bench_size h)

-- A bench that is not sound.
pub on_lost :
    {A : Type 0} (refuse : Refusal → A) (bench : List ℕ) (f : Sound bench → A)
    → 378 ≤ length bench
    → (Sound bench → ⊥)
    → on_bench refuse bench f ≡ refuse NoMove
unfolding on_bench decided
on_lost {A} refuse bench f h k = rw (le-ltb (length bench) bench_size h) (go (sound? bench))
  where
    go : (d : Dec (Sound bench)) → decided d f (refuse NoMove) ≡ refuse NoMove
    go (yes s) = absurd (k s)
    go (no s) = refl

-- A sound bench: what holds of f, whatever the proof.
pub on_each :
    {A : Type 0} (P : A → Type 0) (refuse : Refusal → A) (bench : List ℕ) (f : Sound bench → A)
    → 378 ≤ length bench → Sound bench → ((s : Sound bench) → P (f s)) → P (on_bench refuse bench f)
unfolding on_bench decided
on_each {A} P refuse bench f h k g = rw (le-ltb (length bench) bench_size h) (go (sound? bench))
  where
    go : (d : Dec (Sound bench)) → P (decided d f (refuse NoMove))
    go (yes s) = g s
    go (no s) = absurd (s k)

pub on_sound :
    {A : Type 0} (refuse : Refusal → A) (bench : List ℕ) (f : Sound bench → A) (x : A)
    → 378 ≤ length bench → Sound bench → ((s : Sound bench) → f s ≡ x) → on_bench refuse bench f ≡ x
on_sound refuse bench f x h k g = on_each (λ y. y ≡ x) refuse bench f h k g

-- What `ready` refuses, every service does.
pub ready_refused : {A : Type 0} (refuse : Refusal → A) (bench : List ℕ) (f : Sound bench → A) (r : Refusal)
    → ready bench ≡ Err r → on_bench refuse bench f ≡ refuse r
unfolding ready
ready_refused {A} refuse bench f r e = go (dec_lt (length bench) 378) (sound? bench)
  where
    same : (q : Refusal) → ready bench ≡ Err q → refuse q ≡ refuse r
    same q d = ap refuse (err_same q r (sym d ∙ e))

    go : Dec (length bench < 378) → Dec (Sound bench) → on_bench refuse bench f ≡ refuse r
    go (yes h) d = on_little refuse bench f h ∙ same LittleLent (on_little Err bench (λ s. Ok tt) h)
    go (no h) (yes s) = absurd (false≢true (ap is_ok (sym e ∙ on_sound Err bench (λ s. Ok tt) (Ok tt) (omega arith) s (λ s. refl))))
    go (no h) (no n) = on_lost refuse bench f (omega arith) n ∙ same NoMove (on_lost Err bench (λ s. Ok tt) (omega arith) n)

-- What holds in both cases of a decision.
pub decided_each :
    {A B : Type 0} (P : B → Type 0) (d : Dec A) (f : A → B) (otherwise : B)
    → ((a : A) → P (f a))
    → P otherwise
    → P (decided d f otherwise)
unfolding decided
decided_each P (yes a) f otherwise g p = g a
decided_each P (no a) f otherwise g p = p

-- ---- opening

pub open_little : (numbers entry : List ℕ) → length entry < 378 → open_outcome numbers entry ≡ Err LittleLent
unfolding open_outcome
open_little numbers entry h = rw (lt-ltb (length entry) bench_size h)

pub open_judged :
    (numbers entry : List ℕ) (j : Result ℕ Refusal)
    → 378 ≤ length entry
    → judged_of numbers ≡ j
    → open_outcome numbers entry ≡ opened_as numbers entry j
unfolding open_outcome
open_judged numbers entry j h e = rw (le-ltb (length entry) bench_size h, e)

-- ---- moving

-- What a sound bench has at hand.
pub sound_held : (bench : List ℕ) → Sound bench → Held (state_at 0 bench)
sound_held bench s = rw s.present.rows (chain_held (number_in bench) s.present.chain s.fits s.present.of_n).0

-- A move of the present chain is one of its state.
pub row_of_lem : (kind row : ℕ) (up : Bool) (bench : List ℕ) (s : Sound bench) (d : List Part)
    → Move kind up row s.present.chain d → RowMove kind up row (state_at 0 bench) (rows_of 41 d)
row_of_lem kind row up bench s d m =
    let n = number_in bench in
    let c = s.present.chain in
    rw s.present.rows ((move_tie n s.fits kind row up c d s.present.of_n (move_keeps n s.fits kind row up c d s.present.of_n m)).0 m)

pub move_little : (kind row : ℕ) (up : Bool) (bench : List ℕ) → length bench < 378 → move_outcome kind up row bench ≡ Err LittleLent
unfolding move_outcome
move_little kind row up bench h = on_little Err bench _ h

pub move_unready :
    (kind row : ℕ) (up : Bool) (bench : List ℕ) (r : Refusal) → ready bench ≡ Err r → move_outcome kind up row bench ≡ Err r
unfolding move_outcome
move_unready kind row up bench r e = ready_refused Err bench _ r e

module _ (kind row : ℕ) (up : Bool) (bench : List ℕ) (h : 378 ≤ length bench) where
  pub move_lost : (Sound bench → ⊥) → move_outcome kind up row bench ≡ Err NoMove
  unfolding move_outcome
  move_lost k = on_lost Err bench _ h k

  pub move_done :
      Sound bench
      → (R : Rows)
      → RowMove kind up row (state_at 0 bench) R
      → move_outcome kind up row bench ≡ Ok (with_state 0 R bench)
  unfolding move_outcome decided
  move_done k R w = on_sound Err bench _ (Ok (with_state 0 R bench)) h k each
    where
      each : (s : Sound bench)
          → decided (movable kind row up (number_in bench) s.present.chain s.fits s.present.of_n)
          (λ m. Ok (with_state 0 (rows_of 41 m.0) bench)) (Err NoMove)
          ≡ Ok (with_state 0 R bench)
      each s = go (movable kind row up n c s.fits s.present.of_n)
        where
          n : ℕ
          n = number_in bench

          c : List Part
          c = s.present.chain

          f : MoveFor n s.fits kind row up c R
          f = move_for n s.fits kind row up c R s.present.of_n (rw s.present.rows at w)

          go : (d : Dec ((d : List Part) × Move kind up row c d))
              → decided d (λ m. Ok (with_state 0 (rows_of 41 m.0) bench)) (Err NoMove) ≡ Ok (with_state 0 R bench)
          go (yes (d, m)) =
              let e : d ≡ f.after = move_one n s.fits kind row up c d f.after s.present.of_n m f.move in
              let q : rows_of 41 d ≡ R = ap (rows_of 41) e ∙ sym f.rows in
              ap (λ (x : Rows). Ok (with_state 0 x bench)) q
          go (no g) = absurd (g (f.after, f.move))

  pub move_stuck :
      Sound bench
      → ((R : Rows) → RowMove kind up row (state_at 0 bench) R → ⊥)
      → move_outcome kind up row bench ≡ Err NoMove
  unfolding move_outcome decided
  move_stuck k g = on_sound Err bench _ (Err NoMove) h k each
    where
      each : (s : Sound bench)
          → decided (movable kind row up (number_in bench) s.present.chain s.fits s.present.of_n)
          (λ m. Ok (with_state 0 (rows_of 41 m.0) bench)) (Err NoMove)
          ≡ Err NoMove
      each s = go (movable kind row up (number_in bench) s.present.chain s.fits s.present.of_n)
        where
          go : (d : Dec ((d : List Part) × Move kind up row s.present.chain d))
              → decided d (λ m. Ok (with_state 0 (rows_of 41 m.0) bench)) (Err NoMove) ≡ Err NoMove
          go (yes (d, m)) = absurd (g (rows_of 41 d) (row_of_lem kind row up bench s d m))
          go (no x) = refl

-- No kind of move has such a number.
pub move_unknown :
    (kind row : ℕ) (up : Bool) (bench : List ℕ) (r : Refusal)
    → 378 ≤ length bench → Sound bench → kind_of kind ≡ Err r → move_outcome kind up row bench ≡ Err r
move_unknown kind row up bench r h k e =
    rw (← unknown_kind kind r e) (move_stuck kind row up bench h k (λ R w. other_kind kind up row _ R r e w))

-- ---- saving and coming back

module _ (name : ℕ) (bench : List ℕ) where
  pub save_little : length bench < 378 → save_outcome name bench ≡ Err LittleLent
  unfolding save_outcome
  save_little h = on_little Err bench _ h

  pub save_lost : 378 ≤ length bench → (Sound bench → ⊥) → save_outcome name bench ≡ Err NoMove
  unfolding save_outcome
  save_lost h k = on_lost Err bench _ h k

  pub back_little : length bench < 378 → back_outcome name bench ≡ Err LittleLent
  unfolding back_outcome
  back_little h = on_little Err bench _ h

  pub back_lost : 378 ≤ length bench → (Sound bench → ⊥) → back_outcome name bench ≡ Err NoMove
  unfolding back_outcome
  back_lost h k = on_lost Err bench _ h k

  pub save_unready : (r : Refusal) → ready bench ≡ Err r → save_outcome name bench ≡ Err r
  unfolding save_outcome
  save_unready r e = ready_refused Err bench _ r e

  pub back_unready : (r : Refusal) → ready bench ≡ Err r → back_outcome name bench ≡ Err r
  unfolding back_outcome
  back_unready r e = ready_refused Err bench _ r e

-- The states that the code copies.
pub saved_as :
    (name : ℕ) (entry l : List ℕ)
    → l ≡ with_state (name + 1) (state_at 0 entry) entry
    → set l (370 + name) 1 ≡ with_saved name entry
unfolding with_saved
saved_as name entry l e =
    let q : name + 1 ≡ suc name = omega arith in
    ap (λ (t : List ℕ). set t (370 + name) 1) (e ∙ ap (λ (j : ℕ). with_state j (state_at 0 entry) entry) q)

pub back_as :
    (name : ℕ) (entry l : List ℕ)
    → l ≡ with_state 0 (state_at (name + 1) entry) entry
    → l ≡ with_state 0 (state_at (suc name) entry) entry
back_as name entry l e = let q : name + 1 ≡ suc name = omega arith in e ∙ ap (λ (j : ℕ). with_state 0 (state_at j entry) entry) q

module _ (name : ℕ) (bench : List ℕ) (h : 378 ≤ length bench) (k : Sound bench) where
  pub save_done : name ≤ 7 → save_outcome name bench ≡ Ok (with_saved name bench)
  unfolding save_outcome
  save_done l = on_sound Err bench _ (Ok (with_saved name bench)) h k (λ s. rw (le-ltb 7 name l))

  pub save_refused : 7 < name → save_outcome name bench ≡ Err NoSuchName
  unfolding save_outcome
  save_refused l = on_sound Err bench _ (Err NoSuchName) h k (λ s. rw (lt-ltb 7 name l))

  pub back_refused : 7 < name → back_outcome name bench ≡ Err NoSuchName
  unfolding back_outcome
  back_refused l = on_sound Err bench _ (Err NoSuchName) h k (λ s. rw (lt-ltb 7 name l))

  pub back_never : name ≤ 7 → saved_in name bench ≡ 0 → back_outcome name bench ≡ Err NoSuchName
  unfolding back_outcome
  back_never l e = on_sound Err bench _ (Err NoSuchName) h k (λ s. rw (le-ltb 7 name l, eq-eqb (saved_in name bench) 0 e))

  pub back_done :
      name ≤ 7
      → (saved_in name bench ≡ 0 → ⊥)
      → back_outcome name bench ≡ Ok (with_state 0 (state_at (suc name) bench) bench)
  unfolding back_outcome
  back_done l e =
      on_sound Err bench _ (Ok (with_state 0 (state_at (suc name) bench) bench)) h k
      (λ s. rw (le-ltb 7 name l, ne_eqb (saved_in name bench) 0 e))

-- ---- walking

module _ (bench : List ℕ) (h : 378 ≤ length bench) (k : Sound bench) (D : Rows) (j : ℕ) (w : WalkRows (state_at 0 bench) j D) where
  -- The walk of the rows is that of the chain.
  same_walk :
      (s : Sound bench)
      → ((walk_of bench s).moves ≡ j) × (rows_of 41 (walk_of bench s).last ≡ D) × (length (walk_of bench s).last ≡ ones (number_in bench))
  unfolding walk_of
  same_walk s =
      let n = number_in bench in
      let c = s.present.chain in
      let t = the_walk n s.fits c s.present.of_n in
      let w' : WalkRows (rows_of 41 c) j D = rw s.present.rows at w in
      let r =
      walk_one (chain_held n c s.fits s.present.of_n).0.fits (walk_rows n s.fits s.present.of_n t.walk) w' in
      (r.0, r.1, walk_ones n s.fits c t.last t.moves s.present.of_n t.walk)

  pub walk_told : walked_of bench ≡ walked j (ones (number_in bench))
  unfolding walked_of
  walk_told =
      on_sound Err bench _ (walked j (ones (number_in bench))) h k
      (λ s. let r = same_walk s in ap₂ (λ (x y : ℕ). walked x y) r.0 r.2)

  pub walk_left_lem : walk_left bench ≡ with_state 0 D bench
  unfolding walk_left
  walk_left_lem = on_sound (λ r. bench) bench _ (with_state 0 D bench) h k (λ s. ap (λ (x : Rows). with_state 0 x bench) (same_walk s).1)

pub walk_made :
    (bench : List ℕ) → 378 ≤ length bench → Sound bench → (D : Rows) (j : ℕ) → WalkRows (state_at 0 bench) j D
    → (walked j (ones (number_in bench)) ≡ walked_of bench) × (with_state 0 D bench ≡ walk_left bench)
walk_made bench h k D j w = (sym (walk_told bench h k D j w), sym (walk_left_lem bench h k D j w))

pub walk_little : (bench : List ℕ) → length bench < 378 → (Err LittleLent ≡ walked_of bench) × (bench ≡ walk_left bench)
unfolding walked_of walk_left
walk_little bench h = (sym (on_little Err bench _ h), sym (on_little (λ r. bench) bench _ h))

pub walk_lost :
    (bench : List ℕ)
    → 378 ≤ length bench
    → (Sound bench → ⊥)
    → (Err NoMove ≡ walked_of bench) × (bench ≡ walk_left bench)
unfolding walked_of walk_left
walk_lost bench h k = (sym (on_lost Err bench _ h k), sym (on_lost (λ r. bench) bench _ h k))

pub walk_unready : (bench : List ℕ) (r : Refusal) → ready bench ≡ Err r → (Err r ≡ walked_of bench) × (bench ≡ walk_left bench)
unfolding walked_of walk_left
walk_unready bench r e = (sym (ready_refused Err bench _ r e), sym (ready_refused (λ r. bench) bench _ r e))

-- ---- what is answered and left, by the outcome

pub told_refused :
    (o : Outcome) (r : Refusal) (entry : List ℕ)
    → o ≡ Err r
    → (Err r ≡ answer_of o) × (entry ≡ bench_left o entry)
unfolding answer_of bench_left
told_refused o r entry e = rw e (refl, refl)

pub told_left :
    (o : Outcome) (l entry exit : List ℕ)
    → o ≡ Ok l
    → exit ≡ l
    → (Ok tt ≡ answer_of o) × (exit ≡ bench_left o entry)
unfolding answer_of bench_left
told_left o l entry exit e k = rw e (refl, k)

-- What moving the rows of a sound bench answered.
pub move_told :
    (number row : ℕ) (up : Bool) (bench : List ℕ) (kind : Kind) (b : ℕ) (x : Result (Unit {0}) Refusal) (R : Rows)
    → 378 ≤ length bench
    → Sound bench
    → kind_number kind ≡ number
    → b ≡ row
    → MatchResult x (λ _. RowMove (kind_number kind) up b (state_at 0 bench) R)
    (λ e. (e ≡ NoMove) × (R ≡ state_at 0 bench) × ((R' : Rows) → RowMove (kind_number kind) up b (state_at 0 bench) R' → ⊥))
    → (x ≡ answer_of (move_outcome number up row bench)) × (with_state 0 R bench ≡ bench_left (move_outcome number up row bench) bench)
unfolding with_state state_at
move_told number row up bench kind b (Ok u) R h s k c w =
    told_left _ _ bench _ (move_done number row up bench h s R (rw (k, c) at w)) refl
move_told number row up bench kind b (Err e) R h s k c (z, q, g) =
    let t = told_refused _ NoMove bench (move_stuck number row up bench h s (rw (k, c) at g)) in
    rw (z, q) (t.0, same_present bench (state_at 0 bench) refl ∙ t.1)

-- The same as the clauses of such a service, of a refusal that it passes on, of one of its own, and of what it leaves.
module _ (o : Outcome) (entry : List ℕ) where
  pub refusing : (r : Refusal) → o ≡ Err r → record { answer : Err r ≡ answer_of o; bench : entry ≡ bench_left o entry }
  refusing r e = let t = told_refused o r entry e in record { answer = t.0; bench = t.1 }

  pub passing : {x : Result (Unit {0}) Refusal} {r : Refusal}
      → ((e : Refusal) × (x ≡ Err e) × (e ≡ r)) → o ≡ Err r → record { answer : x ≡ answer_of o; bench : entry ≡ bench_left o entry }
  passing p e = rw (p.1, p.2) (refusing _ e)

  pub leaving : {l exit : List ℕ} → o ≡ Ok l → exit ≡ l → record { answer : Ok tt ≡ answer_of o; bench : exit ≡ bench_left o entry }
  leaving {l} {exit} e k = let t = told_left o l entry exit e k in record { answer = t.0; bench = t.1 }

-- ---- telling

-- Places that were zeroed, filled.
filled_over : (places xs : List ℕ) → length xs ≤ 64 → filled 64 xs (filled 64 [] places) ≡ filled 64 xs places
unfolding filled
filled_over places xs h = ap (λ (t : List ℕ). xs ++ (zeros (64 - length xs) ++ t)) (drop_at (zeros 64) (drop 64 places) 64 (length_zeros 64))

module _ (bench places : List ℕ) where
  -- What `tell_rows` asks.
  pub tellable :
      (ys : List ℕ)
      → 64 ≤ length places
      → ys ≡ zeros (length (mid_of 0 64 places))
      → Sound bench
      → Tellable (state_at 0 bench) (put_mid 0 64 places ys)
  unfolding filled
  tellable ys h z s =
      let e = cleared 64 places places ys h refl z in
      let o = s.present.of_n in
      rw e
      (record {
        chain = s.present.chain;
        chained = o.chained;
        fits = omega (arith, o.sums, s.fits);
        is = s.present.rows;
        room = omega (arith, length_filled 64 [] places (omega arith) h);
        clear = take_at (zeros 64) (drop 64 places) 64 (length_zeros 64);
      })

  pub tell_few : length places < 64 → (Err LittleLent ≡ told_of bench places) × (places ≡ places_left bench places)
  unfolding told_of places_left
  tell_few h = rw (lt-ltb (length places) 64 h) (refl, refl)

  pub tell_little :
      64 ≤ length places
      → length bench < 378
      → (Err LittleLent ≡ told_of bench places) × (places ≡ places_left bench places)
  unfolding told_of places_left
  tell_little h k = rw (le-ltb (length places) 64 h) (sym (on_little Err bench _ k), sym (on_little (λ r. places) bench _ k))

  pub tell_lost :
      64 ≤ length places
      → 378 ≤ length bench
      → (Sound bench → ⊥)
      → (Err NoMove ≡ told_of bench places) × (places ≡ places_left bench places)
  unfolding told_of places_left
  tell_lost h k s = rw (le-ltb (length places) 64 h) (sym (on_lost Err bench _ k s), sym (on_lost (λ r. places) bench _ k s))

  pub tell_unready :
      64 ≤ length places
      → (r : Refusal)
      → ready bench ≡ Err r
      → (Err r ≡ told_of bench places) × (places ≡ places_left bench places)
  unfolding told_of places_left
  tell_unready h r e =
      rw (le-ltb (length places) 64 h) (sym (ready_refused Err bench _ r e), sym (ready_refused (λ r. places) bench _ r e))

  -- The places were zeroed up to 64 and then came back with the numbers of every chain that the present state is.
  pub tell_done :
      64 ≤ length places → 378 ≤ length bench → Sound bench → (k : ℕ) (zeroed exit : List ℕ)
      → zeroed ≡ filled 64 [] places
      → ((c : List Part) → Chained c → total c < 2 ^ 64 → state_at 0 bench ≡ rows_of 41 c → ToldRows c k zeroed exit)
      → (told (number_in bench) k ≡ told_of bench places) × (exit ≡ places_left bench places)
  unfolding told_of places_left
  tell_done h l s k zeroed exit z f =
      rw (le-ltb (length places) 64 h) (
        sym (on_sound Err bench _ (told (number_in bench) k) l s (λ t. ap (told (number_in bench)) (sym (at t).count))),
        sym
            (on_sound (λ r. places) bench _ exit l s
            (λ t. sym ((at t).numbers ∙ ap (filled 64 _) z ∙ filled_over places (map part_number t.present.chain) (few t)))),
      )
    where
      at : (t : Sound bench) → ToldRows t.present.chain k zeroed exit
      at t =
          let o = t.present.of_n in
          f t.present.chain o.chained (omega (arith, o.sums, t.fits)) t.present.rows

      few : (t : Sound bench) → length (map part_number t.present.chain) ≤ 64
      few t = omega (arith, length-map t.present.chain part_number, parts_bound (number_in bench) 64 t.present.chain t.present.of_n t.fits)
