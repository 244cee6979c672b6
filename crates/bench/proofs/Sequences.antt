-- Any sequence of calls on a bench: document 02, T-08.
-- In this order: calls, and the bench after them; the theorems of record: a bench that was opened on a chain of n stays sound and keeps
-- its n after any calls; saving and coming back lead back, whatever is called between but saving under the same name; coming back,
-- moving and walking leave all eight names as they were.
use Rattle.std.specs.Prelude.{◌≡◌, Err, Bool, List, [], ◌∷◌, ℕ, suc, ◌≤◌, ◌<◌, length}
use Rattle.std.proofs.Math.Path.{refl}
use Rattle.std.proofs.Common.{sym, ap, ◌∙◌, arith}
use Rattle.std.proofs.Math.Decide.{dec_lt, ℕ_discrete}
use Rattle.refusals.specs.declared.Refusal.TheVariants.{NoMove}
use Rattle.words.specs.Records.{record_parts, Burned}
use Rattle.moves.specs.Rows.{rows_of}
use Rattle.moves.proofs.MoveLaws.{move_keeps}
use Rattle.moves.proofs.Deciding.{movable}
use Rattle.moves.proofs.WalkLaws.{the_walk, walk_keeps}
use Rattle.bench.specs.Sound.{number_in, state_at, saved_in, Sound}
use Rattle.bench.specs.Benches.{with_saved, opened, bench_left, move_outcome, save_outcome, back_outcome, walk_left}
use Rattle.bench.specs.Benches.{walk_of}
use Rattle.bench.proofs.BenchLaws.{on_each, decided_each, save_done, save_refused, back_done, back_never, back_refused}
use Rattle.bench.proofs.Kept.{changed, length_present, Kept, kept_none, kept_present, saved_under, opened_is, opened_sound}
use Rattle.bench.proofs.Opening.{length_opened}

-- ---- calls

-- The calls that take a bench. Telling its chain changes nothing in it.
pub data Call : Type 0 where
  moving : (kind : ℕ) (up : Bool) (row : ℕ) → Call
  saving : (name : ℕ) → Call
  returning : (name : ℕ) → Call
  walking : Call
  telling : Call

-- The bench after a call: what the service's contract says that it leaves.
unfoldable pub after_call : Call → List ℕ → List ℕ
after_call (moving kind up row) bench = bench_left (move_outcome kind up row bench) bench
after_call (saving name) bench = bench_left (save_outcome name bench) bench
after_call (returning name) bench = bench_left (back_outcome name bench) bench
after_call walking bench = walk_left bench
after_call telling bench = bench

-- After calls, the first one first.
unfoldable pub after_calls : List Call → List ℕ → List ℕ
after_calls [] bench = bench
after_calls (call ∷ calls) bench = after_calls calls (after_call call bench)

-- ---- one call

module _ (l : List ℕ) (h : 378 ≤ length l) (s : Sound l) where
  -- Moving, coming back and walking replace the present chain, if anything.
  kept_move : (kind : ℕ) (up : Bool) (row : ℕ) → Kept l (bench_left (move_outcome kind up row l) l)
  unfolding move_outcome bench_left
  kept_move kind up row =
      on_each (λ o. Kept l (bench_left o l)) Err l _ h s
      (λ t. let n = number_in l in
      let c = t.present.chain in
      let k = t.present.of_n in
      decided_each (λ o. Kept l (bench_left o l)) (movable kind row up n c t.fits k) _ (Err NoMove)
      (λ m. kept_present (rows_of 41 m.0) l h s
      (record { chain = m.0; of_n = move_keeps n t.fits kind row up c m.0 k m.1; rows = refl }))
      (kept_none l s))

  kept_walk : Kept l (walk_left l)
  unfolding walk_left walk_of
  kept_walk =
      on_each (λ m. Kept l m) (λ r. l) l _ h s
      (λ t. let n = number_in l in
      let w = the_walk n t.fits t.present.chain t.present.of_n in
      kept_present (rows_of 41 w.last) l h s
      (record { chain = w.last; of_n = (walk_keeps n t.fits t.present.of_n w.walk).0; rows = refl }))

  kept_back : (name : ℕ) → Kept l (bench_left (back_outcome name l) l)
  unfolding bench_left
  kept_back name = go (dec_lt 7 name) (ℕ_discrete (saved_in name l) 0)
    where
      go : Dec (7 < name) → Dec (saved_in name l ≡ 0) → Kept l (bench_left (back_outcome name l) l)
      go (yes b) d = rw (back_refused name l h s b) (kept_none l s)
      go (no b) (yes e) = rw (back_never name l h s (omega arith) e) (kept_none l s)
      go (no b) (no e) = rw (back_done name l h s (omega arith) e) (kept_present (state_at (suc name) l) l h s (s.saved name (omega arith) e))

-- A call leaves a sound bench sound, and its n and length as they were.
pub record Stays (l m : List ℕ) : Type 0 where
  pub same : length m ≡ length l
  pub number : number_in m ≡ number_in l
  pub sound : Sound m

stays_kept : {l m : List ℕ} → Kept l m → Stays l m
stays_kept k = record { same = k.same; number = k.number; sound = k.sound }

call_stays : (call : Call) (l : List ℕ) → 378 ≤ length l → Sound l → Stays l (after_call call l)
unfolding after_call bench_left
call_stays (moving kind up row) l h s = stays_kept (kept_move l h s kind up row)
call_stays (returning name) l h s = stays_kept (kept_back l h s name)
call_stays walking l h s = stays_kept (kept_walk l h s)
call_stays telling l h s = stays_kept (kept_none l s)
call_stays (saving name) l h s = go (dec_lt 7 name)
  where
    go : Dec (7 < name) → Stays l (bench_left (save_outcome name l) l)
    go (yes b) = rw (save_refused name l h s b) (stays_kept (kept_none l s))
    go (no b) =
        let k = saved_under name l (omega arith) h s in
        rw (save_done name l h s (omega arith)) (record { same = k.same; number = k.number; sound = k.sound })

-- ---- the theorems of record

pub calls_stay : (calls : List Call) (l : List ℕ) → 378 ≤ length l → Sound l → Stays l (after_calls calls l)
unfolding after_calls
calls_stay [] l h s = stays_kept (kept_none l s)
calls_stay (call ∷ calls) l h s =
    let k = call_stays call l h s in
    let r = calls_stay calls (after_call call l) (omega (arith, k.same)) k.sound in
    record { same = r.same ∙ k.same; number = r.number ∙ k.number; sound = r.sound }

-- A bench opened on the chain of a record holds chains of its n after any calls: as its present state, and under each name saved.
pub bench_holds :
    (numbers entry : List ℕ) (n : ℕ) (calls : List Call)
    → Burned numbers n
    → 378 ≤ length entry
    → Sound (after_calls calls (opened n (record_parts numbers) entry))
    × (number_in (after_calls calls (opened n (record_parts numbers) entry)) ≡ n)
bench_holds numbers entry n calls b h =
    let c = record_parts numbers in
    let r =
    calls_stay calls (opened n c entry) (omega (arith, length_opened n c entry h)) (opened_sound n c entry b.fits b.chain) in
    (r.sound, r.number ∙ (opened_is n c entry).number)

-- Moving, coming back and walking leave all eight names as they were.
pub names_kept :
    (l : List ℕ) → 378 ≤ length l → Sound l
    → ((kind : ℕ) (up : Bool) (row : ℕ) → Kept l (after_call (moving kind up row) l))
    × ((name : ℕ) → Kept l (after_call (returning name) l))
    × Kept l (after_call walking l)
unfolding after_call
names_kept l h s = (kept_move l h s, kept_back l h s, kept_walk l h s)

-- A call that does not save under the name.
unfoldable pub Spares : ℕ → Call → Type 0
Spares name (saving other) = other ≡ name → ⊥
Spares name (moving kind up row) = Unit {0}
Spares name (returning other) = Unit {0}
Spares name walking = Unit {0}
Spares name telling = Unit {0}

abbrev pub AllSpare : ℕ → List Call → Type 0
AllSpare name [] = Unit {0}
AllSpare name (call ∷ calls) = Spares name call × AllSpare name calls

-- What is saved under a name.
pub record SameName (name : ℕ) (l m : List ℕ) : Type 0 where
  pub flag : saved_in name m ≡ saved_in name l
  pub state : state_at (suc name) m ≡ state_at (suc name) l

kept_name : {l m : List ℕ} (name : ℕ) → name < 8 → Kept l m → SameName name l m
kept_name name b k = record { flag = (k.names name b).0; state = (k.names name b).1 }

call_spares :
    (name : ℕ) (call : Call) (l : List ℕ)
    → name < 8
    → Spares name call
    → 378 ≤ length l
    → Sound l
    → SameName name l (after_call call l)
unfolding after_call bench_left Spares
call_spares name (moving kind up row) l b p h s = kept_name name b (kept_move l h s kind up row)
call_spares name (returning other) l b p h s = kept_name name b (kept_back l h s other)
call_spares name walking l b p h s = kept_name name b (kept_walk l h s)
call_spares name telling l b p h s = kept_name name b (kept_none l s)
call_spares name (saving other) l b p h s = go (dec_lt 7 other)
  where
    go : Dec (7 < other) → SameName name l (bench_left (save_outcome other l) l)
    go (yes d) = rw (save_refused other l h s d) (kept_name name b (kept_none l s))
    go (no d) =
        let k = (saved_under other l (omega arith) h s).others name b (λ e. p (sym e)) in
        rw (save_done other l h s (omega arith)) (record { flag = k.0; state = k.1 })

pub calls_spare :
    (name : ℕ) (calls : List Call) (l : List ℕ)
    → name < 8 → AllSpare name calls → 378 ≤ length l → Sound l → SameName name l (after_calls calls l)
unfolding after_calls
calls_spare name [] l b p h s = record { flag = refl; state = refl }
calls_spare name (call ∷ calls) l b p h s =
    let k = call_stays call l h s in
    let c = call_spares name call l b p.0 h s in
    let r = calls_spare name calls (after_call call l) b p.1 (omega (arith, k.same)) k.sound in
    record { flag = r.flag ∙ c.flag; state = r.state ∙ c.state }

-- Saving, then any calls that do not save under that name, then coming back: the present chain is the one that was saved.
pub save_and_back :
    (name : ℕ) (calls : List Call) (l : List ℕ)
    → name ≤ 7 → AllSpare name calls → 378 ≤ length l → Sound l
    → state_at 0 (after_call (returning name) (after_calls calls (after_call (saving name) l))) ≡ state_at 0 l
unfolding after_call bench_left
save_and_back name calls l b p h s =
    let k = saved_under name l (omega arith) h s in
    let e = save_done name l h s b in
    let m = with_saved name l in
    let r = calls_stay calls m (omega (arith, k.same)) k.sound in
    let f = calls_spare name calls m (omega arith) p (omega (arith, k.same)) k.sound in
    let z = after_calls calls m in
    let d = back_done name z (omega (arith, r.same, k.same)) r.sound b (λ q. omega (arith, q, f.flag, k.own.0)) in
    let n : length (state_at (suc name) z) ≡ 41 =
    omega (arith, ap length f.state, ap length k.own.1, length_present l s) in
    let c = changed 0 (state_at (suc name) z) z (omega arith) n (omega (arith, r.same, k.same)) in
    rw (e, d) (c.own ∙ f.state ∙ k.own.1)
