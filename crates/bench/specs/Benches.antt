-- A bench for moving chains, in the numbers that a caller lends: document 02, T-08.
-- In this order: a bench that changes; what every service looks at first; opening, moving, saving and coming back; walking; telling.
-- Definitions only. Where things are in a bench, and when it is sound, is in Sound. What a call does to the present chain is in
-- Promises, and what holds after any calls in Sequences.
--
-- Three decisions come from theory, and their types say all that matters: `sound?` says whether a bench is sound, `movable` whether
-- there is a move and to which chain it leads, `the_walk` gives the walk of a chain.
use Rattle.std.specs.Prelude.{Result, Ok, Err, Bool, cond, List, ◌∷◌, ◌++◌, map, ℕ, suc, ◌+◌, ◌*◌, ltb, eqb, length, set, take, drop}
use Rattle.chains.specs.Chains.{Part}
use Rattle.refusals.specs.declared.Refusal.{Refusal}
use Rattle.refusals.specs.declared.Refusal.TheVariants.{LittleLent, NoMove, NoSuchName}
use Rattle.lent.specs.Lent.{zeros, filled}
use Rattle.parts.specs.Parts.{part_number}
use Rattle.words.specs.Records.{record_parts, judged_of}
use Rattle.moves.specs.Rows.{rows_of}
use Rattle.moves.proofs.Deciding.{movable}
use Rattle.moves.specs.Moves.{TheWalk}
use Rattle.moves.proofs.WalkLaws.{the_walk}
use Rattle.bench.specs.Sound.{number_in, state_at, saved_in, Sound}
use Rattle.bench.specs.Judging.{sound?}
use Rattle.bench.specs.declared.Walked.{Walked}
use Rattle.bench.specs.declared.Told.{Told}

-- ---- a bench that changes

-- How many numbers a bench has. The code says it once too, as `BENCH`.
abbrev pub bench_size : ℕ
bench_size = 378

-- Other rows as the state i.
unfoldable pub with_state : ℕ → List ℕ → List ℕ → List ℕ
with_state i rows bench = take (41 * i) bench ++ (rows ++ drop (41 * i + 41) bench)

-- The present chain saved under a name.
unfoldable pub with_saved : ℕ → List ℕ → List ℕ
with_saved name bench = set (with_state (suc name) (state_at 0 bench) bench) (370 + name) 1

-- A bench of the chain c of n, with no name saved. Numbers after the bench are as they were.
unfoldable pub opened : ℕ → List Part → List ℕ → List ℕ
opened n c entry = rows_of 41 c ++ (zeros 328 ++ (n ∷ (zeros 8 ++ drop bench_size entry)))

-- ---- what every service looks at first

-- f of the proof where the answer is yes, else `otherwise`.
unfoldable pub decided : {A B : Type 0} → Dec A → (A → B) → B → B
decided (yes a) f otherwise = f a
decided (no a) f otherwise = otherwise

-- Refusal 1 where fewer than 378 numbers are lent, then 17 where the bench is not sound, else what f says.
unfoldable pub on_bench : {A : Type 0} → (Refusal → A) → (bench : List ℕ) → (Sound bench → A) → A
on_bench refuse bench f = cond (ltb (length bench) bench_size) (refuse LittleLent) (decided (sound? bench) f (refuse NoMove))

-- The refusal of such a bench, if there is one.
unfoldable pub ready : List ℕ → Result (Unit {0}) Refusal
ready bench = on_bench Err bench (λ s. Ok tt)

-- ---- opening, moving, saving, coming back

-- What the bench is afterwards, or the refusal.
abbrev pub Outcome : Type 0
Outcome = Result (List ℕ) Refusal

-- What such a service answers, and what it leaves in the lent numbers: as they were with a refusal.
unfoldable pub answer_of : Outcome → Result (Unit {0}) Refusal
answer_of (Err r) = Err r
answer_of (Ok bench) = Ok tt

unfoldable pub bench_left : Outcome → List ℕ → List ℕ
bench_left (Err r) entry = entry
bench_left (Ok bench) entry = bench

-- Opening: 1, then what the record gets: 8, 9, 10, or a bench of its chain.
unfoldable pub opened_as : List ℕ → List ℕ → Result ℕ Refusal → Outcome
opened_as numbers entry (Ok n) = Ok (opened n (record_parts numbers) entry)
opened_as numbers entry (Err r) = Err r

unfoldable pub open_outcome : List ℕ → List ℕ → Outcome
open_outcome numbers entry = cond (ltb (length entry) bench_size) (Err LittleLent) (opened_as numbers entry (judged_of numbers))

-- Moving the present chain: 17 where 003 has no such move.
unfoldable pub move_outcome : ℕ → Bool → ℕ → List ℕ → Outcome
move_outcome kind up row bench =
    on_bench Err bench
    (λ s. decided (movable kind row up (number_in bench) s.present.chain s.fits s.present.of_n)
    (λ m. Ok (with_state 0 (rows_of 41 m.0) bench))
    (Err NoMove))

-- Saving the present chain: 18 for a name above 7.
unfoldable pub save_outcome : ℕ → List ℕ → Outcome
save_outcome name bench = on_bench Err bench (λ s. cond (ltb 7 name) (Err NoSuchName) (Ok (with_saved name bench)))

-- Coming back: 18 for a name above 7, or one never saved.
unfoldable pub back_outcome : ℕ → List ℕ → Outcome
back_outcome name bench =
    on_bench Err bench
    (λ s. cond (ltb 7 name) (Err NoSuchName)
    (cond (eqb (saved_in name bench) 0) (Err NoSuchName)
    (Ok (with_state 0 (state_at (suc name) bench) bench))))

-- ---- walking

-- The walk of the present chain.
unfoldable pub walk_of : (bench : List ℕ) (s : Sound bench) → TheWalk s.present.chain
walk_of bench s = the_walk (number_in bench) s.fits s.present.chain s.present.of_n

-- The number of its moves, and how many parts the chain has that it ends with; and the bench with that chain.
unfoldable pub walked_of : List ℕ → Result Walked Refusal
walked_of bench =
    on_bench Err bench (λ s. Ok (record { moves = (walk_of bench s).moves; k = length (walk_of bench s).last }))

unfoldable pub walk_left : List ℕ → List ℕ
walk_left bench = on_bench (λ r. bench) bench (λ s. with_state 0 (rows_of 41 (walk_of bench s).last) bench)

-- ---- telling

-- The present chain: n and the number of parts; refused with 1 where fewer than 64 places are lent, too.
unfoldable pub told_of : List ℕ → List ℕ → Result Told Refusal
told_of bench places =
    cond (ltb (length places) 64) (Err LittleLent)
    (on_bench Err bench (λ s. Ok (record { n = number_in bench; k = length s.present.chain })))

-- The places at exit: the part numbers, largest part first, zeros up to 64, later places untouched; untouched with a refusal.
unfoldable pub places_left : List ℕ → List ℕ → List ℕ
places_left bench places =
    cond (ltb (length places) 64) places
    (on_bench (λ r. places) bench (λ s. filled 64 (map part_number s.present.chain) places))
