-- What the calls on a sound bench do, said of its present chain: document 02, T-08.
-- The contracts name decisions; these theorems say what they come to. A move of the chain is made where 003 has one and leads to the
-- chain that 003 says, and is refused with 17 where 003 has none. The walk is 003's.
use Rattle.std.specs.Prelude.{◌≡◌, Ok, Err, Bool, List, ℕ, ◌≤◌, length}
use Rattle.std.specs.Int.Count.{ones}
use Rattle.chains.specs.Chains.{Part, ChainOf}
use Rattle.refusals.specs.declared.Refusal.TheVariants.{NoMove}
use Rattle.moves.specs.Moves.{Move, Binary, Walk, points_in}
use Rattle.moves.specs.Rows.{Rows, rows_of}
use Rattle.moves.specs.RowMoves.{RowMove}
use Rattle.moves.specs.Walks.{WalkRows}
use Rattle.moves.proofs.MoveLaws.{move_for}
use Rattle.moves.proofs.WalkLaws.{walk_rows, walk_keeps, walk_bound, walk_ones}
use Rattle.bench.specs.Sound.{number_in, state_at, Sound}
use Rattle.bench.specs.Benches.{with_state, move_outcome, walked_of, walk_left}
use Rattle.bench.proofs.BenchLaws.{walked, row_of_lem, move_done, move_stuck, walk_told, walk_left_lem}

module _ (bench : List ℕ) (h : 378 ≤ length bench) (s : Sound bench) where
  -- The present chain.
  abbrev pub chain : List Part
  chain = s.present.chain

  pub bench_moved :
      (kind row : ℕ) (up : Bool) (d : List Part)
      → Move kind up row chain d
      → move_outcome kind up row bench ≡ Ok (with_state 0 (rows_of 41 d) bench)
  bench_moved kind row up d m = move_done kind row up bench h s (rows_of 41 d) (row_of_lem kind row up bench s d m)

  pub bench_not_moved :
      (kind row : ℕ) (up : Bool)
      → ((d : List Part) → Move kind up row chain d → ⊥)
      → move_outcome kind up row bench ≡ Err NoMove
  bench_not_moved kind row up f = move_stuck kind row up bench h s none
    where
      none : (R : Rows) → RowMove kind up row (state_at 0 bench) R → ⊥
      none R w =
          let g = move_for (number_in bench) s.fits kind row up chain R s.present.of_n (rw s.present.rows at w) in
          f g.after g.move

  -- The walk of the present chain: what is told, what is left, and its bounds.
  pub record Walks (d : List Part) (j : ℕ) : Type 0 where
    pub told : walked_of bench ≡ walked j (length d)
    pub left : walk_left bench ≡ with_state 0 (rows_of 41 d) bench
    pub binary : ChainOf (number_in bench) d × Binary d
    pub parts : length d ≡ ones (number_in bench)
    pub few : (j ≤ points_in 40 (number_in bench)) × (j ≤ 1280)

  pub bench_walked : (d : List Part) (j : ℕ) → Walk chain j d → Walks d j
  bench_walked d j w =
      let n = number_in bench in
      let k = s.present.of_n in
      let r : WalkRows (state_at 0 bench) j (rows_of 41 d) = rw s.present.rows (walk_rows n s.fits k w) in
      let o = walk_ones n s.fits chain d j k w in
      record {
        told = rw o (walk_told bench h s (rows_of 41 d) j r);
        left = walk_left_lem bench h s (rows_of 41 d) j r;
        binary = walk_keeps n s.fits k w;
        parts = o;
        few = walk_bound n s.fits chain d j k w;
      }
