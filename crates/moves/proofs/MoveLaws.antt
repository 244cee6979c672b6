-- What holds of the moves of a chain of n, a number below 2^64: document 02, T-08.
-- In this order: chains and their rows; the tie, that a move of a chain is a move of its rows and the other way round; the theorems of
-- record: a move keeps a chain of n, a move down is a move up undone, kind, direction and row determine the result.
use Rattle.std.specs.Prelude.{◌≡◌, refl, ◌↔◌, Bool, List, [], ◌∷◌, ◌++◌, ℕ, suc, ◌^◌, ◌≤◌, ◌<◌, length}
use Rattle.std.proofs.Common.{sym, ap, ◌∙◌, arith}
use Rattle.std.proofs.Math.Bool.{true, false}
use Rattle.chains.specs.Chains.{Part, value, Chained, total, ChainOf}
use Rattle.chains.proofs.Bounds.{part_bounds}
use Rattle.moves.specs.Moves.{part, Every, run, Up, first, second, Move}
use Rattle.moves.specs.Rows.{Rows, amount, Held, rows_of, count, Laying}
use Rattle.moves.specs.RowMoves.{UpRows, DownRows, RowMove}
use Rattle.moves.proofs.RowMoveLaws.{up_keeps, down_keeps, swap_amount, swap_within, swap_length}
use Rattle.moves.proofs.ChangeLaws.{up_found, down_found}
use Rattle.moves.proofs.Layouts.{LaidOut, laid_out, laid_out_none, length_rows, ChainFor, chain_for, rows_unique}
use Rattle.moves.proofs.Chaining.{every_map, every_append}
use Rattle.moves.proofs.UpChains.{up_chained, up_total}
use Rattle.moves.proofs.ChainRows.{up_rows, rows_up, every_of}

-- ---- chains and their rows

-- No part is more than the sum.
parts_least : (c : List Part) → Every (λ p. value p ≤ total c) c
unfolding total
parts_least [] = tt
parts_least (p ∷ c) = (omega arith, every_map c (λ q h. omega arith) (parts_least c))

-- The parts of a chain of a number below 2^64 are in 41 rows.
pub chain_low : (n : ℕ) (c : List Part) → n < 2 ^ 64 → ChainOf n c → Every (λ p. p.b < 41) c
chain_low n c l h = every_map c (λ p k. (part_bounds p (omega (arith, k, h.sums))).1) (parts_least c)

-- The largest part alone.
heads_low : (c : List Part) → Every (λ p. p.b < 41) c → (q : Part) (e : List Part) → c ≡ q ∷ e → q.b < 41
heads_low c h q e i = (every_of (λ p. p.b < 41) i h).0

laid_chain : (c : List Part) → Chained c → ((q : Part) (e : List Part) → c ≡ q ∷ e → q.b < 41) → LaidOut 41 c
laid_chain [] h f = laid_out_none 41
laid_chain (p ∷ c) h f = laid_out 41 p c h (f p c refl)

-- The rows of a chain of n hold a chain, and sum to n.
pub chain_held : (n : ℕ) (c : List Part) → n < 2 ^ 64 → ChainOf n c → Held (rows_of 41 c) × (amount (rows_of 41 c) ≡ n)
chain_held n c l h =
    let o = laid_chain c h.chained (heads_low c (chain_low n c l h)) in
    let e : amount (rows_of 41 c) ≡ n = o.sums ∙ h.sums in
    (record { rows = length_rows 41 c; laid = o.laid; fits = omega (arith, e) }, e)

-- The rows of a chain have a one bit for each part.
pub chain_counts : (n : ℕ) (c : List Part) → n < 2 ^ 64 → ChainOf n c → count (rows_of 41 c) ≡ length c
chain_counts n c l h = (laid_chain c h.chained (heads_low c (chain_low n c l h))).counts

-- Chains with the same rows are the same.
pub same_rows : (n : ℕ) (c d : List Part) → n < 2 ^ 64 → ChainOf n c → ChainOf n d → rows_of 41 c ≡ rows_of 41 d → c ≡ d
same_rows n c d l h k e =
    rows_unique 41 c d h.chained k.chained (heads_low c (chain_low n c l h)) (heads_low d (chain_low n d l k)) e

-- Rows that hold a chain are those of one.
pub held_chain : (R : Rows) → Held R → Laying (amount R) R
held_chain R h =
    let f : ChainFor 41 R = rw h.rows at (chain_for R h.laid) in
    record {
      chain = f.chain;
      of_n = record {
        chained = f.chained;
        sums = sym (laid_chain f.chain f.chained f.low).sums ∙ ap amount f.is;
      };
      rows = sym f.is;
    }

-- ---- the tie

-- A move of rows keeps the chain condition, the sum and the number of rows.
pub row_move_keeps : (kind b : ℕ) (up : Bool) (R R' : Rows) → Held R → RowMove kind up b R R' → Held R' × (amount R' ≡ amount R)
unfolding RowMove
row_move_keeps kind b true R R' h w =
    let a = swap_amount w.swap in
    (record { rows = omega (arith, swap_length w.swap, h.rows); laid = (up_keeps h.laid w).0; fits = omega (arith, a, h.fits) }, sym a)
row_move_keeps kind b false R R' h w =
    let a = swap_amount w.swap in
    (record { rows = omega (arith, swap_length w.swap, h.rows); laid = (down_keeps h.laid w).0; fits = omega (arith, a, h.fits) }, a)

-- The move is within 41 rows.
up_row : {kind b : ℕ} {c d : List Part} → Up kind b c d → Every (λ p. p.b < 41) d → suc b < 41
up_row {kind} {b} (first a u v f) h = (every_append (λ p. p.b < 41) u (part a (suc b) ∷ v) h).1.0
up_row {kind} {b} (second c k u v f gap free) h =
    let t = part c (suc b) ∷ part c b ∷ v in
    (every_append (λ p. p.b < 41) (run k c (suc b)) t (every_append (λ p. p.b < 41) u (run k c (suc b) ++ t) h).1).1.0

module _ (n : ℕ) (l : n < 2 ^ 64) where
  -- A move up keeps a chain of n.
  up_keeps_chain : {kind b : ℕ} {c d : List Part} → ChainOf n c → Up kind b c d → ChainOf n d
  up_keeps_chain h w = record { chained = up_chained w h.chained; sums = sym (up_total w) ∙ h.sums }

  up_there : {kind b : ℕ} {c d : List Part} → ChainOf n c → Up kind b c d → UpRows kind b (rows_of 41 c) (rows_of 41 d)
  up_there {kind} {b} {c} {d} h w = up_rows 41 w h.chained (up_row w (chain_low n d l (up_keeps_chain h w)))

  -- Kind and row determine where a move of rows leads to.
  up_one : (kind b : ℕ) (R R₁ R₂ : Rows) → Held R → UpRows kind b R R₁ → UpRows kind b R R₂ → R₁ ≡ R₂
  up_one kind b R R₁ R₂ h w₁ w₂ =
      let g = (swap_within w₁.swap).0 in
      (up_found b R g h.fits kind R₁ h.laid w₁).is ∙ sym (up_found b R g h.fits kind R₂ h.laid w₂).is

  down_one : (kind b : ℕ) (R R₁ R₂ : Rows) → Held R → DownRows kind b R R₁ → DownRows kind b R R₂ → R₁ ≡ R₂
  down_one kind b R R₁ R₂ h w₁ w₂ =
      let g = (swap_within w₁.swap).1 in
      (down_found b R g h.fits kind R₁ w₁).is ∙ sym (down_found b R g h.fits kind R₂ w₂).is

  up_back : (kind b : ℕ) (c d : List Part) → ChainOf n c → ChainOf n d → UpRows kind b (rows_of 41 c) (rows_of 41 d) → Up kind b c d
  up_back kind b c d h k w =
      let f = rows_up 41 b c h.chained (chain_low n c l h) w in
      let e = up_one kind b (rows_of 41 c) (rows_of 41 f.after) (rows_of 41 d) (chain_held n c l h).0 (up_there h f.up) w in
      let s : f.after ≡ d = same_rows n f.after d l (up_keeps_chain h f.up) k e in
      rw s at f.up

  -- A move leads from a chain of n to another exactly if the move of rows leads from its rows to the other's.
  pub move_tie :
      (kind b : ℕ) (up : Bool) (c d : List Part)
      → ChainOf n c → ChainOf n d
      → Move kind up b c d ↔ RowMove kind up b (rows_of 41 c) (rows_of 41 d)
  unfolding Move RowMove
  move_tie kind b true c d h k = (λ w. up_there h w, λ w. up_back kind b c d h k w)
  move_tie kind b false c d h k = (
    λ w. (up_keeps (chain_held n d l k).0.laid (up_there k w.1)).1,
    λ w. (k.chained, up_back kind b d c k h (down_keeps (chain_held n c l h).0.laid w).1),
  )

  -- ---- the theorems of record

  -- A move on a chain of n gives a chain of n.
  pub move_keeps : (kind b : ℕ) (up : Bool) (c d : List Part) → ChainOf n c → Move kind up b c d → ChainOf n d
  unfolding Move
  move_keeps kind b true c d h w = up_keeps_chain h w
  move_keeps kind b false c d h w = record { chained = w.0; sums = up_total w.1 ∙ h.sums }

  -- Kind, direction and row determine the result.
  pub move_one : (kind b : ℕ) (up : Bool) (c d d' : List Part) → ChainOf n c → Move kind up b c d → Move kind up b c d' → d ≡ d'
  unfolding RowMove
  move_one kind b up c d d' h w w' =
      let k = move_keeps kind b up c d h w in
      let k' = move_keeps kind b up c d' h w' in
      same_rows n d d' l k k' (one up ((move_tie kind b up c d h k).0 w) ((move_tie kind b up c d' h k').0 w'))
    where
      one :
          (up : Bool)
          → RowMove kind up b (rows_of 41 c) (rows_of 41 d)
          → RowMove kind up b (rows_of 41 c) (rows_of 41 d')
          → rows_of 41 d ≡ rows_of 41 d'
      one true x y = up_one kind b (rows_of 41 c) (rows_of 41 d) (rows_of 41 d') (chain_held n c l h).0 x y
      one false x y = down_one kind b (rows_of 41 c) (rows_of 41 d) (rows_of 41 d') (chain_held n c l h).0 x y

  -- A move of the rows of a chain of n leads to the rows of a chain of n, and the move of the chain leads to that chain.
  pub record MoveFor (kind b : ℕ) (up : Bool) (c : List Part) (R : Rows) : Type 0 where
    pub after : List Part
    pub of_n : ChainOf n after
    pub rows : R ≡ rows_of 41 after
    pub move : Move kind up b c after

  pub move_for :
      (kind b : ℕ) (up : Bool) (c : List Part) (R : Rows)
      → ChainOf n c
      → RowMove kind up b (rows_of 41 c) R
      → MoveFor kind b up c R
  move_for kind b up c R h w =
      let g = chain_held n c l h in
      let k = row_move_keeps kind b up (rows_of 41 c) R g.0 w in
      let e : amount R ≡ n = k.1 ∙ g.1 in
      let f = held_chain R k.0 in
      let o : ChainOf n f.chain = rw e at f.of_n in
      record {
        after = f.chain;
        of_n = o;
        rows = f.rows;
        move = (move_tie kind b up c f.chain h o).1 (rw f.rows at w);
      }

-- A move down is a move up undone, and a move up is a move down undone.
pub move_undone :
    (n kind b : ℕ) (c d : List Part) → ChainOf n c → ChainOf n d → Move kind true b c d ↔ Move kind false b d c
unfolding Move
move_undone n kind b c d h k = (λ w. (h.chained, w), λ w. w.1)
