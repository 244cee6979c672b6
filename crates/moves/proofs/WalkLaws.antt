-- The walk of a chain of n, a number below 2^64, down to the binary chain: 003, theorem 1; document 02, T-08.
-- In this order: walks of a chain and of its rows; the theorems of record: every chain of n has one walk, its length is at most the
-- number of points with b at least 1 and 2^a × 3^b at most n, so at most 1,280, and it ends at the binary chain of n, which has as
-- many parts as n has one bits. So the only chain of a number with one chain is the binary one (T-11).
-- That a step takes the smallest part of the highest row is in Steps.
use Rattle.std.specs.Prelude.{◌≡◌, refl, List, [], ◌∷◌, ℕ, zero, suc, ◌+◌, ◌^◌, ◌≤◌, ◌<◌, drop}
use Rattle.std.proofs.Math.Path.{sym, ap}
use Rattle.std.proofs.Common.{◌∙◌, arith, pow_pos}
use Rattle.std.proofs.Math.Bool.{false}
use Rattle.std.proofs.Math.Decide.{dec_lt}
use Rattle.std.specs.Int.Count.{ones}
use Rattle.std.proofs.Math.ListN.{length, get_or}
use Rattle.chains.specs.Chains.{Part, ChainOf}
use Rattle.chains.specs.Few.{NamedForOne, OnlyChain}
use Rattle.chains.proofs.FewLists.{only_chain}
use Rattle.moves.specs.Moves.{Every, Binary, Walk, stop, step, TheWalk, points_in}
use Rattle.moves.specs.Rows.{Rows, amount, Zeros, zeros, Held, rows_of, count}
use Rattle.moves.specs.RowMoves.{DownRows, RowMove}
use Rattle.moves.proofs.RowLaws.{get_or_cut, all_drop, drop_all}
use Rattle.moves.specs.Walks.{WalkRows, stop as stop_rows, step as step_rows, points}
use Rattle.moves.proofs.Ends.{walk_exists, walk_one, walk_end, walk_held}
use Rattle.moves.proofs.Points.{points_are}
use Rattle.moves.proofs.Layouts.{length_rows, count_binary}
use Rattle.moves.proofs.Chaining.{every_map, every_with}
use Rattle.moves.proofs.RowsOf.{part_row, row_empty}
use Rattle.moves.proofs.MoveLaws.{chain_low, chain_held, chain_counts, same_rows, move_tie, move_keeps, move_for}

-- ---- walks of a chain and of its rows

-- Rows that are empty from row 1 on are at the end of the walk.
flat_walk : (R : Rows) → length R ≡ 41 → ((i : ℕ) → 0 < i → get_or R i 0 ≡ 0) → WalkRows R 0 R
flat_walk [] h f = absurd (omega arith)
flat_walk (x ∷ z) h f = stop_rows (all_drop (λ (y : ℕ). y ≡ 0) 1 (x ∷ z) (λ i g l. f i (omega arith)))

flat_at : (x : ℕ) (z : Rows) → Zeros z → (i : ℕ) → 0 < i → get_or (x ∷ z) i 0 ≡ 0
flat_at x z h zero p = absurd (omega arith)
flat_at x [] h (suc i) p = refl
flat_at x (y ∷ z) h (suc zero) p = h.0
flat_at x (y ∷ z) h (suc (suc i)) p = flat_at y z h.1 (suc i) (omega arith)

-- The rows above the two that a move down changes.
over_rows : {kind b : ℕ} {R R' : Rows} (r : DownRows kind b R R') → drop (suc (suc b)) R ≡ r.swap.over
over_rows {kind} {b} {R} r =
    let w = r.swap in
    ap (λ (l : Rows). drop (suc (suc b)) l) w.is_high ∙ (get_or_cut w.under w.x (w.s + w.y) w.over b w.row).2

over_zeros : {kind b : ℕ} {R R' : Rows} (r : DownRows kind b R R') → ((i : ℕ) → suc b < i → get_or R i 0 ≡ 0) → Zeros r.swap.over
over_zeros {kind} {b} {R} r f =
    rw (over_rows r) at (all_drop (λ (y : ℕ). y ≡ 0) (suc (suc b)) R (λ i g l. f i g))

zeros_above :
    {kind b : ℕ} {R R' : Rows} (r : DownRows kind b R R')
    → Zeros r.swap.over
    → (i : ℕ)
    → suc b < i
    → i < length R
    → get_or R i 0 ≡ 0
zeros_above {kind} {b} {R} r h i g l = drop_all (λ (y : ℕ). y ≡ 0) (suc (suc b)) R (rw (over_rows r) h) i g l

-- No part is in an empty row.
no_parts :
    (n : ℕ) (c : List Part) (i : ℕ)
    → n < 2 ^ 64
    → ChainOf n c
    → ((j : ℕ) → i < j → j < 41 → get_or (rows_of 41 c) j 0 ≡ 0)
    → Every (λ p. p.b ≤ i) c
no_parts n c i l h f =
    let low = chain_low n c l h in
    every_with c (λ p k g. at p k g (dec_lt i p.b)) low (part_row 41 c low)
  where
    at : (p : Part) → p.b < 41 → 2 ^ p.a ≤ get_or (rows_of 41 c) p.b 0 → Dec (i < p.b) → p.b ≤ i
    at p k g (yes e) = absurd (omega (arith, g, f p.b e k, pow_pos p.a))
    at p k g (no e) = omega arith

module _ (n : ℕ) (l : n < 2 ^ 64) where
  -- A walk of a chain is one of its rows.
  pub walk_rows : {c d : List Part} {j : ℕ} → ChainOf n c → Walk c j d → WalkRows (rows_of 41 c) j (rows_of 41 d)
  unfolding RowMove
  walk_rows {c} h (stop b) =
      flat_walk (rows_of 41 c) (length_rows 41 c) (λ i p. row_empty 41 i c (every_map c (λ q e f. omega (arith, e, f)) b))
  walk_rows {c} h (step {d = d} s w) =
      let k = move_keeps n l s.kind s.b false c d h s.down in
      let r : DownRows s.kind s.b (rows_of 41 c) (rows_of 41 d) = (move_tie n l s.kind s.b false c d h k).0 s.down in
      step_rows r
      (over_zeros r (λ i p. row_empty 41 i c (every_map c (λ q e f. omega (arith, e, f)) s.highest)))
      (walk_rows k w)

  rows_walk : {R D : Rows} {j : ℕ} → WalkRows R j D → (c : List Part) → ChainOf n c → R ≡ rows_of 41 c → (d : List Part) × Walk c j d
  unfolding RowMove
  rows_walk (stop_rows {n = x} {z} h) c k e =
      let low = no_parts n c 0 l k (λ i p g. ap (λ (R : Rows). get_or R i 0) (sym e) ∙ flat_at x z h i p) in
      (c, stop (every_map {P = λ p. p.b ≤ 0} {Q = λ p. p.b ≡ 0} c (λ p g. omega (arith, g)) low))
  rows_walk (step_rows {k = kind} {b} {c' = R'} r zs w) c k e =
      let f = move_for n l kind b false c R' k (rw e at r) in
      let top = no_parts n c (suc b) l k
      (λ i p g. ap (λ (R : Rows). get_or R i 0) (sym e) ∙ zeros_above r zs i p (omega (arith, g, ap length e, length_rows 41 c))) in
      let t = rows_walk w f.after f.of_n f.rows in
      (t.0, step (record { kind = kind; b = b; highest = top; down = f.move }) t.1)

  held_walk : (R : Rows) → Held R → (j : ℕ) × WalkRows R j (amount R ∷ zeros 40)
  held_walk [] h = absurd (omega (arith, h.rows))
  held_walk (x ∷ z) h =
      let r = walk_exists x z h.laid h.fits in
      let q : length z ≡ 40 = omega (arith, h.rows) in
      (r.0, rw q at r.2)

  -- ---- the theorems of record

  -- Every chain of n has a walk.
  pub the_walk : (c : List Part) → ChainOf n c → TheWalk c
  the_walk c h =
      let r = held_walk (rows_of 41 c) (chain_held n c l h).0 in
      let t = rows_walk r.1 c h refl in
      record { moves = r.0; last = t.0; walk = t.1 }

  -- The walk keeps a chain of n, and ends at the binary chain.
  pub walk_keeps : {c d : List Part} {j : ℕ} → ChainOf n c → Walk c j d → ChainOf n d × Binary d
  walk_keeps h (stop b) = (h, b)
  walk_keeps {c} h (step {d = d} s w) = walk_keeps (move_keeps n l s.kind s.b false c d h s.down) w

  -- It has one length and one end.
  pub walk_unique : (c d d' : List Part) (j j' : ℕ) → ChainOf n c → Walk c j d → Walk c j' d' → (j ≡ j') × (d ≡ d')
  walk_unique c d d' j j' h w w' =
      let r = walk_one (chain_held n c l h).0.fits (walk_rows h w) (walk_rows h w') in
      (r.0, same_rows n d d' l (walk_keeps h w).0 (walk_keeps h w').0 r.1)

  -- Its length is at most the number of points with b at least 1 and 2^a × 3^b at most n, and never above 1,280.
  pub walk_bound : (c d : List Part) (j : ℕ) → ChainOf n c → Walk c j d → (j ≤ points_in 40 n) × (j ≤ 1280)
  walk_bound c d j h w =
      let g = chain_held n c l h in
      let r = walk_held (rows_of 41 c) (rows_of 41 d) j g.0 (walk_rows h w) in
      (omega (arith, r.0, ap (λ (i : ℕ). points 40 i) g.1, points_are 40 n l), r.1)

  -- The rows of the binary chain: n is row 0.
  pub binary_rows : (c d : List Part) (j : ℕ) → ChainOf n c → Walk c j d → rows_of 41 d ≡ n ∷ zeros 40
  binary_rows c d j h w =
      let g = chain_held n c l h in
      rw (g.1, length_rows 41 c) at (walk_end (walk_rows h w))

  -- The binary chain at its end has as many parts as n has one bits.
  pub walk_ones : (c d : List Part) (j : ℕ) → ChainOf n c → Walk c j d → length d ≡ ones n
  walk_ones c d j h w =
      sym (chain_counts n d l (walk_keeps h w).0) ∙ ap count (binary_rows c d j h w) ∙ count_binary n 40

  -- Where n has one chain (document 02, T-11), it is the binary one.
  pub only_is_binary : NamedForOne n → (c : List Part) → ChainOf n c → Binary c × (length c ≡ ones n)
  unfolding OnlyChain
  only_is_binary o c h =
      let t = the_walk c h in
      let k = walk_keeps h t.walk in
      let only = (only_chain n).0 o in
      let same : t.last ≡ c = only.1 t.last k.0 ∙ sym (only.1 c h) in
      (rw same at k.1, rw same at (walk_ones c t.last t.moves h t.walk))
